use Rattle.std.proofs.Common.{◌≡◌, ◌≤◌, ◌<◌, ◌+◌, ◌*◌, ◌/◌, ◌^◌, arith, ap, ◌∙◌, length, length-append, None, [], ◌∷◌}
use Rattle.module_trait.proofs.PageLemmas.{covered, room_for}
use Rattle.module_trait.proofs.pages.cover.Goals as goal

pub loop-page-preserved : goal.loop-page-preserved
loop-page-preserved g c =
    let inv = c.loop-page.invariant in
    let room : (length c.loop-page.pages.items + 1) * g.row.PAGE ≤ 2 ^ 64 =
    omega (arith, room_for g.row.PAGE (length c.loop-page.pages.items + 1) 18446744073709551615 (omega (arith, inv.count))) in
    let done = covered _ _ _ _ _ _ room inv.kept c.in_ok-push.ensures.items (rw c.in_ok-reserve.ensures.items at c.push_reserved.ensures.items) in
    let more = length-append c.loop-page.pages.items (None ∷ []) in
    record {
      kept = done.0;
      count = omega (arith, ap length c.in_ok-push.ensures.items, more, inv.count);
      marked = done.1 ∙ inv.marked;
    }
