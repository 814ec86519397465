use Rattle.std.proofs.Common.{ℕ, ◌+◌, List, ap, subst, sym, lit<, ◌∙◌}
use Rattle.rib_store.specs.Plan.{Planned}
use Rattle.fib_sync.specs.VersionNames.{fresh_at, pairs_at}
use Rattle.epoch_core.specs.Fresh.{AreFresh}
use Rattle.epoch_core.specs.SeatViews.{ControlView}
use Rattle.fib_pass.proofs.FreshLemmas.{fresh_pairs_are_free}
use Rattle.fib_pass.proofs.publisher.Publisher.prepare.Goals as goal

pub prepare-requires : goal.prepare-requires
prepare-requires g c =
    let s = c.self.inside.seat in
    let same = c.fresh.ensures ∙ (λ i. (c.deref.ensures i).fresh) ∙ c.requires.fresh ∙ ap (λ (x : ControlView (Planned g.row.W)). fresh_at g.row.K g.row.LIVE x.key (x.own.version + 1)) (sym c.self.view_is) in
    (lit< tt, (lit< tt, subst (λ (f : List (ℕ × ℕ)). AreFresh g.row.K (λ u. pairs_at g.row.K g.row.LIVE s.key u) s.own.version f) (sym same) (fresh_pairs_are_free g.row.W g.row.K g.row.LIVE s.key s.own.version c.self.invariant.banks)))
