use Rattle.std.proofs.Common.{◌≡◌, ◌≤◌, ◌*◌, ◌^◌, sym, ap, ◌∙◌, arith, length, lit<}
use Rattle.std.proofs.lemmas.List.{length-map}
use Rattle.module_trait.specs.Nodes.{contents, cells_of, node_at, marked}
use Rattle.module_trait.proofs.PageLemmas.{marked_blank, room_for, thawed_same, thawed_kept}
use Rattle.module_trait.proofs.frozen.FrozenNodes.thaw.Goals as goal

pub of-requires : goal.of-requires
of-requires g c =
    let size = g.row.PAGE in
    let pages = contents c.self.inside.pages.items in
    let count = length-map c.self.inside.pages.items (cells_of {T = g.row.T.Denot}) in
    let as_many : c.len-page_count.result ≡ length pages = omega arith in
    let whole = ap (λ n. n * size) as_many in
    let shared = ap length c.in_ok-pages.ensures in
    let fits : c.len-page_count.result * size ≤ 2 ^ 64 = omega (arith, room_for size c.len-page_count.result 18446744073709551615 (omega arith)) in
    let same = thawed_same size c.in_ok-slab.slab.slots pages _ c.self.invariant whole c.in_ok-slab.ensures.same c.in_ok-slab.ensures.past in
    (lit< tt, rw c.in_ok-pages.ensures (thawed_kept size _ pages c.in_ok-marks.marks.items _ c.self.invariant fits whole same c.in_ok-slab.ensures.past (omega (arith, c.in_ok-marks.ensures.len))))

pub returns-clause-same : goal.returns-clause-same
returns-clause-same g c =
    let size = g.row.PAGE in
    let pages = contents c.self.inside.pages.items in
    let count = length-map c.self.inside.pages.items (cells_of {T = g.row.T.Denot}) in
    let as_many : c.len-page_count.result ≡ length pages = omega arith in
    let whole = ap (λ n. n * size) as_many in
    let same = thawed_same size c.in_ok-slab.slab.slots pages _ c.self.invariant whole c.in_ok-slab.ensures.same c.in_ok-slab.ensures.past in
    rw (← c.self.view_is) (λ key. ap (λ slots. node_at slots key) c.of.ensures.slots ∙ sym (same key))

pub returns-clause-unsettled : goal.returns-clause-unsettled
returns-clause-unsettled g c = c.of.ensures.unsettled ∙ ap marked (c.in_ok-marks.ensures.items_if_clones_equal (λ y e. e)) ∙ marked_blank c.len-page_count.result
