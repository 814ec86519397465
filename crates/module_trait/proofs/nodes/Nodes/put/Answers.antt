use Rattle.std.proofs.Common.{◌/◌, ◌<◌, ◌*◌, arith, length}
use Rattle.std.proofs.lemmas.List.{length-map}
use Rattle.module_trait.specs.Nodes.{cells_of, contents}
use Rattle.module_trait.proofs.PageLemmas.{kept_write, marked_set}
use Rattle.module_trait.proofs.nodes.Nodes.put.Goals as goal

pub invariant_of-self : goal.invariant_of-self
invariant_of-self g c =
    let kept = c.self.invariant.0 in
    let room = c.self.invariant.1 in
    let added = c.insert_reserved-key.ensures in
    let pages = c.self.inside.pages.items in
    let count = length-map pages (cells_of {T = g.row.T.Denot}) in
    let some : 0 < c.self.inside.spare = rw (← c.self.view_is) at c.requires in
    let fits = room.fits some in
    let covered = room.paged some in
    let within : c.insert_reserved-key.result < length (contents pages) * g.row.PAGE = rw count (omega arith) in (
      rw c.mark.ensures (kept_write _ _ _ _ _ _ kept added.updates.others within),
      record {
        fits = λ h. omega arith;
        within = λ h. omega (arith, room.within some);
        paged = λ h. omega (arith, covered);
      },
    )

pub returns-clause-unsettled : goal.returns-clause-unsettled
returns-clause-unsettled g c = rw (c.mark.ensures, ← c.self.view_is) (marked_set c.self.inside.marks.items (c.insert_reserved-key.result / g.row.PAGE))
