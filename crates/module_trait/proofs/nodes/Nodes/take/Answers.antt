use Rattle.std.proofs.Common.{◌/◌, arith}
use Rattle.module_trait.proofs.PageLemmas.{kept_set, marked_set}
use Rattle.module_trait.proofs.nodes.Nodes.take.Goals as goal

pub invariant_of-self : goal.invariant_of-self
invariant_of-self g c =
    let room = c.self.invariant.1 in
    let taken = c.remove-node.ensures in
    let present = rw (← c.self.view_is) at c.requires in (
      rw (c.mark.ensures, taken.slots) (kept_set _ _ _ _ _ _ c.self.invariant.0 present),
      record {
        fits = λ h. omega (arith, room.fits h, taken.len, taken.capacity);
        within = λ h. omega (arith, room.within h);
        paged = λ h. omega (arith, room.paged h);
      },
    )

pub returns-clause-unsettled : goal.returns-clause-unsettled
returns-clause-unsettled g c = rw (c.mark.ensures, ← c.self.view_is) (marked_set c.self.inside.marks.items (c.args.key / g.row.PAGE))
