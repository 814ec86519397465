use Rattle.std.proofs.Common.{◌/◌, arith}
use Rattle.module_trait.proofs.PageLemmas.{kept_set, len_set, marked_set}
use Rattle.module_trait.proofs.nodes.Nodes.set.Goals as goal

pub invariant_of-self : goal.invariant_of-self
invariant_of-self g c =
    let present = rw (← c.self.view_is) at c.requires in
    let room = c.self.invariant.1 in
    let same = len_set c.self.inside.slab.slots c.args.key c.args.node present in (
      rw c.mark.ensures (kept_set _ _ _ _ _ _ c.self.invariant.0 present),
      record {
        fits = λ h. omega (arith, room.fits h, same);
        within = room.within;
        paged = room.paged;
      },
    )

pub returns-clause-unsettled : goal.returns-clause-unsettled
returns-clause-unsettled g c = rw (c.mark.ensures, ← c.self.view_is) (marked_set c.self.inside.marks.items (c.args.key / g.row.PAGE))
