use Rattle.module_trait.specs.Nodes.{contents, IsFilled}
use Rattle.module_trait.proofs.frozen.filled.Given as goal

abbrev pub invariant-loop-key : goal.invariant-loop-key
invariant-loop-key g l = IsFilled g.row.PAGE (contents l.pages.items) l.slab.slots 0 l.key
