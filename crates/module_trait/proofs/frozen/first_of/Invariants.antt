use Rattle.module_trait.specs.Nodes.{contents, IsBare}
use Rattle.module_trait.proofs.frozen.first_of.Given as goal

abbrev pub invariant-loop-key : goal.invariant-loop-key
invariant-loop-key g l = IsBare g.row.PAGE (contents l.pages.items) l.key
