use Rattle.std.proofs.Common.{◌≡◌, ℕ, ◌+◌, ◌<◌, ◌≤◌, None}
use Rattle.module_trait.specs.Nodes.{node_at}
use Rattle.module_trait.proofs.pages.slots_in.Given as goal

abbrev pub invariant-loop-i : goal.invariant-loop-i
invariant-loop-i g l = (k : ℕ) → l.i ≤ k → k < g.row.PAGE → node_at l.slab.slots (l.base + k) ≡ None
