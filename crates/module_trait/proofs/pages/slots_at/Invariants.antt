use Rattle.std.proofs.Common.{◌≡◌, ℕ, ◌+◌, ◌<◌, length, get_or, None}
use Rattle.module_trait.specs.Nodes.{node_at}
use Rattle.module_trait.proofs.pages.slots_at.Given as goal

abbrev pub invariant-loop-i : goal.invariant-loop-i
invariant-loop-i g l = (length l.cells.items ≡ l.i) × ((k : ℕ) → k < l.i → get_or l.cells.items k None ≡ node_at l.slab.slots (l.base + k))
