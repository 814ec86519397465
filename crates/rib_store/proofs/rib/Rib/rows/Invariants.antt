-- The rows so far, and those that are left, are all.
use Rattle.std.proofs.Common.{◌≡◌, ◌++◌}
use Rattle.rib_store.proofs.rib.Rib.rows.Given as goal

abbrev pub invariant-loop-prefix : goal.invariant-loop-prefix
invariant-loop-prefix g l = l.rows.items ++ l.prefix-iterator ≡ l.self.rows
