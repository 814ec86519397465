-- The edits so far, and those of the prefixes that are left, are all.
use Rattle.std.proofs.Common.{◌≡◌, ◌++◌}
use Rattle.module_trait.specs.View.{row_at}
use Rattle.fib_edits.specs.Named.{number_in, index_at}
use Rattle.fib_edits.specs.Edits.{edits_at}
use Rattle.fib_edits.proofs.touched.Touched.edits.Given as goal

abbrev pub invariant-loop-prefix : goal.invariant-loop-prefix
invariant-loop-prefix g l = l.edits.items ++ edits_at (row_at l.view) (index_at (number_in l.indexes.names) l.rib.rows) l.prefix-iterator ≡ edits_at (row_at l.view) (index_at (number_in l.indexes.names) l.rib.rows) l.self
