-- The rows so far are in the view.
use Rattle.fib_edits.specs.Named.{number_in}
use Rattle.fib_edits.proofs.CutLemmas.{Views}
use Rattle.fib_edits.proofs.version_view.view_of.Given as goal

abbrev pub invariant-loop-prefix : goal.invariant-loop-prefix
invariant-loop-prefix g l = Views (number_in l.indexes.names) l.rib.rows l.prefix-iterator l.view
