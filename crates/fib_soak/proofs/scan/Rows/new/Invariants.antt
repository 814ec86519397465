-- The rows so far and those of the places that are left are all rows.
use Rattle.std.proofs.Common.{◌≡◌, ◌++◌, drop}
use Rattle.fib_soak.specs.Rows.{rows_after, rows_from}
use Rattle.fib_soak.proofs.scan.Rows.new.Given as goal

abbrev pub invariant-loop-place : goal.invariant-loop-place
invariant-loop-place l =
    l.rows.items ++ rows_from l.turns l.count l.place (drop l.place l.course.prefixes.items) ≡ rows_after l.course.prefixes.items l.turns
