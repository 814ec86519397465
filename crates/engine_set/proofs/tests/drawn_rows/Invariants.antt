use Rattle.std.proofs.Common.{◌≤◌}
use Rattle.std.specs.Prelude.{All}
use Rattle.std.specs.Map.{values_of}
use Rattle.engine_set.proofs.tests.drawn_rows.Given as goal

abbrev pub invariant-loop : goal.invariant-loop
invariant-loop g l = All (λ i. (1 ≤ i) × (i ≤ 4)) (values_of l.view)
