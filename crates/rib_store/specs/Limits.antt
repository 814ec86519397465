-- Limits of a table and of a plan.
use Rattle.std.specs.Prelude.{ℕ}

-- how many routes a table may have
abbrev pub routes_max : ℕ
routes_max = 262144

-- how many commands a plan may have
abbrev pub plan_max : ℕ
plan_max = 1048576
