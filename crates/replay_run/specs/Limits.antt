-- Limits of the program.
use Rattle.std.specs.Prelude.{ℕ}

-- how many live targets a family's table may have
abbrev pub targets_max : ℕ
targets_max = 4095

-- in how many banks the versions of a family stand
abbrev pub banks : ℕ
banks = 8
