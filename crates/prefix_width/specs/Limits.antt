-- Limits of a family: how many versions its readers may hold, how many targets are live, and its greatest index.
use Rattle.std.specs.Prelude.{ℕ, ◌+◌, ◌-◌, ◌*◌, ◌≤◌}

-- how many banks there may be: each holds one of the last versions
abbrev pub AreBanks : ℕ → Type 0
AreBanks banks = (2 ≤ banks) × (banks ≤ 8)

-- how many live targets a table may be given room for
abbrev pub AreTargets : ℕ → Type 0
AreTargets targets = (1 ≤ targets) × (targets ≤ 4095)

-- the greatest index: as many as the targets of all banks, and one more a bank, less one
abbrev pub last_index : ℕ → ℕ → ℕ
last_index banks targets = banks * (targets + 1) - 1
