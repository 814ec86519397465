-- What readers find, and what the control does beside them.
use Rattle.std.specs.Prelude.{◌≡◌, ◌+◌, ◌≤◌, ℕ}
use Rattle.atomic_table.specs.Seated.{TableId}
use Rattle.epoch_bench.specs.declared.beside.Read.{Read}
use Rattle.epoch_bench.specs.declared.reader.Found.{Found}
use Rattle.epoch_bench.specs.declared.writer.Goal.{Goal}
use Rattle.epoch_bench.specs.declared.writer.TheConstants.{VERSION_MAX}
use Rattle.epoch_bench.specs.declared.writer.Goal.TheVariants.{Versions, WhileRead}

-- so many times a reader entered, the value was that of the version, and no version was below the one before
abbrev pub rightly : ℕ → Found
rightly entered = record { entered = entered; equal = entered; fell = 0 }

-- a control that had published the version `from` comes to its goal with the version `to`
abbrev pub Reaches : Goal → ℕ → ℕ → Type 0
Reaches (Versions count) from to = to ≡ from + count
Reaches WhileRead from to = from ≤ to

-- it can: there are as many versions as it counts
abbrev pub HasRoom : Goal → ℕ → Type 0
HasRoom (Versions count) from = from + count ≤ VERSION_MAX
HasRoom WhileRead from = Unit {0}

-- a new reader's seat of this table has read so often, rightly
abbrev pub HasRead : TableId → ℕ → Read → Type 0
HasRead table rounds read =
    (read.seat.table ≡ table) × (read.seat.own.enters ≡ rounds) × (read.found ≡ rightly rounds)
