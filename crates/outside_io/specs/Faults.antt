-- Counts of faults, and when one has risen.
use Rattle.std.specs.Prelude.{ℕ, ◌+◌, ◌-◌, ◌^◌, ◌≤◌, min}
use Rattle.outside_io.specs.declared.source.Taken.{Taken}
use Rattle.outside_io.specs.declared.source.Taken.TheVariants as taken
use Rattle.outside_io.specs.declared.sink.Put.{Put}
use Rattle.outside_io.specs.declared.sink.Put.TheVariants as put

-- the count after this one, which stands still at its type's end
abbrev pub next_count : ℕ → ℕ
next_count n = min (n + 1) (2 ^ 64 - 1)

-- the count has risen, or stands at its type's end
abbrev pub Rose : ℕ → ℕ → Type 0
Rose before now = next_count before ≤ now

-- a source's count after an answer: one more for a failed read, and the same for any other
abbrev pub faults_after_read : ℕ → Taken → ℕ
faults_after_read faults taken.Failed = next_count faults
faults_after_read faults _ = faults

-- a sink's count after an answer
abbrev pub faults_after_write : ℕ → Put → ℕ
faults_after_write faults put.Failed = next_count faults
faults_after_write faults _ = faults
