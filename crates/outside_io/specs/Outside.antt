-- What one read and one write do: to the bytes left or written, where they are told, and to the count of faults.
use Rattle.std.specs.Prelude.{ℕ, ◌<◌, ◌≤◌, List, length, take, Option}
use Rattle.std.specs.Io.KnownBytes.{Consumes, Appends, Keeps, IsAtEnd}
use Rattle.outside_io.specs.Faults.{Rose}
use Rattle.outside_io.specs.declared.source.Taken.{Taken}
use Rattle.outside_io.specs.declared.source.Taken.TheVariants as taken
use Rattle.outside_io.specs.declared.sink.Put.{Put}
use Rattle.outside_io.specs.declared.sink.Put.TheVariants as put

-- a read: the bytes left before and after, the count before and after, and the buffer
abbrev pub Reads : Option (List ℕ) → Option (List ℕ) → ℕ → ℕ → List ℕ → Taken → Type 0
Reads left rest before now buf (taken.Some n) = (0 < n) × (n ≤ length buf) × Consumes left rest (take n buf)
Reads left rest before now buf taken.End = IsAtEnd left × IsAtEnd rest × Keeps left rest
Reads left rest before now buf taken.Failed = Rose before now × Keeps left rest

-- a write: the bytes written before and after, the count before and after, and the piece
abbrev pub Writes : Option (List ℕ) → Option (List ℕ) → ℕ → ℕ → List ℕ → Put → Type 0
Writes old new before now piece (put.Took n) = (0 < n) × (n ≤ length piece) × Appends old new (take n piece)
Writes old new before now piece put.Failed = Rose before now × Keeps old new
