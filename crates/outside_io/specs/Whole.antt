-- A source read to its end, past a limit or not, and a text of which all or a front was written.
use Rattle.std.specs.Prelude.{◌≡◌, ℕ, ◌+◌, ◌<◌, ◌≤◌, List, length, take, Option}
use Rattle.std.specs.Io.KnownBytes.{Consumes, Appends, IsAtEnd}

-- these bytes were left, and none is left now
abbrev pub ReadsAll : Option (List ℕ) → Option (List ℕ) → List ℕ → Type 0
ReadsAll left rest bytes = Consumes left rest bytes × IsAtEnd rest

-- the bytes of the limit were read and one more
abbrev pub ReadsPast : ℕ → Option (List ℕ) → Option (List ℕ) → Type 0
ReadsPast limit left rest = (bytes : List ℕ) × (length bytes ≡ limit + 1) × Consumes left rest bytes

-- no more bytes than the limit were read
abbrev pub ReadsWithin : ℕ → Option (List ℕ) → Option (List ℕ) → Type 0
ReadsWithin limit left rest = (bytes : List ℕ) × (length bytes ≤ limit) × Consumes left rest bytes

-- a front of the text was written, but not all
abbrev pub WritesFront : Option (List ℕ) → Option (List ℕ) → List ℕ → Type 0
WritesFront old new text = (n : ℕ) × (n < length text) × Appends old new (take n text)
