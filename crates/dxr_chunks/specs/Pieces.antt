-- Chunks that are made in pieces.
use Rattle.std.specs.Prelude.{ℕ, List, [], ◌∷◌, ◌++◌, Result, Ok, Err, Vec}
use Rattle.std.specs.declared.alloc.AllocError.{AllocError}
use Rattle.std.specs.declared.alloc.Global.{Global}
use Rattle.dxr_chunks.specs.declared.made.Made.{Made}

-- what is made for a piece, or want of memory
abbrev pub Piece : Type 0
Piece = Result (Vec (ℕ × Made) Global) AllocError

-- what is made for all pieces, one behind the other
abbrev pub all_of : List Piece → List (ℕ × Made)
all_of [] = []
all_of ((Ok piece) ∷ pieces) = piece.items ++ all_of pieces
all_of ((Err e) ∷ pieces) = all_of pieces

-- no piece wants memory
abbrev pub AreWhole : List Piece → Type 0
AreWhole [] = Unit {0}
AreWhole ((Ok piece) ∷ pieces) = AreWhole pieces
AreWhole ((Err e) ∷ pieces) = ⊥
