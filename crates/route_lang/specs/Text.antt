-- Lines and words of a text.
use Rattle.std.specs.Prelude.{ℕ, ◌==◌, ◌||◌, Bool, nat_lt, List, [], ◌∷◌, length, filter, if◌then◌else◌}
use Rattle.std.specs.List.{slice_split, onto_first}

-- the byte at which a line ends
abbrev pub is_feed : ℕ → Bool
is_feed b = b == 10

-- The lines. A line ends before a line feed or at the text's end, and no empty line follows a last line feed.
abbrev pub lines_of : List ℕ → List (List ℕ)
lines_of [] = []
lines_of (b ∷ bs) = if is_feed b then [] ∷ lines_of bs else onto_first b (lines_of bs)

-- space, tab and carriage return
abbrev pub is_blank : ℕ → Bool
is_blank b = b == 32 || (b == 9 || b == 13)

abbrev pub is_some_word : List ℕ → Bool
is_some_word word = nat_lt 0 (length word)

-- the words: the runs of bytes between blanks
abbrev pub words_of : List ℕ → List (List ℕ)
words_of line = filter is_some_word (slice_split is_blank line)
