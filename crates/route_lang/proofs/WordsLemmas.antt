-- Words with spaces between them are the words of that line, and lines with a feed behind each are those of the text.
use Rattle.std.proofs.Common.{◌≡◌, ◌∙◌, ◌&&◌, ℕ, Bool, true, false, nat_le, List, [], ◌∷◌, ◌++◌, filter, refl, ap, arith, append-nil}
use Rattle.std.specs.List.{list_all, slice_split}
use Rattle.std.proofs.lemmas.Bool.{and_parts}
use Rattle.std.proofs.lemmas.Bool.Decides.{nat_tests}
use Rattle.std.proofs.lemmas.List.Folds.{list_all-append}
use Rattle.route_lang.specs.Text.{is_feed, is_blank, is_some_word, lines_of, words_of}
use Rattle.route_lang.specs.Grammar.{is_taken}
use Rattle.route_lang.specs.Spelling.{spaced, joined}

-- a byte of a word
abbrev pub is_solid : ℕ → Bool
is_solid b = nat_le 33 b && nat_le b 126

-- bytes that are one word
abbrev pub is_word : List ℕ → Bool
is_word word = is_some_word word && list_all is_solid word

solid_no_blank : (b : ℕ) → is_solid b ≡ true → is_blank b ≡ false
solid_no_blank b e = grind (arith, nat_tests)

taken_no_feed : (b : ℕ) → is_taken b ≡ true → is_feed b ≡ false
taken_no_feed b e = grind (arith, nat_tests)

-- ---- words

cut : (word rest : List ℕ) → list_all is_solid word ≡ true → slice_split is_blank (word ++ 32 ∷ rest) ≡ word ∷ slice_split is_blank rest
cut [] rest e = refl
cut (b ∷ word) rest e =
    let parts = and_parts (is_solid b) (list_all is_solid word) e in
    let later = cut word rest parts.1 in
    rw (solid_no_blank b parts.0, later) refl

uncut : (word : List ℕ) → list_all is_solid word ≡ true → slice_split is_blank word ≡ word ∷ []
uncut [] e = refl
uncut (b ∷ word) e =
    let parts = and_parts (is_solid b) (list_all is_solid word) e in
    let later = uncut word parts.1 in
    rw (solid_no_blank b parts.0, later) refl

pieces : (word : List ℕ) (words : List (List ℕ)) → list_all is_solid word ≡ true → list_all is_word words ≡ true → slice_split is_blank (word ++ spaced words) ≡ word ∷ words
pieces word [] e es = rw (append-nil word) (uncut word e)
pieces word (next ∷ words) e es =
    let parts = and_parts (is_word next) (list_all is_word words) es in
    let solid = and_parts (is_some_word next) (list_all is_solid next) parts.0 in
    let later = pieces next words solid.1 parts.1 in
    cut word (next ++ spaced words) e ∙ ap (λ rest. word ∷ rest) later

kept : (words : List (List ℕ)) → list_all is_word words ≡ true → filter is_some_word words ≡ words
kept [] e = refl
kept (word ∷ words) e =
    let parts = and_parts (is_word word) (list_all is_word words) e in
    let some = and_parts (is_some_word word) (list_all is_solid word) parts.0 in
    let later = kept words parts.1 in
    rw (some.0, later) refl

-- words with a space between each two are the words of that line
pub words_of-joined : (words : List (List ℕ)) → list_all is_word words ≡ true → words_of (joined words) ≡ words
words_of-joined [] e = refl
words_of-joined (word ∷ words) e =
    let parts = and_parts (is_word word) (list_all is_word words) e in
    let solid = and_parts (is_some_word word) (list_all is_solid word) parts.0 in
    ap (filter is_some_word) (pieces word words solid.1 parts.1) ∙ kept (word ∷ words) e

-- ---- bytes

solid_taken : (word : List ℕ) → list_all is_solid word ≡ true → list_all is_taken word ≡ true
solid_taken [] e = refl
solid_taken (b ∷ word) e =
    let parts = and_parts (is_solid b) (list_all is_solid word) e in
    let later = solid_taken word parts.1 in
    rw (solid_no_blank b parts.0, parts.0, later) refl

spaced_taken : (words : List (List ℕ)) → list_all is_word words ≡ true → list_all is_taken (spaced words) ≡ true
spaced_taken [] e = refl
spaced_taken (word ∷ words) e =
    let parts = and_parts (is_word word) (list_all is_word words) e in
    let solid = and_parts (is_some_word word) (list_all is_solid word) parts.0 in
    let first = solid_taken word solid.1 in
    let later = spaced_taken words parts.1 in
    list_all-append is_taken word (spaced words) ∙ rw (first, later) refl

-- the bytes of such a line are taken
pub taken-joined : (words : List (List ℕ)) → list_all is_word words ≡ true → list_all is_taken (joined words) ≡ true
taken-joined [] e = refl
taken-joined (word ∷ words) e =
    let parts = and_parts (is_word word) (list_all is_word words) e in
    let solid = and_parts (is_some_word word) (list_all is_solid word) parts.0 in
    let first = solid_taken word solid.1 in
    let later = spaced_taken words parts.1 in
    list_all-append is_taken word (spaced words) ∙ rw (first, later) refl

-- ---- lines

-- a line ends at the feed behind it
pub line_cut : (line rest : List ℕ) → list_all is_taken line ≡ true → lines_of (line ++ 10 ∷ rest) ≡ line ∷ lines_of rest
line_cut [] rest e = refl
line_cut (b ∷ line) rest e =
    let parts = and_parts (is_taken b) (list_all is_taken line) e in
    let later = line_cut line rest parts.1 in
    rw (taken_no_feed b parts.0, later) refl
