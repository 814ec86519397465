-- Where the first line and the first word of a text end.
use Rattle.std.proofs.Common.{◌≡◌, ℕ, zero, suc, ◌+◌, ◌-◌, ◌<◌, ◌≤◌, Bool, true, false, not, cond, List, [], ◌∷◌, Some, None, length, take, drop, filter, get_or, refl, arith, add-one, lt-ltb}
use Rattle.std.specs.List.{onto_first, position_from, slice_split}
use Rattle.std.proofs.lemmas.Bool.{both_ways}
use Rattle.std.proofs.lemmas.List.{length-drop, length-take}
use Rattle.std.proofs.Math.Seq.{take-length}
use Rattle.route_lang.specs.Text.{lines_of, words_of, is_blank, is_feed, is_some_word}

-- a slice from a place on, as a range of it reads
pub from_place : (xs : List ℕ) (place : ℕ) → take (length xs - place) (drop place xs) ≡ drop place xs
from_place xs place = rw (← length-drop place xs) (take-length (drop place xs))

-- ---- lines

-- the first line ends j bytes on
pub record EndsLine (k i : ℕ) (bs : List ℕ) (lines : List (List ℕ)) : Type 0 where
  pub j : ℕ
  pub place : i ≡ k + j
  pub inside : j < length bs
  pub first : lines ≡ take j bs ∷ lines_of (drop (j + 1) bs)

ends_on : (t : Bool) (k i b : ℕ) (bs : List ℕ) → (position_from is_feed (k + 1) bs ≡ Some i → EndsLine (k + 1) i bs (lines_of bs)) → cond t (Some k) (position_from is_feed (k + 1) bs) ≡ Some i → EndsLine k i (b ∷ bs) (cond t ([] ∷ lines_of bs) (onto_first b (lines_of bs)))
ends_on true k i b bs later e = record { j = 0; place = let same : k ≡ i = cc in omega arith; inside = omega arith; first = refl }
ends_on false k i b bs later e = let r = later e in record { j = r.j + 1; place = omega (arith, r.place); inside = omega (arith, r.inside); first = rw (add-one (r.j + 1), add-one r.j, r.first, add-one r.j) refl }

pub line_ends : (k i : ℕ) (bs : List ℕ) → position_from is_feed k bs ≡ Some i → EndsLine k i bs (lines_of bs)
line_ends k i [] e = cc
line_ends k i (b ∷ bs) e = ends_on (is_feed b) k i b bs (line_ends (k + 1) i bs) e

last_on : (t : Bool) (k b : ℕ) (bs : List ℕ) → (position_from is_feed (k + 1) bs ≡ None → 0 < length bs → lines_of bs ≡ bs ∷ []) → cond t (Some k) (position_from is_feed (k + 1) bs) ≡ None → cond t ([] ∷ lines_of bs) (onto_first b (lines_of bs)) ≡ (b ∷ bs) ∷ []
last_on true k b bs later e = cc
last_on false k b [] later e = refl
last_on false k b (c ∷ bs) later e = rw (later e (omega arith)) refl

-- without a line feed some bytes are one line
pub last_line : (k : ℕ) (bs : List ℕ) → position_from is_feed k bs ≡ None → 0 < length bs → lines_of bs ≡ bs ∷ []
last_line k [] e some = absurd (omega (arith, some))
last_line k (b ∷ bs) e some = last_on (is_feed b) k b bs (last_line (k + 1) bs) e

few_on : (t : Bool) (b : ℕ) (lines : List (List ℕ)) (n : ℕ) → length lines ≤ n → length (cond t ([] ∷ lines) (onto_first b lines)) ≤ n + 1
few_on true b lines n h = omega arith
few_on false b [] n h = omega arith
few_on false b (l ∷ ls) n h = omega arith

-- a text has no more lines than bytes
pub lines_few : (bs : List ℕ) → length (lines_of bs) ≤ length bs
lines_few [] = omega arith
lines_few (b ∷ bs) = let h = few_on (is_feed b) b (lines_of bs) (length bs) (lines_few bs) in omega (arith, h)

-- ---- words

abbrev is_solid : ℕ → Bool
is_solid b = not (is_blank b)

-- the blanks before the first word are part of none
pub record SkipsBlanks (k i : ℕ) (bs : List ℕ) (words : List (List ℕ)) : Type 0 where
  pub j : ℕ
  pub place : i ≡ k + j
  pub inside : j < length bs
  pub same : words ≡ words_of (drop j bs)
  pub solid : is_blank (get_or (drop j bs) 0 0) ≡ false

skips_on : (t : Bool) (k i b : ℕ) (bs : List ℕ) → is_blank b ≡ t → (position_from is_solid (k + 1) bs ≡ Some i → SkipsBlanks (k + 1) i bs (words_of bs)) → cond (not t) (Some k) (position_from is_solid (k + 1) bs) ≡ Some i → SkipsBlanks k i (b ∷ bs) (filter is_some_word (cond t ([] ∷ slice_split is_blank bs) (onto_first b (slice_split is_blank bs))))
skips_on true k i b bs is later e = let r = later e in record { j = r.j + 1; place = omega (arith, r.place); inside = omega (arith, r.inside); same = rw (add-one r.j) r.same; solid = rw (add-one r.j) r.solid }
skips_on false k i b bs is later e = record { j = 0; place = let same : k ≡ i = cc in omega arith; inside = omega arith; same = rw is refl; solid = is }

pub blanks_skipped : (k i : ℕ) (bs : List ℕ) → position_from is_solid k bs ≡ Some i → SkipsBlanks k i bs (words_of bs)
blanks_skipped k i [] e = cc
blanks_skipped k i (b ∷ bs) e = skips_on (is_blank b) k i b bs refl (blanks_skipped (k + 1) i bs) e

none_on : (t : Bool) (k b : ℕ) (bs : List ℕ) → (position_from is_solid (k + 1) bs ≡ None → words_of bs ≡ []) → cond (not t) (Some k) (position_from is_solid (k + 1) bs) ≡ None → filter is_some_word (cond t ([] ∷ slice_split is_blank bs) (onto_first b (slice_split is_blank bs))) ≡ []
none_on true k b bs later e = later e
none_on false k b bs later e = cc

-- blanks alone are no word
pub no_word : (k : ℕ) (bs : List ℕ) → position_from is_solid k bs ≡ None → words_of bs ≡ []
no_word k [] e = refl
no_word k (b ∷ bs) e = none_on (is_blank b) k b bs (no_word (k + 1) bs) e

-- the first piece between blanks ends j bytes on
record Cuts (k i : ℕ) (bs : List ℕ) (pieces : List (List ℕ)) : Type 0 where
  pub j : ℕ
  pub place : i ≡ k + j
  pub inside : j < length bs
  pub blank : is_blank (get_or bs j 0) ≡ true
  pub first : pieces ≡ take j bs ∷ slice_split is_blank (drop (j + 1) bs)

cuts_on : (t : Bool) (k i b : ℕ) (bs : List ℕ) → is_blank b ≡ t → (position_from is_blank (k + 1) bs ≡ Some i → Cuts (k + 1) i bs (slice_split is_blank bs)) → cond t (Some k) (position_from is_blank (k + 1) bs) ≡ Some i → Cuts k i (b ∷ bs) (cond t ([] ∷ slice_split is_blank bs) (onto_first b (slice_split is_blank bs)))
cuts_on true k i b bs is later e = record { j = 0; place = let same : k ≡ i = cc in omega arith; inside = omega arith; blank = is; first = refl }
cuts_on false k i b bs is later e = let r = later e in record { j = r.j + 1; place = omega (arith, r.place); inside = omega (arith, r.inside); blank = rw (add-one r.j) r.blank; first = rw (add-one (r.j + 1), add-one r.j, r.first, add-one r.j) refl }

cut_at_blank : (k i : ℕ) (bs : List ℕ) → position_from is_blank k bs ≡ Some i → Cuts k i bs (slice_split is_blank bs)
cut_at_blank k i [] e = cc
cut_at_blank k i (b ∷ bs) e = cuts_on (is_blank b) k i b bs refl (cut_at_blank (k + 1) i bs) e

whole_on : (t : Bool) (k b : ℕ) (bs : List ℕ) → (position_from is_blank (k + 1) bs ≡ None → slice_split is_blank bs ≡ bs ∷ []) → cond t (Some k) (position_from is_blank (k + 1) bs) ≡ None → cond t ([] ∷ slice_split is_blank bs) (onto_first b (slice_split is_blank bs)) ≡ (b ∷ bs) ∷ []
whole_on true k b bs later e = cc
whole_on false k b bs later e = rw (later e) refl

uncut : (k : ℕ) (bs : List ℕ) → position_from is_blank k bs ≡ None → slice_split is_blank bs ≡ bs ∷ []
uncut k [] e = refl
uncut k (b ∷ bs) e = whole_on (is_blank b) k b bs (uncut (k + 1) bs) e

kept : (word : List ℕ) (words : List (List ℕ)) → 0 < length word → filter is_some_word (word ∷ words) ≡ word ∷ filter is_some_word words
kept word words some = rw (lt-ltb 0 (length word) some) refl

-- without a blank some bytes are one word
pub last_word : (bs : List ℕ) → 0 < length bs → position_from is_blank 0 bs ≡ None → words_of bs ≡ bs ∷ []
last_word bs some e = rw (uncut 0 bs e) (kept bs [] some)

later_than_first : (bs : List ℕ) (j : ℕ) → is_blank (get_or bs 0 0) ≡ false → is_blank (get_or bs j 0) ≡ true → 0 < j
later_than_first bs zero solid blank = absurd (both_ways _ solid blank)
later_than_first bs (suc j) solid blank = omega arith

-- bytes that begin with no blank begin with a word, which ends at the first blank
pub word_ends : (i : ℕ) (bs : List ℕ) → is_blank (get_or bs 0 0) ≡ false → position_from is_blank 0 bs ≡ Some i → words_of bs ≡ take i bs ∷ words_of (drop (i + 1) bs)
word_ends i bs solid e =
    let r = cut_at_blank 0 i bs e in
    let same : r.j ≡ i = omega (arith, r.place) in
    let some : 0 < r.j = later_than_first bs r.j solid r.blank in
    let long : 0 < length (take i bs) = omega (arith, length-take i bs, r.inside) in
    rw (r.first, same) (kept (take i bs) (slice_split is_blank (drop (i + 1) bs)) long)
