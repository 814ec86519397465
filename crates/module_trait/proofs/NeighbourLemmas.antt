-- A cell's index is the longest row's from its start up to the next one.
use Rattle.std.proofs.Common.{◌≡◌, ℕ, ◌+◌, ◌^◌, ◌<◌, ◌≤◌, List, ◌∷◌, ◌++◌, Some, sym, ap, ◌∙◌, arith, inl, inr, subst, length, unwrap_or, get_or, take, drop, drop-cons, add-one}
use Rattle.std.specs.List.{slice_get, AllByRecursion}
use Rattle.std.specs.Map.{keys_of}
use Rattle.std.proofs.lemmas.Bool.{cases_lt}
use Rattle.std.proofs.lemmas.List.{take-append-drop, map-append, drop_all}
use Rattle.std.proofs.lemmas.Option.{slice_get_within, slice_get-get_or, get_or_from_slice_get}
use Rattle.prefix_width.specs.Prefix.{Block}
use Rattle.module_trait.specs.Rows.{AreBlocks, index_of}
use Rattle.module_trait.specs.Starts.{AreRight, index_at, starts_of, IsUp, IsIn}
use Rattle.module_trait.proofs.CentralLaw.{NoneBetween, same_between}
use Rattle.module_trait.proofs.StartLemmas.{in-starts, up-starts}
use Rattle.module_trait.proofs.UpLemmas.{up-split, in-all, in-append, all-weaker}

-- the cells from a place on
pub from_place : (cells : List (ℕ × ℕ)) (i : ℕ) (c : ℕ × ℕ) → slice_get cells i ≡ Some c → drop i cells ≡ c ∷ drop (i + 1) cells
from_place cells i c at =
    drop-cons cells i c (slice_get_within cells i c at)
    ∙ ap (λ n. get_or cells i c ∷ drop n cells) (sym (add-one i))
    ∙ ap (λ x. x ∷ drop (i + 1) cells) (get_or_from_slice_get cells i c c at)

-- the cells around a place
pub around : (cells : List (ℕ × ℕ)) (i : ℕ) (c : ℕ × ℕ) → slice_get cells i ≡ Some c → keys_of (take i cells) ++ c.0 ∷ keys_of (drop (i + 1) cells) ≡ keys_of cells
around cells i c at =
    sym (map-append (λ e. e.0) (take i cells) (c ∷ drop (i + 1) cells))
    ∙ ap (λ xs. keys_of (take i cells ++ xs)) (sym (from_place cells i c at))
    ∙ ap keys_of (take-append-drop i cells)

-- all from a place on are above the address, where the one at the place is
pub all_above : (cells : List (ℕ × ℕ)) (a high : ℕ) → IsUp (keys_of cells) → ((d : ℕ × ℕ) → slice_get cells high ≡ Some d → a < d.0) → AllByRecursion (λ t. a < t) (keys_of (drop high cells))
all_above cells a high up above = elim (cases_lt high (length cells)) [
  | inl inside ↦
      let d = get_or cells high (0, 0) in
      let at : slice_get cells high ≡ Some d = slice_get-get_or cells high (0, 0) inside in
      let h = above d at in
      let split = up-split (keys_of (take high cells)) d.0 (keys_of (drop (high + 1) cells)) (subst IsUp (sym (around cells high d at)) up) in
      subst (λ xs. AllByRecursion (λ t. a < t) (keys_of xs)) (sym (from_place cells high d at)) (h, all-weaker (λ t. d.0 < t) (λ t. a < t) (λ t k. omega arith) (keys_of (drop (high + 1) cells)) split.1)
  | inr past ↦ subst (λ xs. AllByRecursion (λ t. a < t) (keys_of xs)) (sym (drop_all high cells past)) tt
]

-- up to the next start, a cell has the longest row's index
pub cell_answers : (w : ℕ) (rows : List (Block × ℕ)) (cells : List (ℕ × ℕ)) (i : ℕ) (c : ℕ × ℕ) (a : ℕ) → a < 2 ^ w → AreBlocks w rows → keys_of cells ≡ starts_of w rows → AreRight w rows cells → slice_get cells i ≡ Some c → c.0 ≤ a → ((d : ℕ × ℕ) → slice_get cells (i + 1) ≡ Some d → a < d.0) → c.1 ≡ index_at w rows a
cell_answers w rows cells i c a fits blocks starts right at h above =
    let up : IsUp (keys_of cells) = subst IsUp (sym starts) (up-starts w rows) in
    let higher : AllByRecursion (λ t. a < t) (keys_of (drop (i + 1) cells)) = all_above cells a (i + 1) up above in
    let whole = around cells i c at in
    let split = up-split (keys_of (take i cells)) c.0 (keys_of (drop (i + 1) cells)) (subst IsUp (sym whole) up) in
    let none : NoneBetween w rows c.0 a = λ t start. elim (in-append (keys_of (take i cells)) (c.0 ∷ keys_of (drop (i + 1) cells)) t (subst (IsIn t) (sym (whole ∙ starts)) (in-starts w rows t start))) [
      | inl front ↦ inl (let k = in-all (λ x. x < c.0) (keys_of (take i cells)) t split.0 front in omega (arith, k))
      | inr rest ↦ elim rest [
        | inl e ↦ inl (omega (arith, e))
        | inr back ↦ inr (in-all (λ x. a < x) (keys_of (drop (i + 1) cells)) t higher back)
      ]
    ] in
    let here : c.1 ≡ index_at w rows c.0 = subst (λ (x : ℕ × ℕ). x.1 ≡ index_at w rows x.0) (get_or_from_slice_get cells i c c at) (right i c (slice_get_within cells i c at)) in
    here ∙ ap (λ r. unwrap_or (index_of r) 0) (sym (same_between w rows c.0 a blocks h fits none))
