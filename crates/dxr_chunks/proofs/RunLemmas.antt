-- The last cell at or below a place, in a list of cells whose starts ascend.
use Rattle.std.proofs.Common.{◌≡◌, ◌≢◌, ℕ, zero, suc, ◌+◌, ◌-◌, ◌^◌, ◌<◌, ◌≤◌, nat_le, cond, List, [], ◌∷◌, ◌++◌, Some, refl, sym, ap, ◌∙◌, arith, inl, inr, subst, length, take, drop}
use Rattle.std.specs.List.{slice_get, AllByRecursion, fold}
use Rattle.std.specs.Map.{keys_of}
use Rattle.std.proofs.lemmas.Bool.{cases_lt, le-leb, lt-leb, cond-true, cond-false}
use Rattle.std.proofs.lemmas.List.{take-append-drop, map-append, length-map}
use Rattle.std.proofs.lemmas.List.Sums.{fold_push, fold-append}
use Rattle.std.proofs.lemmas.Option.{slice_get_within}
use Rattle.prefix_width.specs.Prefix.{Block}
use Rattle.module_trait.specs.Rows.{AreBlocks}
use Rattle.module_trait.specs.Starts.{AreRight, index_at, starts_of, IsUp}
use Rattle.module_trait.proofs.NeighbourLemmas.{from_place, all_above, cell_answers}
use Rattle.module_trait.proofs.UpLemmas.{up-split, all-weaker}
use Rattle.dxr_chunks.specs.Fragments.{index_in, IsAlternating}

-- one cell more
abbrev pub step : ℕ → ℕ → ℕ × ℕ → ℕ
step x index cell = cond (nat_le cell.0 x) cell.1 index

step_below : (x index : ℕ) (c : ℕ × ℕ) → c.0 ≤ x → step x index c ≡ c.1
step_below x index c h = cond-true _ _ _ (le-leb c.0 x h)

step_above : (x index : ℕ) (c : ℕ × ℕ) → x < c.0 → step x index c ≡ index
step_above x index c h = cond-false _ _ _ (lt-leb c.0 x h)

-- cells above a place don't count there
none_counts : (x index : ℕ) (cells : List (ℕ × ℕ)) → AllByRecursion (λ t. x < t) (keys_of cells) → fold (step x) index cells ≡ index
none_counts x index [] above = refl
none_counts x index (c ∷ cells) above = ap (λ n. fold (step x) n cells) (step_above x index c above.0) ∙ none_counts x index cells above.1

-- with a cell put last
pub index_push_below : (cells : List (ℕ × ℕ)) (c : ℕ × ℕ) (x : ℕ) → c.0 ≤ x → index_in (cells ++ c ∷ []) x ≡ c.1
index_push_below cells c x h = fold_push (step x) 0 cells c ∙ step_below x (index_in cells x) c h

pub index_push_above : (cells : List (ℕ × ℕ)) (c : ℕ × ℕ) (x : ℕ) → x < c.0 → index_in (cells ++ c ∷ []) x ≡ index_in cells x
index_push_above cells c x h = fold_push (step x) 0 cells c ∙ step_above x (index_in cells x) c h

-- from a cell's start up to the next one its index counts
pub index_from_place : (cells : List (ℕ × ℕ)) (i : ℕ) (c : ℕ × ℕ) (x : ℕ) → IsUp (keys_of cells) → slice_get cells i ≡ Some c → c.0 ≤ x → ((d : ℕ × ℕ) → slice_get cells (i + 1) ≡ Some d → x < d.0) → index_in cells x ≡ c.1
index_from_place cells i c x up at h above =
    ap (λ cs. index_in cs x) (sym (ap (λ cs. take i cells ++ cs) (sym (from_place cells i c at)) ∙ take-append-drop i cells))
    ∙ fold-append (step x) 0 (take i cells) (c ∷ drop (i + 1) cells)
    ∙ ap (λ n. fold (step x) n (drop (i + 1) cells)) (step_below x (index_in (take i cells) x) c h)
    ∙ none_counts x c.1 (drop (i + 1) cells) (all_above cells x (i + 1) up above)

-- some cell is the last at or below an address that isn't below the first
abbrev IsPlace : List (ℕ × ℕ) → ℕ → ℕ → ℕ × ℕ → Type 0
IsPlace cells a i c = (slice_get cells i ≡ Some c) × (c.0 ≤ a) × ((d : ℕ × ℕ) → slice_get cells (i + 1) ≡ Some d → a < d.0)

find_place : (c : ℕ × ℕ) (cells : List (ℕ × ℕ)) (a : ℕ) → c.0 ≤ a → (i : ℕ) × (found : ℕ × ℕ) × IsPlace (c ∷ cells) a i found
find_place c [] a h = (0, c, (refl, h, λ d at. absurd (let e = at in cc)))
find_place c (d ∷ cells) a h = elim (cases_lt a d.0) [
  | inl less ↦ (0, c, (refl, h, λ e at. (let same : d ≡ e = (let q = at in cc) in subst (λ (x : ℕ × ℕ). a < x.0) same less)))
  | inr more ↦
      let rest = find_place d cells a more in
      let behind : suc (rest.0 + 1) ≡ suc rest.0 + 1 = omega arith in
      (suc rest.0, rest.1, (rest.2.0, rest.2.1, λ e at. rest.2.2 e (ap (slice_get (c ∷ d ∷ cells)) behind ∙ at)))
]

-- the cells of rows answer as the longest match does
pub cells_answer : (w : ℕ) (rows : List (Block × ℕ)) (cells : List (ℕ × ℕ)) (a : ℕ) → a < 2 ^ w → AreBlocks w rows → keys_of cells ≡ starts_of w rows → IsUp (keys_of cells) → slice_get (keys_of cells) 0 ≡ Some 0 → AreRight w rows cells → index_in cells a ≡ index_at w rows a
cells_answer w rows [] a fits blocks starts up first right = absurd (let e = first in cc)
cells_answer w rows (c ∷ cells) a fits blocks starts up first right =
    let at_zero : c.0 ≡ 0 = (let e = first in cc) in
    let found = find_place c cells a (omega (arith, at_zero)) in
    index_from_place (c ∷ cells) found.0 found.1 a up found.2.0 found.2.1 found.2.2
    ∙ cell_answers w rows (c ∷ cells) found.0 found.1 a fits blocks starts right found.2.0 found.2.1 found.2.2

-- the next cell starts higher
pub next_higher : (cells : List (ℕ × ℕ)) (i : ℕ) (c d : ℕ × ℕ) → IsUp (keys_of cells) → slice_get cells i ≡ Some c → slice_get cells (i + 1) ≡ Some d → c.0 < d.0
next_higher [] i c d up at next = absurd (let e = at in cc)
next_higher (x ∷ []) i c d up at next = absurd (let w = slice_get_within (x ∷ []) (i + 1) d next in omega (arith, w))
next_higher (x ∷ y ∷ cells) zero c d up at next =
    let first : x ≡ c = (let e = at in cc) in
    let second : y ≡ d = (let e = next in cc) in
    subst (λ (n : ℕ × ℕ). n.0 < d.0) first (subst (λ (n : ℕ × ℕ). x.0 < n.0) second up.0.0)
next_higher (x ∷ y ∷ cells) (suc i) c d up at next =
    let behind : suc (i + 1) ≡ suc i + 1 = omega arith in
    next_higher (y ∷ cells) i c d up.1 at (ap (slice_get (x ∷ y ∷ cells)) behind ∙ next)

-- alternating cells ascend
pub up_alternating : (run : List (ℕ × ℕ)) → IsAlternating run → IsUp (keys_of run)
up_alternating [] alternating = tt
up_alternating (f ∷ []) alternating = (tt, tt)
up_alternating (f ∷ g ∷ run) alternating =
    let less = alternating.0 in
    let rest = up_alternating (g ∷ run) alternating.2 in
    ((less, all-weaker (λ t. g.0 < t) (λ t. f.0 < t) (λ t h. omega (arith, h, less)) (keys_of run) rest.0), rest)

-- one more alternates
pub alternating_push : (most : List (ℕ × ℕ)) (last next : ℕ × ℕ) → IsAlternating (most ++ last ∷ []) → last.0 < next.0 → last.1 ≢ next.1 → IsAlternating ((most ++ last ∷ []) ++ next ∷ [])
alternating_push [] last next alternating less differ = (less, differ, tt)
alternating_push (f ∷ []) last next alternating less differ = (alternating.0, alternating.1, (less, differ, tt))
alternating_push (f ∷ g ∷ most) last next alternating less differ = (alternating.0, alternating.1, alternating_push (g ∷ most) last next alternating.2 less differ)

-- as many numbers as there are below a bound
few_up : (xs : List ℕ) (low n : ℕ) → IsUp xs → AllByRecursion (λ x. low ≤ x) xs → AllByRecursion (λ x. x < n) xs → length xs ≤ n - low
few_up [] low n up least most = omega arith
few_up (x ∷ xs) low n up least most =
    let first = least.0 in
    let last = most.0 in
    let rest = few_up xs (x + 1) n up.1 (all-weaker (λ y. x < y) (λ y. x + 1 ≤ y) (λ y h. omega (arith, h)) xs up.0) most.1 in
    omega (arith, first, last, rest)

all_least : (xs : List ℕ) → AllByRecursion (λ x. 0 ≤ x) xs
all_least [] = tt
all_least (x ∷ xs) = (omega arith, all_least xs)

all_push : (n : ℕ) (xs : List ℕ) (y : ℕ) → AllByRecursion (λ x. x < y) xs → y < n → AllByRecursion (λ x. x < n) (xs ++ y ∷ [])
all_push n [] y below h = (h, tt)
all_push n (x ∷ xs) y below h = (let b = below.0 in omega (arith, b, h), all_push n xs y below.1 h)

pub few_fragments : (most : List (ℕ × ℕ)) (last : ℕ × ℕ) (n : ℕ) → IsAlternating (most ++ last ∷ []) → last.0 < n → length (most ++ last ∷ []) ≤ n
few_fragments most last n alternating h =
    let keys : keys_of (most ++ last ∷ []) ≡ keys_of most ++ last.0 ∷ [] = map-append (λ e. e.0) most (last ∷ []) in
    let up : IsUp (keys_of most ++ last.0 ∷ []) = subst IsUp keys (up_alternating (most ++ last ∷ []) alternating) in
    let below = up-split (keys_of most) last.0 [] up in
    let all = all_push n (keys_of most) last.0 below.0 h in
    let count = few_up (keys_of most ++ last.0 ∷ []) 0 n up (all_least (keys_of most ++ last.0 ∷ [])) all in
    let len : length (keys_of most ++ last.0 ∷ []) ≡ length (most ++ last ∷ []) = ap length (sym keys) ∙ length-map (most ++ last ∷ []) (λ e. e.0) in
    omega (arith, count, len)

-- the first cell starts at 0
pub first_zero : (run : List (ℕ × ℕ)) (f : ℕ × ℕ) → slice_get run 0 ≡ Some f → slice_get (keys_of run) 0 ≡ Some 0 → f.0 ≡ 0
first_zero [] f at first = absurd (let e = at in cc)
first_zero (g ∷ run) f at first =
    let same : g ≡ f = (let e = at in cc) in
    subst (λ (x : ℕ × ℕ). x.0 ≡ 0) same (let e = first in cc)
