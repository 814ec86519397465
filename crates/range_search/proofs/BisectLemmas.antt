-- The bisection finds the last cell that begins at or before an address, whose index answers.
use Rattle.std.proofs.Common.{◌≡◌, ℕ, ◌+◌, ◌-◌, ◌*◌, ◌^◌, ◌<◌, ◌≤◌, List, [], ◌∷◌, Some, None, refl, sym, ap, ◌∙◌, arith, inl, inr, subst, length, drop, add-one}
use Rattle.std.specs.List.{slice_get, AllByRecursion}
use Rattle.std.specs.Map.{keys_of}
use Rattle.std.proofs.lemmas.Bool.{cases_lt}
use Rattle.std.proofs.lemmas.List.{length-map}
use Rattle.std.proofs.Math.Nat.{mul-le-mul_left, mul_assoc, pow-suc, pow-le-pow_right}
use Rattle.prefix_width.specs.Prefix.{Block}
use Rattle.prefix_width.specs.Longest.{longest}
use Rattle.module_trait.specs.Rows.{index_of}
use Rattle.range_search.specs.Range.{IsRangeOf}
use Rattle.module_trait.specs.Starts.{index_at, starts_of, IsUp, IsIn}
use Rattle.module_trait.proofs.IndexLemmas.{index_longest, zero_is_none, one_is_some}
use Rattle.module_trait.proofs.NeighbourLemmas.{all_above, cell_answers}
use Rattle.module_trait.proofs.StartLemmas.{in-starts, up-starts}
use Rattle.module_trait.proofs.UpLemmas.{in-all}

-- half of what was left
pub narrower : (k size less n : ℕ) → 2 * less ≤ size → 2 ^ k * size ≤ n → 2 ^ (k + 1) * less ≤ n
narrower k size less n h e =
    let p : 2 ^ (k + 1) * less ≡ 2 ^ k * (2 * less) = rw (add-one, pow-suc 2 k) (mul_assoc (2 ^ k) 2 less) in
    let m = mul-le-mul_left (2 ^ k) h in
    omega (arith, p, m, e)

-- while something is left there are steps left
pub deeper : (k size n bits : ℕ) → 0 < size → 2 ^ k * size ≤ n → n < 2 ^ bits → k + 1 ≤ bits
deeper k size n bits h e fits =
    elim (cases_lt k bits) [
      | inl x ↦ omega arith
      | inr x ↦
          let p = pow-le-pow_right {n = 2} (omega arith) x in
          let m = mul-le-mul_left (2 ^ k) h in
          absurd (omega (arith, p, m, e, fits))
    ]

-- the place is below `high`, and behind every cell before `low`; the cell before `low` has the index
pub record IsNarrowed (cells : List (ℕ × ℕ)) (a low high index : ℕ) : Type 0 where
  pub order : low ≤ high
  pub within : high ≤ length cells
  pub best : 0 < low → (c : ℕ × ℕ) × (slice_get cells (low - 1) ≡ Some c) × (c.0 ≤ a) × (index ≡ c.1)
  pub above : (d : ℕ × ℕ) → slice_get cells high ≡ Some d → a < d.0

-- one look at the middle: the place is behind it
pub go_right : (cells : List (ℕ × ℕ)) (a low high index middle : ℕ) (c : ℕ × ℕ) → IsNarrowed cells a low high index → middle < high → slice_get cells middle ≡ Some c → c.0 ≤ a → IsNarrowed cells a (middle + 1) high c.1
go_right cells a low high index middle c narrowed inside at h =
    let back : middle + 1 - 1 ≡ middle = omega arith in
    record { order = omega arith; within = narrowed.within; best = λ some. (c, ap (slice_get cells) back ∙ at, h, refl); above = narrowed.above }

-- or before it
pub go_left : (cells : List (ℕ × ℕ)) (a low high index middle : ℕ) (c : ℕ × ℕ) → IsNarrowed cells a low high index → low ≤ middle → middle < high → slice_get cells middle ≡ Some c → a < c.0 → IsNarrowed cells a low middle index
go_left cells a low high index middle c narrowed lower inside at h =
    record {
      order = lower;
      within = (let w = narrowed.within in omega (arith, w));
      best = narrowed.best;
      above = λ d e. (let same : c ≡ d = (let q = sym at ∙ e in cc) in subst (λ (x : ℕ × ℕ). a < x.0) same h);
    }

-- where nothing is left, the index is the longest row's
pub narrowed_index : (w : ℕ) (rows : List (Block × ℕ)) (cells : List (ℕ × ℕ)) (a low high index : ℕ) → a < 2 ^ w → IsRangeOf w rows cells → IsNarrowed cells a low high index → high ≤ low → index ≡ index_at w rows a
narrowed_index w rows cells a low high index fits range narrowed h =
    let order = narrowed.order in
    let same : high ≡ low = omega arith in
    let up : IsUp (keys_of cells) = subst IsUp (sym range.starts) (up-starts w rows) in
    elim (cases_lt 0 low) [
      | inr zero ↦
          let none : high ≡ 0 = omega arith in
          let all : AllByRecursion (λ t. a < t) (keys_of cells) = subst (λ n. AllByRecursion (λ t. a < t) (keys_of (drop n cells))) none (all_above cells a high up narrowed.above) in
          absurd (let z = in-all (λ t. a < t) (keys_of cells) 0 all (subst (IsIn 0) (sym range.starts) (in-starts w rows 0 (inl refl))) in omega (arith, z))
      | inl some ↦
          let best = narrowed.best some in
          let next : high ≡ low - 1 + 1 = omega arith in
          best.3 ∙ cell_answers w rows cells (low - 1) best.0 a fits range.blocks range.starts range.right best.1 best.2 (λ d at. narrowed.above d (ap (slice_get cells) next ∙ at))
    ]

pub narrowed_none : (w : ℕ) (rows : List (Block × ℕ)) (cells : List (ℕ × ℕ)) (a low high index : ℕ) → a < 2 ^ w → IsRangeOf w rows cells → IsNarrowed cells a low high index → high ≤ low → index ≡ 0 → None ≡ index_of (longest w rows a)
narrowed_none w rows cells a low high index fits range narrowed h z = zero_is_none _ index (index_longest w rows a range.indexes) (narrowed_index w rows cells a low high index fits range narrowed h) z

pub narrowed_some : (w : ℕ) (rows : List (Block × ℕ)) (cells : List (ℕ × ℕ)) (a low high index : ℕ) → a < 2 ^ w → IsRangeOf w rows cells → IsNarrowed cells a low high index → high ≤ low → (index ≡ 0 → ⊥) → Some index ≡ index_of (longest w rows a)
narrowed_some w rows cells a low high index fits range narrowed h z = one_is_some _ index (index_longest w rows a range.indexes) (narrowed_index w rows cells a low high index fits range narrowed h) z

-- there are as many cells as starts, and at least one
pub length_cells : (w : ℕ) (rows : List (Block × ℕ)) (cells : List (ℕ × ℕ)) → IsRangeOf w rows cells → length cells ≡ length (starts_of w rows)
length_cells w rows cells range = sym (length-map cells (λ e. e.0)) ∙ ap length range.starts

pub some_start : (w : ℕ) (rows : List (Block × ℕ)) (cells : List (ℕ × ℕ)) → IsRangeOf w rows cells → 0 < length cells
some_start w rows cells range = go (starts_of w rows) (in-starts w rows 0 (inl refl)) (length_cells w rows cells range)
  where
    go : (xs : List ℕ) → IsIn 0 xs → length cells ≡ length xs → 0 < length cells
    go [] is e = absurd is
    go (x ∷ xs) is e = omega (arith, e)
