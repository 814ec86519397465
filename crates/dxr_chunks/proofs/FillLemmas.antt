-- The run of a chunk grows cell by cell.
use Rattle.std.proofs.Common.{◌≡◌, ℕ, ◌+◌, ◌-◌, ◌*◌, ◌^◌, ◌<◌, ◌≤◌, List, [], ◌∷◌, ◌++◌, Some, refl, sym, ap, ◌∙◌, arith, inl, inr, subst, length, append_assoc}
use Rattle.std.specs.List.{slice_get}
use Rattle.std.specs.Map.{keys_of}
use Rattle.std.proofs.lemmas.Bool.{cases_lt}
use Rattle.module_trait.specs.Starts.{IsUp}
use Rattle.dxr_chunks.specs.Fragments.{IsAlternating, index_in}
use Rattle.dxr_chunks.specs.Making.{ArePassed, AddsRun}
use Rattle.std.proofs.lemmas.Option.{slice_get_within}
use Rattle.dxr_chunks.proofs.RunLemmas.{alternating_push, first_zero, few_fragments, index_from_place, index_push_above, index_push_below, next_higher}

-- the address is below the cell at a place, if one is there
abbrev pub IsBefore : List (ℕ × ℕ) → ℕ → ℕ → Type 0
IsBefore cells i a = (cell : ℕ × ℕ) → slice_get cells i ≡ Some cell → a < cell.0

-- the run answers as the cells do, up to the next cell
pub record IsFilled (cells : List (ℕ × ℕ)) (base : ℕ) (old new : List (ℕ × ℕ)) (passed index : ℕ) : Type 0 where
  pub most : List (ℕ × ℕ)
  pub last : ℕ × ℕ
  pub added : new ≡ old ++ (most ++ last ∷ [])
  pub same : index ≡ last.1
  pub first : slice_get (keys_of (most ++ last ∷ [])) 0 ≡ Some 0
  pub alternating : IsAlternating (most ++ last ∷ [])
  pub small : last.0 < 2 ^ 16
  pub behind : IsBefore cells passed (base + last.0)
  pub right : (x : ℕ) → x < 2 ^ 16 → IsBefore cells passed (base + x) → index_in (most ++ last ∷ []) x ≡ index_in cells (base + x)
  pub below : (cell : ℕ × ℕ) → slice_get cells (passed - 1) ≡ Some cell → cell.0 < base + 2 ^ 16

-- the first fragment
pub filled_first : (cells : List (ℕ × ℕ)) (base : ℕ) (old : List (ℕ × ℕ)) (begun : ℕ) (c : ℕ × ℕ) → IsUp (keys_of cells) → 0 < begun → ArePassed cells (base + 1) begun → slice_get cells (begun - 1) ≡ Some c → IsFilled cells base old (old ++ (0, c.1) ∷ []) begun c.1
filled_first cells base old begun c up some passed at =
    let low = passed.below c some at in
    let next : begun - 1 + 1 ≡ begun = omega (arith, some) in
    record {
      most = [];
      last = (0, c.1);
      added = refl;
      same = refl;
      first = refl;
      alternating = tt;
      small = omega arith;
      behind = λ d here. (let h = passed.above d here in omega (arith, h));
      right = λ x fits before.
          index_push_below [] (0, c.1) x (omega arith)
          ∙ sym (index_from_place cells (begun - 1) c (base + x) up at (omega (arith, low)) (λ d here. before d (ap (slice_get cells) (sym next) ∙ here)));
      below = λ d here. (let e : c ≡ d = (let q = sym at ∙ here in cc) in let k : c.0 < base + 2 ^ 16 = omega (arith, low) in subst (λ (x : ℕ × ℕ). x.0 < base + 2 ^ 16) e k);
    }

module _ (cells : List (ℕ × ℕ)) (base : ℕ) (old new : List (ℕ × ℕ)) (passed index : ℕ) (c : ℕ × ℕ) (up : IsUp (keys_of cells)) (filled : IsFilled cells base old new passed index) (at : slice_get cells passed ≡ Some c) where
  -- the next cell is past the chunk's first address
  pub past_base : base ≤ c.0
  past_base = (let h = filled.behind c at in omega (arith, h))

  next_before : (a : ℕ) → a ≤ c.0 → IsBefore cells (passed + 1) a
  next_before a h d here = (let less = next_higher cells passed c d up at here in omega (arith, less, h))

  inside : (x : ℕ) → c.0 ≤ base + x → IsBefore cells (passed + 1) (base + x) → c.1 ≡ index_in cells (base + x)
  inside x h before = sym (index_from_place cells passed c (base + x) up at h before)

  before_cell : (x : ℕ) → base + x < c.0 → IsBefore cells passed (base + x)
  before_cell x h d here = (let e : c ≡ d = (let q = sym at ∙ here in cc) in subst (λ (y : ℕ × ℕ). base + x < y.0) e h)

  low_cell : c.0 - base < 2 ^ 16 → (cell : ℕ × ℕ) → slice_get cells (passed + 1 - 1) ≡ Some cell → cell.0 < base + 2 ^ 16
  low_cell small d here =
      let back : passed + 1 - 1 ≡ passed = omega arith in
      let e : c ≡ d = (let q = sym at ∙ ap (slice_get cells) (sym back) ∙ here in cc) in
      let k : c.0 < base + 2 ^ 16 = omega (arith, small) in
      subst (λ (x : ℕ × ℕ). x.0 < base + 2 ^ 16) e k

  -- a cell with another index gets a fragment
  pub filled_more : c.0 - base < 2 ^ 16 → (c.1 ≡ index → ⊥) → IsFilled cells base old (new ++ (c.0 - base, c.1) ∷ []) (passed + 1) c.1
  filled_more small differ =
      let more = past_base in
      let behind = filled.behind c at in
      let is : base + (c.0 - base) ≡ c.0 = omega (arith, more) in
      record {
        most = filled.most ++ filled.last ∷ [];
        last = (c.0 - base, c.1);
        added = ap (λ xs. xs ++ (c.0 - base, c.1) ∷ []) filled.added ∙ append_assoc old (filled.most ++ filled.last ∷ []) ((c.0 - base, c.1) ∷ []);
        same = refl;
        first = front filled.most filled.last (c.0 - base, c.1) filled.first;
        alternating = alternating_push filled.most filled.last (c.0 - base, c.1) filled.alternating (omega (arith, behind)) (λ e. differ (sym e ∙ sym filled.same));
        small = small;
        behind = next_before (base + (c.0 - base)) (omega (arith, is));
        right = λ x fits before. elim (cases_lt x (c.0 - base)) [
          | inl less ↦ index_push_above (filled.most ++ filled.last ∷ []) (c.0 - base, c.1) x less ∙ filled.right x fits (before_cell x (omega (arith, less)))
          | inr past ↦ index_push_below (filled.most ++ filled.last ∷ []) (c.0 - base, c.1) x past ∙ inside x (omega (arith, past, is)) before
        ];
        below = low_cell small;
      }
    where
      front : (most : List (ℕ × ℕ)) (last next : ℕ × ℕ) → slice_get (keys_of (most ++ last ∷ [])) 0 ≡ Some 0 → slice_get (keys_of ((most ++ last ∷ []) ++ next ∷ [])) 0 ≡ Some 0
      front [] last next e = e
      front (f ∷ most) last next e = e

  -- one with the same index gets none
  pub filled_same : c.0 - base < 2 ^ 16 → c.1 ≡ index → IsFilled cells base old new (passed + 1) index
  filled_same small equal =
      let more = past_base in
      let behind = filled.behind c at in
      record {
        most = filled.most;
        last = filled.last;
        added = filled.added;
        same = filled.same;
        first = filled.first;
        alternating = filled.alternating;
        small = filled.small;
        behind = next_before (base + filled.last.0) (omega (arith, behind));
        right = λ x fits before. elim (cases_lt x (c.0 - base)) [
          | inl less ↦ filled.right x fits (before_cell x (omega (arith, less)))
          | inr past ↦ index_push_below filled.most filled.last x (omega (arith, past, behind)) ∙ sym filled.same ∙ sym equal ∙ inside x (omega (arith, past)) before
        ];
        below = low_cell small;
      }

-- where the next cell is past the chunk, the run is whole
pub filled_whole : (cells : List (ℕ × ℕ)) (k : ℕ) (old new : List (ℕ × ℕ)) (passed index : ℕ) → IsFilled cells (k * 2 ^ 16) old new passed index → ((cell : ℕ × ℕ) → slice_get cells passed ≡ Some cell → k * 2 ^ 16 + 2 ^ 16 ≤ cell.0) → AddsRun cells k old new
filled_whole cells k old new passed index filled past = record {
  run = filled.most ++ filled.last ∷ [];
  added = filled.added;
  fragments = record {
    first = filled.first;
    alternating = filled.alternating;
    few = few_fragments filled.most filled.last (2 ^ 16) filled.alternating filled.small;
    right = λ x fits. filled.right x fits (λ d here. (let h = past d here in omega (arith, h, fits)));
  };
}

-- ---- the cells that start at or below a chunk's first address

module _ (cells : List (ℕ × ℕ)) (a passed : ℕ) (c : ℕ × ℕ) (is_passed : ArePassed cells a passed) (at : slice_get cells passed ≡ Some c) where
  pub passed_more : IsUp (keys_of cells) → c.0 ≡ a → ArePassed cells (a + 1) (passed + 1)
  passed_more up here =
      let inside = slice_get_within cells passed c at in
      let back : passed + 1 - 1 ≡ passed = omega arith in
      record {
        within = omega (arith, inside);
        below = λ d some there.
            (let e : c ≡ d = (let q = sym at ∙ ap (slice_get cells) (sym back) ∙ there in cc) in
            let h : c.0 < a + 1 = omega (arith, here) in
            subst (λ (x : ℕ × ℕ). x.0 < a + 1) e h);
        above = λ d there. (let less = next_higher cells passed c d up at there in omega (arith, less, here));
      }

  pub passed_same : (c.0 ≡ a → ⊥) → ArePassed cells (a + 1) passed
  passed_same other =
      let least = is_passed.above c at in
      let more : a + 1 ≤ c.0 = omega (arith, least, other) in
      record {
        within = is_passed.within;
        below = λ d some there. (let h = is_passed.below d some there in omega (arith, h));
        above = λ d there. (let e : c ≡ d = (let q = sym at ∙ there in cc) in subst (λ (x : ℕ × ℕ). a + 1 ≤ x.0) e more);
      }

  pub some_passed : slice_get (keys_of cells) 0 ≡ Some 0 → (c.0 ≡ a → ⊥) → 0 < passed
  some_passed first other = elim (cases_lt 0 passed) [
    | inl some ↦ some
    | inr none ↦
        let start : passed ≡ 0 = omega (arith, none) in
        let is = first_zero cells c (ap (slice_get cells) (sym start) ∙ at) first in
        let least = is_passed.above c at in
        absurd (other (omega (arith, is, least)))
  ]

pub passed_all : (cells : List (ℕ × ℕ)) (a passed : ℕ) → ArePassed cells a passed → passed ≡ length cells → ArePassed cells (a + 1) passed
passed_all cells a passed is_passed all = record {
  within = is_passed.within;
  below = λ d some there. (let h = is_passed.below d some there in omega (arith, h));
  above = λ d there. absurd (let h = slice_get_within cells passed d there in omega (arith, h, all));
}

pub some_cells : (cells : List (ℕ × ℕ)) → slice_get (keys_of cells) 0 ≡ Some 0 → 0 < length cells
some_cells [] first = absurd (let e = first in cc)
some_cells (c ∷ cells) first = omega arith

-- the cells that start below the next chunk's first address
pub passed_chunk : (cells : List (ℕ × ℕ)) (k : ℕ) (old new : List (ℕ × ℕ)) (passed index : ℕ) → passed ≤ length cells → IsFilled cells (k * 2 ^ 16) old new passed index → ((cell : ℕ × ℕ) → slice_get cells passed ≡ Some cell → k * 2 ^ 16 + 2 ^ 16 ≤ cell.0) → ArePassed cells ((k + 1) * 2 ^ 16) passed
passed_chunk cells k old new passed index within filled past = record {
  within = within;
  below = λ d some there. (let h = filled.below d there in omega (arith, h));
  above = λ d there. (let h = past d there in omega (arith, h));
}
