-- One chunk more is made.
use Rattle.std.proofs.Common.{◌≡◌, ℕ, ◌+◌, ◌-◌, ◌≤◌, List, [], ◌∷◌, ◌++◌, Some, refl, sym, ap, ◌∙◌, arith, inl, inr, subst, length, take, drop}
use Rattle.std.specs.List.{slice_index, slice_range}
use Rattle.std.proofs.lemmas.Bool.{cases_lt}
use Rattle.std.proofs.lemmas.List.{append-nil, drop_at, drop-append-le, take-append-le, take_all, get_or_append_left, get_or_push, length-append, length-drop, length_push}
use Rattle.std.proofs.lemmas.Option.{get_or_from_slice_get, slice_get-get_or}
use Rattle.dxr_table.specs.Dxr.{Dxr, IsChunk, run_of}
use Rattle.dxr_chunks.specs.Fragments.{AreFragments, index_in}
use Rattle.dxr_table.specs.Making.{AreMade}
use Rattle.dxr_chunks.specs.Making.{AddsRun}
use Rattle.dxr_chunks.proofs.RunLemmas.{index_push_below}

-- what is added behind fragments for a chunk with this index
pub record IsAdded (answer : ℕ → ℕ) (k index : ℕ) (old new : List (ℕ × ℕ)) : Type 0 where
  pub run : List (ℕ × ℕ)
  pub added : new ≡ old ++ run
  pub chunk : IsChunk answer k index run

-- what taking a single fragment out does
pub record IsTaken (first index : ℕ) (old new : List (ℕ × ℕ)) : Type 0 where
  pub single : (front : List (ℕ × ℕ)) (only : ℕ × ℕ) → old ≡ front ++ only ∷ [] → length front ≡ first → (new ≡ front) × (index ≡ only.1)
  pub run : first + 2 ≤ length old → new ≡ old

pub added_chunk : (cells : List (ℕ × ℕ)) (k index : ℕ) (old middle new : List (ℕ × ℕ)) → AddsRun cells k old middle → IsTaken (length old) index middle new → IsAdded (index_in cells) k index old new
added_chunk cells k index old middle new adds taken = go adds.run adds.added adds.fragments
  where
    go : (run : List (ℕ × ℕ)) → middle ≡ old ++ run → AreFragments (index_in cells) k run → IsAdded (index_in cells) k index old new
    go [] added fragments = absurd (let e = fragments.first in cc)
    go (f ∷ []) added fragments =
        let out = taken.single old f added refl in
        let zero : f.0 ≡ 0 = (let e = fragments.first in cc) in
        record {
          run = [];
          added = out.0 ∙ sym (append-nil old);
          chunk = inl (refl, λ x fits. out.1 ∙ sym (index_push_below [] f x (omega (arith, zero))) ∙ fragments.right x fits);
        }
    go (f ∷ g ∷ run) added fragments =
        let len : length middle ≡ length old + length (f ∷ g ∷ run) = ap length added ∙ length-append old (f ∷ g ∷ run) in
        record {
          run = f ∷ g ∷ run;
          added = taken.run (omega (arith, len)) ∙ added;
          chunk = inr (omega arith, fragments);
        }

-- a run that is there stays
range_kept : (old run : List (ℕ × ℕ)) (from to : ℕ) → to ≤ length old → slice_range (old ++ run) from to ≡ slice_range old from to
range_kept old run from to h = elim (cases_lt from to) [
  | inl some ↦
      let len = length-drop from old in
      ap (take (to - from)) (drop-append-le from old run (omega (arith, some, h))) ∙ take-append-le (to - from) (drop from old) run (omega (arith, len, h, some))
  | inr none ↦
      let zero : to - from ≡ 0 = omega (arith, none) in
      ap (λ n. take n (drop from (old ++ run))) zero ∙ sym (ap (λ n. take n (drop from old)) zero)
]

range_new : (old run : List (ℕ × ℕ)) (from to : ℕ) → from ≡ length old → to ≡ length old + length run → slice_range (old ++ run) from to ≡ run
range_new old run from to is end =
    ap (take (to - from)) (drop_at old run from (sym is)) ∙ take_all (to - from) run (omega (arith, is, end))

-- the table with one chunk more
abbrev pub with_chunk : Dxr → ℕ → List (ℕ × ℕ) → Dxr
with_chunk table index fragments = record { firsts = table.firsts ++ length fragments ∷ []; indexes = table.indexes ++ index ∷ []; fragments = fragments }

pub made_more : (cells : List (ℕ × ℕ)) (k : ℕ) (table : Dxr) (index : ℕ) (new : List (ℕ × ℕ)) → AreMade cells k table → IsAdded (index_in cells) k index table.fragments new → AreMade cells (k + 1) (with_chunk table index new)
made_more cells k table index new made adds =
    let old = table.fragments in
    let run = adds.run in
    let firsts' = table.firsts ++ length new ∷ [] in
    let indexes' = table.indexes ++ index ∷ [] in
    let shape = made.shape in
    let count = shape.firsts in
    let cells_count = shape.indexes in
    let len : length new ≡ length old + length run = ap length adds.added ∙ length-append old run in
    let first_kept : (j : ℕ) → j ≤ k → slice_index firsts' j ≡ slice_index table.firsts j = λ j h. get_or_append_left table.firsts (length new ∷ []) 0 j (omega (arith, h, count)) in
    let first_new : slice_index firsts' (k + 1) ≡ length new = get_or_push table.firsts (length new) 0 (k + 1) count in
    let first_last : slice_index table.firsts k ≡ length old = get_or_from_slice_get table.firsts k (length old) 0 made.last in
    record {
      shape = record {
        firsts = length_push table.firsts (length new) ∙ ap (λ n. n + 1) count;
        indexes = length_push table.indexes index ∙ ap (λ n. n + 1) cells_count;
        ordered = λ j h. elim (cases_lt j k) [
          | inl less ↦ (let here = first_kept j (omega (arith, less)) in let there = first_kept (j + 1) (omega (arith, less)) in let le = shape.ordered j less in omega (arith, here, there, le))
          | inr past ↦
              let is : j ≡ k = omega (arith, h, past) in
              let here = first_kept k (omega arith) ∙ first_last in
              subst (λ n. slice_index firsts' n ≤ slice_index firsts' (n + 1)) (sym is) (omega (arith, here, first_new, len))
        ];
        within = λ j h. elim (cases_lt k j) [
          | inl past ↦
              let is : j ≡ k + 1 = omega (arith, h, past) in
              subst (λ n. slice_index firsts' n ≤ length new) (sym is) (omega (arith, first_new))
          | inr less ↦ (let here = first_kept j less in let le = shape.within j less in omega (arith, here, le, len))
        ];
      };
      last = slice_get-get_or firsts' (k + 1) 0 (let l = length_push table.firsts (length new) in omega (arith, l, count)) ∙ ap Some first_new;
      chunks = λ j h. elim (cases_lt j k) [
        | inl less ↦
            let here = first_kept j (omega (arith, less)) in
            let there = first_kept (j + 1) (omega (arith, less)) in
            let index_kept : slice_index indexes' j ≡ slice_index table.indexes j = get_or_append_left table.indexes (index ∷ []) 0 j (omega (arith, less, cells_count)) in
            let run_kept : run_of (with_chunk table index new) j ≡ run_of table j =
            ap (λ n. slice_range new n (slice_index firsts' (j + 1))) here ∙ ap (slice_range new (slice_index table.firsts j)) there
            ∙ ap (λ xs. slice_range xs (slice_index table.firsts j) (slice_index table.firsts (j + 1))) adds.added
            ∙ range_kept old run (slice_index table.firsts j) (slice_index table.firsts (j + 1)) (shape.within (j + 1) (omega (arith, less))) in
            subst (λ xs. IsChunk (index_in cells) j (slice_index indexes' j) xs) (sym run_kept) (subst (λ n. IsChunk (index_in cells) j n (run_of table j)) (sym index_kept) (made.chunks j less))
        | inr past ↦
            let is : j ≡ k = omega (arith, h, past) in
            let index_new : slice_index indexes' k ≡ index = get_or_push table.indexes index 0 k cells_count in
            let run_new : run_of (with_chunk table index new) k ≡ run =
            ap (λ xs. slice_range xs (slice_index firsts' k) (slice_index firsts' (k + 1))) adds.added
            ∙ range_new old run (slice_index firsts' k) (slice_index firsts' (k + 1)) (first_kept k (omega arith) ∙ first_last) (first_new ∙ len) in
            let new_chunk : IsChunk (index_in cells) k (slice_index indexes' k) (run_of (with_chunk table index new) k) = subst (λ xs. IsChunk (index_in cells) k (slice_index indexes' k) xs) (sym run_new) (subst (λ n. IsChunk (index_in cells) k n run) (sym index_new) adds.chunk) in
            subst (λ n. IsChunk (index_in cells) n (slice_index indexes' n) (run_of (with_chunk table index new) n)) (sym is) new_chunk
      ];
    }
