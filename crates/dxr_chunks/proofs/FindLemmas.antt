-- The bisection finds the last fragment of a run that starts at or below an offset.
use Rattle.std.proofs.Common.{◌≡◌, ℕ, suc, ◌+◌, ◌-◌, ◌*◌, ◌^◌, ◌<◌, ◌≤◌, List, Some, sym, ap, ◌∙◌, arith, inl, inr, subst, length, get_or}
use Rattle.std.specs.List.{slice_get, slice_range}
use Rattle.std.specs.Map.{keys_of}
use Rattle.std.proofs.lemmas.Bool.{cases_lt}
use Rattle.std.proofs.lemmas.List.Edits.{length-between, get_or-between}
use Rattle.std.proofs.lemmas.Option.{slice_get_within, slice_get-get_or, get_or_from_slice_get}
use Rattle.std.proofs.Math.Nat.{pow-suc}
use Rattle.dxr_chunks.specs.Fragments.{IsAlternating, index_in}
use Rattle.dxr_chunks.proofs.RunLemmas.{first_zero, index_from_place, next_higher, up_alternating}

-- a fragment of a run, by its place among all
in_run : (fragments : List (ℕ × ℕ)) (first end p : ℕ) (f : ℕ × ℕ) → end ≤ length fragments → first ≤ p → p < end → slice_get fragments p ≡ Some f → slice_get (slice_range fragments first end) (p - first) ≡ Some f
in_run fragments first end p f within from inside at =
    let len = length-between fragments first end within in
    let back : first + (p - first) ≡ p = omega (arith, from) in
    slice_get-get_or (slice_range fragments first end) (p - first) f (omega (arith, len, from, inside))
    ∙ ap Some (get_or-between fragments first end (p - first) f (omega (arith, from, inside)) ∙ ap (λ n. get_or fragments n f) back ∙ get_or_from_slice_get fragments p f f at)

-- and the other way round
from_run : (fragments : List (ℕ × ℕ)) (first end i : ℕ) (f : ℕ × ℕ) → end ≤ length fragments → slice_get (slice_range fragments first end) i ≡ Some f → (first + i < end) × (slice_get fragments (first + i) ≡ Some f)
from_run fragments first end i f within at =
    let len = length-between fragments first end within in
    let inside = slice_get_within (slice_range fragments first end) i f at in
    let less : first + i < end = omega (arith, len, inside) in
    (less, slice_get-get_or fragments (first + i) f (omega (arith, less, within)) ∙ ap Some (sym (get_or-between fragments first end i f less) ∙ get_or_from_slice_get (slice_range fragments first end) i f f at))

-- the fragment that is looked for is one of the `size` fragments from `low` on
pub record IsNarrowed (fragments : List (ℕ × ℕ)) (first end offset low size : ℕ) : Type 0 where
  pub from : first ≤ low
  pub some : 0 < size
  pub within : low + size ≤ end
  pub best : (f : ℕ × ℕ) → first < low → slice_get fragments low ≡ Some f → f.0 ≤ offset
  pub above : IsAlternating (slice_range fragments first end) → (f : ℕ × ℕ) → low + size < end → slice_get fragments (low + size) ≡ Some f → offset < f.0

-- at the start it is any
pub all_left : (fragments : List (ℕ × ℕ)) (first end offset : ℕ) → first < end → IsNarrowed fragments first end offset first (end - first)
all_left fragments first end offset some = record {
  from = omega arith;
  some = omega (arith, some);
  within = omega (arith, some);
  best = λ f h at. absurd (omega (arith, h));
  above = λ alternating f h at. absurd (omega (arith, h, some));
}

-- one look at the middle: it is there or behind
pub go_right : (fragments : List (ℕ × ℕ)) (first end offset low size half : ℕ) (f : ℕ × ℕ) → IsNarrowed fragments first end offset low size → half < size → slice_get fragments (low + half) ≡ Some f → f.0 ≤ offset → IsNarrowed fragments first end offset (low + half) (size - half)
go_right fragments first end offset low size half f narrowed less at h =
    let from = narrowed.from in
    let within = narrowed.within in
    let same : low + half + (size - half) ≡ low + size = omega (arith, less) in
    record {
      from = omega (arith, from);
      some = omega (arith, less);
      within = omega (arith, within, same);
      best = λ g past here. (let e : f ≡ g = (let q = sym at ∙ here in cc) in subst (λ (x : ℕ × ℕ). x.0 ≤ offset) e h);
      above = λ alternating g inside here. narrowed.above alternating g (omega (arith, inside, same)) (ap (slice_get fragments) (sym same) ∙ here);
    }

-- or before it
pub go_left : (fragments : List (ℕ × ℕ)) (first end offset low size half : ℕ) (f : ℕ × ℕ) → end ≤ length fragments → IsNarrowed fragments first end offset low size → half < size → half + half ≤ size → size ≤ half + half + 1 → slice_get fragments (low + half) ≡ Some f → offset < f.0 → IsNarrowed fragments first end offset low (size - half)
go_left fragments first end offset low size half f whole narrowed less even odd at h =
    let from = narrowed.from in
    let within = narrowed.within in
    record {
      from = from;
      some = omega (arith, less);
      within = omega (arith, within);
      best = narrowed.best;
      above = λ alternating g inside here. elim (cases_lt half (size - half)) [
        | inr even2 ↦
            let same : low + (size - half) ≡ low + half = omega (arith, even, even2) in
            let e : f ≡ g = (let q = sym at ∙ ap (slice_get fragments) (sym same) ∙ here in cc) in
            subst (λ (x : ℕ × ℕ). offset < x.0) e h
        | inl odd2 ↦
            let next : low + (size - half) - first ≡ low + half - first + 1 = omega (arith, odd, odd2, from) in
            let here1 = in_run fragments first end (low + half) f whole (omega (arith, from)) (omega (arith, within, less)) at in
            let here2 = in_run fragments first end (low + (size - half)) g whole (omega (arith, from)) inside here in
            let more = next_higher (slice_range fragments first end) (low + half - first) f g (up_alternating (slice_range fragments first end) alternating) here1 (ap (slice_get (slice_range fragments first end)) (sym next) ∙ here2) in
            omega (arith, h, more)
      ];
    }

-- the bits that are left
pub fewer : (size half steps bits : ℕ) → 1 < size → half + half ≤ size → size ≤ half + half + 1 → steps ≤ bits → size ≤ 2 ^ (bits - steps) → (steps + 1 ≤ bits) × (size - half ≤ 2 ^ (bits - (steps + 1)))
fewer size half steps bits more even odd few fits = elim (cases_lt steps bits) [
  | inr none ↦
      let zero : bits - steps ≡ 0 = omega (arith, none) in
      absurd (let one = subst (λ n. size ≤ 2 ^ n) zero fits in omega (arith, one, more))
  | inl some ↦
      let next : bits - steps ≡ suc (bits - (steps + 1)) = omega (arith, some) in
      let double : 2 ^ (bits - steps) ≡ 2 ^ (bits - (steps + 1)) * 2 = ap (λ n. 2 ^ n) next ∙ pow-suc 2 (bits - (steps + 1)) in
      (omega (arith, some), omega (arith, double, fits, even, odd))
]

-- where one is left, it is the last at or below the offset
pub found : (fragments : List (ℕ × ℕ)) (first end offset low size : ℕ) (f : ℕ × ℕ) → end ≤ length fragments → IsNarrowed fragments first end offset low size → size ≤ 1 → slice_get fragments low ≡ Some f → IsAlternating (slice_range fragments first end) → slice_get (keys_of (slice_range fragments first end)) 0 ≡ Some 0 → f.1 ≡ index_in (slice_range fragments first end) offset
found fragments first end offset low size f whole narrowed one at alternating zero =
    let from = narrowed.from in
    let some = narrowed.some in
    let within = narrowed.within in
    let run = slice_range fragments first end in
    let here : slice_get run (low - first) ≡ Some f = in_run fragments first end low f whole from (omega (arith, within, some)) at in
    let below : f.0 ≤ offset = elim (cases_lt first low) [
      | inl past ↦ narrowed.best f past at
      | inr same ↦
          let start : low - first ≡ 0 = omega (arith, same) in
          (let z = first_zero run f (ap (slice_get run) (sym start) ∙ here) zero in omega (arith, z))
    ] in
    let above : (d : ℕ × ℕ) → slice_get run (low - first + 1) ≡ Some d → offset < d.0 = λ d next.
    let there = from_run fragments first end (low - first + 1) d whole next in
    let same : low + size ≡ first + (low - first + 1) = omega (arith, from, some, one) in
    let inside = there.0 in
    narrowed.above alternating d (omega (arith, same, inside)) (ap (slice_get fragments) same ∙ there.1) in
    sym (index_from_place run (low - first) f offset (up_alternating run alternating) here below above)
