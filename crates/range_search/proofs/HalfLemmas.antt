-- The bisection in halves: the place is in what is left, or just before it.
use Rattle.std.proofs.Common.{◌≡◌, ℕ, ◌+◌, ◌-◌, ◌/◌, ◌<◌, ◌≤◌, Bool, true, false, if◌then◌else◌, List, Some, refl, sym, ap, ◌∙◌, arith, inl, inr, subst, length}
use Rattle.std.specs.List.{slice_get}
use Rattle.std.specs.Prelude.{◌↔◌, IsTrue}
use Rattle.std.proofs.lemmas.Bool.{cases_lt, false≢true}
use Rattle.std.proofs.lemmas.Option.{slice_get_within}
use Rattle.range_search.specs.Bisect.{IsLast}
use Rattle.range_search.proofs.BisectLemmas.{IsNarrowed}

-- a cell that begins behind the address, or the end of all cells, at the end of what is left or just before it
abbrev pub IsStop : {S : Type 0} → (S → ℕ) → List (S × ℕ) → ℕ → ℕ → ℕ → Type 0
IsStop {S} number cells a low size = (place : ℕ) × ((d : S × ℕ) → slice_get cells place ≡ Some d → a < number d.0) × (low ≤ place) × (low + size ≤ place + 1) × (place ≤ low + size)

-- the cell before what is left begins at or before the address and has the index, and one about its end begins behind it
pub record IsHalfway {S : Type 0} (number : S → ℕ) (cells : List (S × ℕ)) (a low size index : ℕ) : Type 0 where
  pub within : low + size ≤ length cells
  pub best : 0 < low → (c : S × ℕ) × (slice_get cells (low - 1) ≡ Some c) × (number c.0 ≤ a) × (index ≡ c.1)
  pub stop : IsStop number cells a low size

-- at first all is left
pub all_left : {S : Type 0} (number : S → ℕ) (cells : List (S × ℕ)) (a size index : ℕ) → size ≡ length cells → IsHalfway number cells a 0 size index
all_left {S} number cells a size index all =
    record {
      within = omega arith;
      best = λ some. absurd (omega (arith, some));
      stop = (size, (λ (d : S × ℕ) e. absurd (let w = slice_get_within cells size d e in omega (arith, w))), omega arith, omega arith, omega arith);
    }

-- one look at the middle: the place is behind it
half_right : {S : Type 0} (number : S → ℕ) (cells : List (S × ℕ)) (a low size index next : ℕ) (c : S × ℕ) → 0 < size → next ≡ low + (size - size / 2) → IsHalfway number cells a low size index → slice_get cells (next - 1) ≡ Some c → number c.0 ≤ a → IsHalfway number cells a next (size / 2) c.1
half_right {S} number cells a low size index next c some middle halfway at h =
    record {
      within = (let w = halfway.within in omega (arith, w));
      best = λ front. (c, at, h, refl);
      stop = nearer halfway.stop;
    }
  where
    nearer : IsStop number cells a low size → IsStop number cells a next (size / 2)
    nearer stop =
        let end = stop.3 in
        let near = stop.4 in
        elim (cases_lt stop.0 next) [
          | inl front ↦
              let here : next - 1 ≡ stop.0 = omega (arith, end, near, front, middle, some) in
              let behind = stop.1 c (ap (slice_get cells) (sym here) ∙ at) in
              absurd (omega (arith, behind, h))
          | inr past ↦ (stop.0, stop.1, past, omega (arith, end, middle), omega (arith, near, middle))
        ]

-- or before it
half_left : {S : Type 0} (number : S → ℕ) (cells : List (S × ℕ)) (a low size index next : ℕ) (c : S × ℕ) → 0 < size → next ≡ low + (size - size / 2) → IsHalfway number cells a low size index → slice_get cells (next - 1) ≡ Some c → a < number c.0 → IsHalfway number cells a low (size / 2) index
half_left {S} number cells a low size index next c some middle halfway at h =
    record {
      within = (let w = halfway.within in omega (arith, w));
      best = halfway.best;
      stop = (next - 1, (λ (d : S × ℕ) e. (let same : c ≡ d = (let q = sym at ∙ e in cc) in subst (λ (x : S × ℕ). a < number x.0) same h)), omega arith, omega arith, omega arith);
    }

-- either way
pub half_step : {S : Type 0} (number : S → ℕ) (cells : List (S × ℕ)) (a low size index : ℕ) (c : S × ℕ) (begun : Bool) (next next_low next_index limit : ℕ) → 0 < size → limit ≡ a + 1 → IsHalfway number cells a low size index → slice_get cells (next - 1) ≡ Some c → (IsTrue begun ↔ (number c.0 < limit)) → next ≡ low + (size - size / 2) → next_low ≡ (if begun then next else low) → next_index ≡ (if begun then c.1 else index) → IsHalfway number cells a next_low (size / 2) next_index
half_step number cells a low size index c true next next_low next_index limit some more halfway at begins middle e f =
    let before = begins.0 refl in
    rw (e, f) (half_right number cells a low size index next c some middle halfway at (omega (arith, before, more)))
half_step number cells a low size index c false next next_low next_index limit some more halfway at begins middle e f =
    let behind : a < number c.0 = elim (cases_lt a (number c.0)) [ inl below ↦ below | inr above ↦ absurd (false≢true (begins.1 (omega (arith, above, more)))) ] in
    rw (e, f) (half_left number cells a low size index next c some middle halfway at behind)

-- where nothing is left, the index is that of the last cell at or before the address
pub nothing_left : {S : Type 0} (number : S → ℕ) (cells : List (S × ℕ)) (a low size index : ℕ) → size ≡ 0 → IsHalfway number cells a low size index → IsLast number cells a index
nothing_left number cells a low size index none halfway =
    let stop = halfway.stop in
    let front = stop.2 in
    let near = stop.4 in
    let here : low ≡ stop.0 = omega (arith, front, near, none) in
    record {
      place = low;
      within = (let w = halfway.within in omega (arith, w));
      before = halfway.best;
      behind = λ d e. stop.1 d (ap (slice_get cells) (sym here) ∙ e);
    }

-- where the last of all cells begins at or before the address, it is the one
pub all_begin : {S : Type 0} (number : S → ℕ) (cells : List (S × ℕ)) (a : ℕ) (c : S × ℕ) → slice_get cells (length cells - 1) ≡ Some c → number c.0 ≤ a → IsLast number cells a c.1
all_begin number cells a c at h =
    record {
      place = length cells;
      within = omega arith;
      before = λ some. (c, at, h, refl);
      behind = λ d e. absurd (let w = slice_get_within cells (length cells) d e in omega (arith, w));
    }

-- the last cell as the bisection's end
pub last_narrowed : (cells : List (ℕ × ℕ)) (a index : ℕ) → (last : IsLast (λ (n : ℕ). n) cells a index) → IsNarrowed cells a last.place last.place index
last_narrowed cells a index last = record { order = omega arith; within = last.within; best = last.before; above = last.behind }
