-- A run of fragments: an index from each 16-bit start on. The addresses with one value k of the 16 leading bits are chunk k.
use Rattle.std.specs.Prelude.{◌≡◌, ◌≢◌, ℕ, ◌+◌, ◌*◌, ◌^◌, ◌<◌, ◌≤◌, nat_le, List, [], ◌∷◌, Some, length, slice_get, if◌then◌else◌}
use Rattle.std.specs.List.{fold}
use Rattle.std.specs.Map.{keys_of}

-- the index of the last cell that starts at or below a place, 0 where there is none
abbrev pub index_in : List (ℕ × ℕ) → ℕ → ℕ
index_in cells x = fold (λ index cell. if nat_le cell.0 x then cell.1 else index) 0 cells

-- each cell starts below the next one, and has another index
abbrev pub IsAlternating : List (ℕ × ℕ) → Type 0
IsAlternating [] = Unit {0}
IsAlternating (f ∷ []) = Unit {0}
IsAlternating (f ∷ g ∷ run) = (f.0 < g.0) × (f.1 ≢ g.1) × IsAlternating (g ∷ run)

-- the fragments begin at 0, alternate, and give the answer at each address of chunk k
pub record AreFragments (answer : ℕ → ℕ) (k : ℕ) (run : List (ℕ × ℕ)) : Type 0 where
  pub first : slice_get (keys_of run) 0 ≡ Some 0
  pub alternating : IsAlternating run
  pub few : length run ≤ 2 ^ 16
  pub right : (x : ℕ) → x < 2 ^ 16 → index_in run x ≡ answer (k * 2 ^ 16 + x)

-- one index is the answer at every address of chunk k
abbrev pub IsDirect : (ℕ → ℕ) → ℕ → ℕ → Type 0
IsDirect answer k index = (x : ℕ) → x < 2 ^ 16 → index ≡ answer (k * 2 ^ 16 + x)
