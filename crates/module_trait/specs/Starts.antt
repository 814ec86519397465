-- The starts of rows: the addresses at which the longest row may change.
use Rattle.std.specs.Prelude.{◌≡◌, ◌⊎◌, ℕ, ◌+◌, ◌-◌, ◌^◌, ◌<◌, nat_lt, List, [], ◌∷◌, All, unwrap_or, if◌then◌else◌}
use Rattle.std.specs.BTreeSet.{insert_key}
use Rattle.std.specs.List.{fold, AllByRecursion}
use Rattle.std.specs.Ordering.{nat_cmp}
use Rattle.prefix_width.specs.Prefix.{Block}
use Rattle.prefix_width.specs.Longest.{longest}
use Rattle.module_trait.specs.Rows.{index_of}

-- the address behind the last one of a prefix
abbrev pub end_of : ℕ → Block → ℕ
end_of w p = p.base + 2 ^ (w - p.len)

-- the starts with the address behind the last one of a prefix, unless the last one is the greatest
abbrev pub with_end_of : ℕ → List ℕ → Block → List ℕ
with_end_of w starts p = if nat_lt (end_of w p) (2 ^ w) then insert_key nat_cmp starts (end_of w p) else starts

-- the starts of rows, ascending: 0, and the first address and the one behind the last of each prefix
abbrev pub starts_of : ℕ → List (Block × ℕ) → List ℕ
starts_of w rows = fold (λ starts r. with_end_of w (insert_key nat_cmp starts r.0.base) r.0) (0 ∷ []) rows

-- the index of the longest row that contains the address, 0 for none
abbrev pub index_at : ℕ → List (Block × ℕ) → ℕ → ℕ
index_at w rows a = unwrap_or (index_of (longest w rows a)) 0

-- each cell has the index at its start
abbrev pub AreRight : ℕ → List (Block × ℕ) → List (ℕ × ℕ) → Type 0
AreRight w rows cells = All (λ cell. cell.1 ≡ index_at w rows cell.0) cells

-- each number is below those behind it
abbrev pub IsUp : List ℕ → Type 0
IsUp [] = Unit {0}
IsUp (x ∷ xs) = AllByRecursion (λ y. x < y) xs × IsUp xs

-- the number is in the list
abbrev pub IsIn : ℕ → List ℕ → Type 0
IsIn t [] = ⊥
IsIn t (x ∷ xs) = (t ≡ x) ⊎ IsIn t xs
