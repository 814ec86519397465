-- The cells of rows: they ascend from 0.
use Rattle.std.proofs.Common.{◌≡◌, ℕ, ◌+◌, ◌*◌, ◌/◌, ◌%◌, ◌<◌, List, [], ◌∷◌, Some, refl, sym, ap, ◌∙◌, arith, inl, inr, subst}
use Rattle.std.specs.List.{slice_get}
use Rattle.std.specs.Map.{keys_of}
use Rattle.prefix_width.specs.Prefix.{Block}
use Rattle.module_trait.specs.Starts.{IsIn, IsUp, starts_of}
use Rattle.module_trait.proofs.StartLemmas.{in-starts, up-starts}
use Rattle.module_trait.proofs.UpLemmas.{in-all}

-- the cells of rows ascend from 0
pub up_cells : (rows : List (Block × ℕ)) (cells : List (ℕ × ℕ)) → keys_of cells ≡ starts_of 32 rows → IsUp (keys_of cells)
up_cells rows cells starts = subst IsUp (sym starts) (up-starts 32 rows)

pub first_cell : (rows : List (Block × ℕ)) (cells : List (ℕ × ℕ)) → keys_of cells ≡ starts_of 32 rows → slice_get (keys_of cells) 0 ≡ Some 0
first_cell rows cells starts = ap (λ xs. slice_get xs 0) starts ∙ go (starts_of 32 rows) (up-starts 32 rows) (in-starts 32 rows 0 (inl refl))
  where
    go : (xs : List ℕ) → IsUp xs → IsIn 0 xs → slice_get xs 0 ≡ Some 0
    go [] up is = absurd is
    go (x ∷ xs) up is = elim is [
      | inl e ↦ ap Some (sym e)
      | inr later ↦ absurd (let less = in-all (λ y. x < y) xs 0 up.0 later in omega (arith, less))
    ]

pub whole_address : (a : ℕ) → a / 65536 * 65536 + a % 65536 ≡ a
whole_address a = omega arith
