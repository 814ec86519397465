-- The longest row's index, as a number that is 0 for no row.
use Rattle.std.proofs.Common.{◌≡◌, ℕ, ◌≤◌, true, false, cond, List, [], ◌∷◌, Option, Some, None, refl, ap, arith, unwrap_or, ltb}
use Rattle.std.specs.Map.{values_of}
use Rattle.std.proofs.lemmas.List.Elements.{All-head, All-tail}
use Rattle.prefix_width.specs.Prefix.{Block, contains}
use Rattle.prefix_width.specs.Longest.{longest, longer, only_if_in}
use Rattle.module_trait.specs.Edit.{IsIndex}
use Rattle.module_trait.specs.Rows.{HaveIndexes, index_of}

pub zero_is_none : (o : Option ℕ) (index : ℕ) → IsIndex o → index ≡ unwrap_or o 0 → index ≡ 0 → None ≡ o
zero_is_none None index p e z = refl
zero_is_none (Some i) index p e z = absurd (omega (arith, p, e, z))

pub one_is_some : (o : Option ℕ) (index : ℕ) → IsIndex o → index ≡ unwrap_or o 0 → (index ≡ 0 → ⊥) → Some index ≡ o
one_is_some None index p e z = absurd (z e)
one_is_some (Some i) index p e z = ap Some e

index_longer : (x y : Option (Block × ℕ)) → IsIndex (index_of x) → IsIndex (index_of y) → IsIndex (index_of (longer x y))
index_longer None y hx hy = hy
index_longer (Some r) None hx hy = hx
index_longer (Some r) (Some s) hx hy = elim (ltb r.0.len s.0.len) as (λ b. IsIndex (index_of (cond b (Some s) (Some r)))) [ true ↦ hy | false ↦ hx ]

-- the longest row's index is 1 or more
pub index_longest : (w : ℕ) (rows : List (Block × ℕ)) (a : ℕ) → HaveIndexes rows → IsIndex (index_of (longest w rows a))
index_longest w [] a all = tt
index_longest w (r ∷ rows) a all =
    let first = All-head (λ i. 1 ≤ i) r.1 (values_of rows) all in
    index_longer (only_if_in w a r) (longest w rows a)
    (elim (contains w r.0 a) as (λ b. IsIndex (index_of (cond b (Some r) None))) [ true ↦ first | false ↦ tt ])
    (index_longest w rows a (All-tail (λ i. 1 ≤ i) r.1 (values_of rows) all))
