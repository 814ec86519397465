-- The longest match of two lists whose rows are related one by one: the longest rows are related too. It speaks of
-- `longest` alone, and belongs beside it.
use Rattle.std.proofs.Common.{◌≡◌, ℕ, true, false, cond, List, [], ◌∷◌, Option, Some, None, ap, ◌∙◌, nat_lt}
use Rattle.std.specs.List.{AllZip}
use Rattle.prefix_width.specs.Prefix.{Block, contains}
use Rattle.prefix_width.specs.Longest.{longest, longer, only_if_in}

module _ {X Y : Type 0} (R : Block × X → Block × Y → Type 0) where
  abbrev pub AreBoth : Option (Block × X) → Option (Block × Y) → Type 0
  AreBoth None None = Unit {0}
  AreBoth (Some x) (Some y) = R x y
  AreBoth x y = ⊥

module _ {X Y : Type 0} (R : Block × X → Block × Y → Type 0) (same : (x : Block × X) (y : Block × Y) → R x y → y.0 ≡ x.0) where
  both_longer : (x x' : Option (Block × X)) (y y' : Option (Block × Y)) → AreBoth R x y → AreBoth R x' y' → AreBoth R (longer x x') (longer y y')
  both_longer None x' None y' h h' = h'
  both_longer None x' (Some y) y' h h' = absurd h
  both_longer (Some x) x' None y' h h' = absurd h
  both_longer (Some x) None (Some y) None h h' = h
  both_longer (Some x) None (Some y) (Some y') h h' = absurd h'
  both_longer (Some x) (Some x') (Some y) None h h' = absurd h'
  both_longer (Some x) (Some x') (Some y) (Some y') h h' =
      let e : nat_lt y.0.len y'.0.len ≡ nat_lt x.0.len x'.0.len = ap (λ p. nat_lt p.len y'.0.len) (same x y h) ∙ ap (λ p. nat_lt x.0.len p.len) (same x' y' h') in
      rw e (elim (nat_lt x.0.len x'.0.len) as (λ b. AreBoth R (cond b (Some x') (Some x)) (cond b (Some y') (Some y))) [ true ↦ h' | false ↦ h ])

  both_only : (w a : ℕ) (x : Block × X) (y : Block × Y) → R x y → AreBoth R (only_if_in w a x) (only_if_in w a y)
  both_only w a x y h =
      let e : contains w y.0 a ≡ contains w x.0 a = ap (λ p. contains w p a) (same x y h) in
      rw e (elim (contains w x.0 a) as (λ b. AreBoth R (cond b (Some x) None) (cond b (Some y) None)) [ true ↦ h | false ↦ tt ])

  pub both_longest : (w : ℕ) (xs : List (Block × X)) (ys : List (Block × Y)) (a : ℕ) → AllZip R xs ys → AreBoth R (longest w xs a) (longest w ys a)
  both_longest w [] [] a h = tt
  both_longest w [] (y ∷ ys) a h = absurd h
  both_longest w (x ∷ xs) [] a h = absurd h
  both_longest w (x ∷ xs) (y ∷ ys) a h =
      both_longer (only_if_in w a x) (longest w xs a) (only_if_in w a y) (longest w ys a) (both_only w a x y h.0) (both_longest w xs ys a h.1)
