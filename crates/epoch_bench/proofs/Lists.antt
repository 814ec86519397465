-- Lists of two, products, and what a success holds.
use Rattle.std.proofs.Common.{◌≡◌, ◌+◌, ◌*◌, ◌<◌, ◌≤◌, ℕ, List, [], ◌∷◌, length, slice_index_or, arith, subst, Result, Ok, IfOk}

-- a list of length 2 is its two elements
pub two_words : {X : Type 0} (xs : List X) (a b : X) → 2 ≤ length xs → length xs < 3 → a ≡ slice_index_or xs 0 a → b ≡ slice_index_or xs 1 b → a ∷ b ∷ [] ≡ xs
two_words [] a b least most first second = grind arith
two_words (x ∷ []) a b least most first second = grind arith
two_words (x ∷ y ∷ []) a b least most first second = λ i. first i ∷ second i ∷ []
two_words (x ∷ y ∷ z ∷ zs) a b least most first second = grind arith

-- one more time
pub times_next : (n r : ℕ) → n * r + r ≡ (n + 1) * r
times_next n r = grind arith

-- what is so of each success is so of this one
pub ok_at : {T E : Type 0} (r : Result T E) (x : T) → r ≡ Ok x → (P : T → Type 0) → IfOk r P → P x
ok_at r x e P h = subst (λ s. IfOk s P) e h
