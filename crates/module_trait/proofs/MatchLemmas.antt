-- The longest match over lists that are joined.
use Rattle.std.proofs.Common.{◌≡◌, ℕ, ◌+◌, List, [], ◌∷◌, ◌++◌, Option, Some, None, true, false, cond, refl, sym, ◌∙◌, ap, arith, drop, drop-cons, add-one, get_or, ltb}
use Rattle.std.proofs.lemmas.Bool.Decides.{nat_tests}
use Rattle.std.specs.List.{slice_get}
use Rattle.std.proofs.lemmas.Option.{get_or_from_slice_get, slice_get_within}
use Rattle.prefix_width.specs.Prefix.{Block}
use Rattle.prefix_width.specs.Longest.{longer, only_if_in, longest}

module _ {X : Type 0} where
  some_assoc : (x y z : Block × X) → longer (longer (Some x) (Some y)) (Some z) ≡ longer (Some x) (longer (Some y) (Some z))
  some_assoc x y z = grind (arith, nat_tests)

  pub longer_assoc : (x y z : Option (Block × X)) → longer (longer x y) z ≡ longer x (longer y z)
  longer_assoc None y z = refl
  longer_assoc (Some x) None z = refl
  longer_assoc (Some x) (Some y) None = elim (ltb x.0.len y.0.len) as (λ b. longer (cond b (Some y) (Some x)) None ≡ cond b (Some y) (Some x)) [ true ↦ refl | false ↦ refl ]
  longer_assoc (Some x) (Some y) (Some z) = some_assoc x y z

  pub longer-none : (x : Option (Block × X)) → longer x None ≡ x
  longer-none None = refl
  longer-none (Some x) = refl

  -- one more row at the end
  pub longest-push : (w : ℕ) (rows : List (Block × X)) (r : Block × X) (a : ℕ) → longest w (rows ++ r ∷ []) a ≡ longer (longest w rows a) (only_if_in w a r)
  longest-push w [] r a = longer-none (only_if_in w a r)
  longest-push w (s ∷ rows) r a = ap (longer (only_if_in w a s)) (longest-push w rows r a) ∙ sym (longer_assoc (only_if_in w a s) (longest w rows a) (only_if_in w a r))

  -- the rows from a place on are the one there, and those from the next place on
  pub longest-drop : (w : ℕ) (rows : List (Block × X)) (i : ℕ) (r : Block × X) (a : ℕ) → slice_get rows i ≡ Some r → longest w (drop i rows) a ≡ longer (only_if_in w a r) (longest w (drop (i + 1) rows) a)
  longest-drop w rows i r a at =
      ap (λ xs. longest w xs a) (drop-cons rows i r (slice_get_within rows i r at) ∙ ap (λ n. get_or rows i r ∷ drop n rows) (sym (add-one i)))
      ∙ ap (λ x. longer (only_if_in w a x) (longest w (drop (i + 1) rows) a)) (get_or_from_slice_get rows i r r at)

  -- the best of the rows so far takes the row at a place, and joins the rest as before
  pub best_goes_on : (w : ℕ) (rows : List (Block × X)) (i : ℕ) (r : Block × X) (a : ℕ) (best : Option (Block × X)) → slice_get rows i ≡ Some r → longer best (longest w (drop i rows) a) ≡ longest w rows a → longer (longer best (only_if_in w a r)) (longest w (drop (i + 1) rows) a) ≡ longest w rows a
  best_goes_on w rows i r a best at before =
      longer_assoc best (only_if_in w a r) (longest w (drop (i + 1) rows) a) ∙ ap (longer best) (sym (longest-drop w rows i r a at)) ∙ before
