-- Each index from 1 to 4 has an entry, and the slots of the group are of the first two.
use Rattle.std.proofs.Common.{◌≡◌, ◌≤◌, ◌<◌, ◌∷◌, [], List, ℕ, arith, length, get_or, subst, sym, refl, inl, inr}
use Rattle.std.specs.Prelude.{All, IsSome, Some}
use Rattle.std.proofs.lemmas.Bool.{cases_eq}
use Rattle.std.proofs.lemmas.List.Elements.{All-cons, All-nil}
use Rattle.engine_set.specs.declared.entry.Entry.{Entry}
use Rattle.engine_set.specs.declared.entry.Entry.TheVariants.{Nexthop, Group}
use Rattle.engine_set.specs.Entry.{HasNexthops, entry_at}
use Rattle.engine_set.proofs.tests.entries.Goals as goal

four : List ℕ → List Entry
four slots = Nexthop 1 ∷ Nexthop 2 ∷ Nexthop 3 ∷ Group 4 slots ∷ []

there : (slots : List ℕ) (i : ℕ) → 1 ≤ i → i ≤ 4 → IsSome (entry_at (four slots) i)
unfolding four
there slots i low high = elim (cases_eq i 1) [
  | inl e ↦ subst (λ n. IsSome (entry_at (four slots) n)) (sym e) refl
  | inr a ↦ elim (cases_eq i 2) [
    | inl e ↦ subst (λ n. IsSome (entry_at (four slots) n)) (sym e) refl
    | inr b ↦ elim (cases_eq i 3) [
      | inl e ↦ subst (λ n. IsSome (entry_at (four slots) n)) (sym e) refl
      | inr d ↦ let e : i ≡ 4 = omega arith in subst (λ n. IsSome (entry_at (four slots) n)) (sym e) refl
    ]
  ]
]

leads : (slots : List ℕ) (i : ℕ) → (1 ≤ i) × (i ≤ 2) → entry_at (four slots) i ≡ Some (Nexthop i)
unfolding four
leads slots i is = elim (cases_eq i 1) [
  | inl e ↦ subst (λ n. entry_at (four slots) n ≡ Some (Nexthop n)) (sym e) refl
  | inr a ↦ let e : i ≡ 2 = omega (arith, is.0, is.1) in subst (λ n. entry_at (four slots) n ≡ Some (Nexthop n)) (sym e) refl
]

have : (slots : List ℕ) → All (λ i. (1 ≤ i) × (i ≤ 2)) slots → All (HasNexthops (four slots)) (four slots)
unfolding four
have slots all =
    let P = HasNexthops (four slots) in
    let group = All-cons P (Group 4 slots) [] (λ k d low. leads slots (get_or slots k d) (all k d low)) (All-nil P) in
    All-cons P (Nexthop 1) (Nexthop 2 ∷ Nexthop 3 ∷ Group 4 slots ∷ []) tt
    (All-cons P (Nexthop 2) (Nexthop 3 ∷ Group 4 slots ∷ []) tt (All-cons P (Nexthop 3) (Group 4 slots ∷ []) tt group))
