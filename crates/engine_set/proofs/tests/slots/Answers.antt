use Rattle.std.proofs.Common.{◌≡◌, ◌∙◌, ◌≤◌, ◌<◌, ◌%◌, ◌∷◌, [], List, ℕ, Some, ap, arith, length, sym, get_or, inl, inr, lit<}
use Rattle.std.specs.Prelude.{slice_get}
use Rattle.std.proofs.Math.Nat.{mod-eq_of_lt}
use Rattle.std.proofs.lemmas.Bool.{cases_eq}
use Rattle.std.proofs.lemmas.Option.{same_Some, slice_get-get_or}
use Rattle.nhgrp_slots.specs.Spread.{Spread}
use Rattle.nhgrp_slots.proofs.PathLemmas.{joins}
use Rattle.engine_set.proofs.tests.slots.Goals as goal

pub with-requires : goal.with-requires
with-requires c =
    let alone = ap (λ (s : Spread). length s.paths) c.in_ok-one.ensures in
    (lit< tt, (lit< tt, joins _ _ c.len-len.ensures.spread.list (sym c.clashes.ensures ∙ c.if-clashes.false) (omega (arith, alone))))

-- a slot holds one of the two indexes
one_of_two : (slots : List ℕ) (k d i : ℕ) → k < length slots → i < 2 → slice_get (1 ∷ 2 ∷ []) i ≡ slice_get slots (k % length slots) → (1 ≤ get_or slots k d) × (get_or slots k d ≤ 2)
one_of_two slots k d i low two h =
    let is : slice_get (1 ∷ 2 ∷ []) i ≡ Some (get_or slots k d) = h ∙ ap (slice_get slots) (mod-eq_of_lt low) ∙ slice_get-get_or slots k d low in
    elim (cases_eq i 0) [
      | inl first ↦ let e = same_Some 1 _ (sym (ap (slice_get (1 ∷ 2 ∷ [])) first) ∙ is) in (omega (arith, e), omega (arith, e))
      | inr other ↦
          let second : i ≡ 1 = omega arith in
          let e = same_Some 2 _ (sym (ap (slice_get (1 ∷ 2 ∷ [])) second) ∙ is) in (omega (arith, e), omega (arith, e))
    ]

pub returns : goal.returns
returns c = λ k d low.
    let h = c.in_ok-compile.ensures.picked k in
    one_of_two _ k d h.0 low (omega (arith, h.1, c.len.ensures.count)) h.3
