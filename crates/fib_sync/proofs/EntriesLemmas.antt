-- Entries made of indexes with their targets, and the slots of groups.
use Rattle.std.proofs.Common.{◌≡◌, ◌==◌, ◌<◌, ◌≤◌, ℕ, zero, suc, ◌+◌, Ok, Err, ◌⊎◌, true, false, List, [], ◌∷◌, ◌++◌, Option, Some, None, length, map, take, refl, sym, ap, ◌∙◌, subst, arith, inl, inr, add-one}
use Rattle.std.specs.Prelude.{All, slice_get, option_map, IfOk, Result}
use Rattle.std.specs.BTreeMap.{is_at}
use Rattle.std.specs.Cmp.{unsigned_tied}
use Rattle.std.specs.List.{AllZip}
use Rattle.std.specs.List.Sorted.{IsStrictlySortedBy}
use Rattle.std.specs.Map.{keys_of}
use Rattle.std.specs.Ordering.{nat_cmp}
use Rattle.std.proofs.Math.Seq.{take-length}
use Rattle.std.proofs.lemmas.Bool.{cases_eq}
use Rattle.std.proofs.lemmas.Bool.Decides.{nat_tests}
use Rattle.std.proofs.lemmas.Cmp.{eq_by_cmp_equiv, nat_cmp_total}
use Rattle.std.proofs.lemmas.List.{length-map}
use Rattle.std.proofs.lemmas.List.Elements.{All-more, All-same}
use Rattle.std.proofs.lemmas.Map.Entries.{lookup_from_place}
use Rattle.std.proofs.lemmas.Map.Keys.{IsDistinct-from_sorted}
use Rattle.std.proofs.lemmas.Option.{none-some, same_Some, slice_get-map, slice_get_within, get_or_from_slice_get}
use Rattle.prefix_width.specs.Nexthop.{Hop}
use Rattle.prefix_width.specs.Path.{WeightedHop}
use Rattle.nhgrp_slots.specs.declared.target.Target.{Target}
use Rattle.nhgrp_slots.specs.declared.target.Target.TheVariants.{One, Many}
use Rattle.nhgrp_slots.specs.PathList as list
use Rattle.nhgrp_slots.specs.PathList.{PathList}
use Rattle.nhgrp_slots.specs.Slots.{weights}
use Rattle.nhgrp_slots.specs.Spread.{Spread, IsSpread, hops, pick}
use Rattle.nhgrp_slots.proofs.SpreadLemmas.{slots_hold_picked}
use Rattle.engine_set.specs.declared.entry.Entry.{Entry}
use Rattle.engine_set.specs.declared.entry.Entry.TheVariants.{Group}
use Rattle.engine_set.specs.Entry.{entry_at, entry_index}
use Rattle.fib_sync.specs.Entries.{AreMade, AreNamed, KeepIndexes, names_in}
use Rattle.fib_sync.specs.Lawful.{Names, AreEntriesOf, AreSlots, IsEntryOf, IsSent}

push_cases : (v : List ℕ) (i k j : ℕ) → slice_get (v ++ i ∷ []) k ≡ Some j → (slice_get v k ≡ Some j) ⊎ ((k ≡ length v) × (i ≡ j))
push_cases [] i zero j h = inr (refl, same_Some i j h)
push_cases [] i (suc k) j h = absurd (none-some j h)
push_cases (x ∷ v) i zero j h = inl h
push_cases (x ∷ v) i (suc k) j h = elim (push_cases v i k j h) [ inl a ↦ inl a | inr b ↦ inr ((let e = b.0 in omega arith), b.1) ]

-- the nexthop of the path at a place
hop_at : (ps : PathList) (k : ℕ) (p : WeightedHop) → slice_get ps k ≡ Some p → slice_get (list.hops ps) k ≡ Some p.nexthop
hop_at ps k p h = slice_get-map (λ q. q.nexthop) ps k ∙ ap (option_map (λ q. q.nexthop)) h

-- the nexthop that is picked is one of the paths'
hop_picked : (s : Spread) (flow : ℕ) (h : Hop) → IsSpread s → pick s flow ≡ Some h → (k : ℕ) × (slice_get (hops s) k ≡ Some h)
hop_picked s flow h is picked =
    let held = slots_hold_picked s (weights s.paths) is (length-map s.paths (λ p. p.weight)) flow in
    (held.0, held.2 ∙ picked)

module _ {W : ℕ} (names : Names W) where
  -- a nexthop that has an index is found
  pub is_found : (ps : PathList) (qs : Spread) (k : ℕ) (p : WeightedHop) (h : Hop) → AreNamed names qs → ps ≡ qs.paths → slice_get ps k ≡ Some p → h ≡ p.nexthop → ((i : ℕ) → names i ≡ Some (One h) → ⊥) → ⊥
  is_found ps qs k p h named same at is none =
      let n = named k p.nexthop (subst (λ rs. slice_get (list.hops rs) k ≡ Some p.nexthop) same (hop_at ps k p at)) in
      none n.0 (subst (λ (g : Hop). names n.0 ≡ Some (One g)) (sym is) n.1)

  -- one path more
  pub path_more : (ps : PathList) (v : List ℕ) (i n : ℕ) (p : WeightedHop) (g : Hop) → length v ≡ n → slice_get ps n ≡ Some p → g ≡ p.nexthop → names i ≡ Some (One g)
      → ((k j : ℕ) (h : Hop) → slice_get v k ≡ Some j → slice_get (list.hops ps) k ≡ Some h → names j ≡ Some (One h))
      → (k j : ℕ) (h : Hop) → slice_get (v ++ i ∷ []) k ≡ Some j → slice_get (list.hops ps) k ≡ Some h → names j ≡ Some (One h)
  path_more ps v i n p g len at is name before k j h hv hh = elim (push_cases v i k j hv) [
    | inl a ↦ before k j h a hh
    | inr b ↦
        let here : k ≡ n = b.0 ∙ len in
        let same : p.nexthop ≡ h = same_Some p.nexthop h (sym (hop_at ps n p at) ∙ ap (slice_get (list.hops ps)) (sym here) ∙ hh) in
        subst (λ m. names m ≡ Some (One h)) b.1 (subst (λ (x : Hop). names i ≡ Some (One x)) (is ∙ same) name)
  ]

  -- slots of before are those of a group that stays
  pub slots_kept : (before : Names W) (ps : Spread) (slots : List ℕ) → IsSpread ps → AreNamed names ps → KeepIndexes before names → AreSlots before ps slots → AreSlots names ps slots
  slots_kept before ps slots is named keep are = record {
    size = are.size;
    each = λ x low. go x (slice_get slots x) (pick ps x) refl (are.each x low);
  }
    where
      go : (x : ℕ) (slot : Option ℕ) (hop : Option Hop) → pick ps x ≡ hop → IsSent before slot hop → IsSent names slot hop
      go x None None at sent = tt
      go x None (Some h) at sent = absurd sent
      go x (Some i) None at sent = absurd sent
      go x (Some i) (Some h) at sent =
          let k = hop_picked ps x h is at in
          let n = named k.0 h k.1 in
          subst (λ j. names j ≡ Some (One h)) (sym (keep i n.0 (One h) sent n.1)) n.1

-- the slots of a group's entry
pub slots_before : {W : ℕ} (before : Names W) (entries : List Entry) (i j : ℕ) (ps : Spread) (slots : List ℕ) → AreEntriesOf before entries → before i ≡ Some (Many ps) → entry_at entries i ≡ Some (Group j slots) → AreSlots before ps slots
slots_before before entries i j ps slots are name at =
    let e : (own : List ℕ) × (entry_at entries i ≡ Some (Group i own)) × AreSlots before ps own = subst (λ t. IsEntryOf before i t (entry_at entries i)) name (are i) in
    let same : Group i e.0 ≡ Group j slots = same_Some _ _ (sym e.1 ∙ at) in
    let own : e.0 ≡ slots = cc in
    subst (AreSlots before ps) own e.2

-- one element more on both sides
push_both : {A B : Type 0} (R : A → B → Type 0) (xs : List A) (ys : List B) (x : A) (y : B) → AllZip R xs ys → R x y → AllZip R (xs ++ x ∷ []) (ys ++ y ∷ [])
push_both R [] [] x y all r = (r, tt)
push_both R [] (b ∷ ys) x y all r = absurd all
push_both R (a ∷ xs) [] x y all r = absurd all
push_both R (a ∷ xs) (b ∷ ys) x y all r = (all.0, push_both R xs ys x y all.1 r)

pub take_at : {X : Type 0} (xs : List X) (k : ℕ) (x : X) → slice_get xs k ≡ Some x → take (suc k) xs ≡ take k xs ++ x ∷ []
take_at [] k x h = absurd (none-some x h)
take_at (y ∷ xs) zero x h = let same = same_Some y x h in rw same refl
take_at (y ∷ xs) (suc k) x h = ap (λ l. y ∷ l) (take_at xs k x h)

pub take_all : {X : Type 0} (xs : List X) (n : ℕ) → length xs ≤ n → take n xs ≡ xs
take_all [] zero h = refl
take_all [] (suc n) h = refl
take_all (x ∷ xs) zero h = absurd (omega arith)
take_all (x ∷ xs) (suc n) h = ap (λ l. x ∷ l) (take_all xs n (omega arith))

-- lists with the same elements at all places are one
pub same_list : {X : Type 0} (xs ys : List X) → length xs ≡ length ys → ((k : ℕ) → k < length xs → slice_get xs k ≡ slice_get ys k) → xs ≡ ys
same_list [] [] len each = refl
same_list [] (y ∷ ys) len each = absurd (omega arith)
same_list (x ∷ xs) [] len each = absurd (omega arith)
same_list (x ∷ xs) (y ∷ ys) len each =
    let first : x ≡ y = same_Some x y (each 0 (omega arith)) in
    let rest : xs ≡ ys = same_list xs ys (omega arith) (λ k h. each (suc k) (omega arith)) in
    ap (λ z. z ∷ xs) first ∙ ap (λ l. y ∷ l) rest

-- what an answer is known to be, and what follows of that
pub if_ok : {T E : Type 0} (P Q : T → Type 0) (r : Result T E) → ((x : T) → P x → Q x) → IfOk r P → IfOk r Q
if_ok P Q (Ok x) f h = f x h
if_ok P Q (Err e) f h = tt

module _ {W : ℕ} where
  -- the target of an index of the list
  pub named_at : (indexes : List (ℕ × Target W)) (k i : ℕ) (t : Target W) → IsStrictlySortedBy nat_cmp (keys_of indexes) → slice_get indexes k ≡ Some (i, t) → names_in indexes i ≡ Some t
  named_at indexes k i t sorted at = lookup_from_place (eq_by_cmp_equiv nat_cmp_total) indexes k i t (IsDistinct-from_sorted nat_cmp (keys_of indexes) sorted) at

  -- one entry more
  pub made_more : (names : Names W) (indexes : List (ℕ × Target W)) (entries : List Entry) (k i : ℕ) (t : Target W) (e : Entry) → slice_get indexes k ≡ Some (i, t) → entry_index e ≡ i → IsEntryOf names i (Some t) (Some e) → AreMade names (take k indexes) entries → AreMade names (take (k + 1) indexes) (entries ++ e ∷ [])
  made_more names indexes entries k i t e at index is made =
      let R : ℕ × Target W → Entry → Type 0 = λ e entry. (entry_index entry ≡ e.0) × IsEntryOf names e.0 (Some e.1) (Some entry) in
      let next : take (k + 1) indexes ≡ take k indexes ++ (i, t) ∷ [] = rw add-one (take_at indexes k (i, t) at) in
      subst (λ l. AreMade names l (entries ++ e ∷ [])) (sym next) (push_both R (take k indexes) entries (i, t) e made (index, is))

  -- the indexes of the entries
  pub made_indexes : (names : Names W) (indexes : List (ℕ × Target W)) (entries : List Entry) → AreMade names indexes entries → map entry_index entries ≡ keys_of indexes
  made_indexes names [] [] made = refl
  made_indexes names [] (e ∷ es) made = absurd made
  made_indexes names (x ∷ xs) [] made = absurd made
  made_indexes names (x ∷ xs) (e ∷ es) made = let rest = made_indexes names xs es made.1 in let first = made.0.0 in cc

  -- the entries that are made are those of the indexes
  pub made_entries : (names : Names W) (indexes : List (ℕ × Target W)) (entries : List Entry) → AreMade names indexes entries → (i : ℕ) → IsEntryOf names i (names_in indexes i) (entry_at entries i)
  made_entries names [] [] made i = refl
  made_entries names [] (e ∷ es) made i = absurd made
  made_entries names (x ∷ xs) [] made i = absurd made
  made_entries names (x ∷ xs) (e ∷ es) made i =
      let rest = made_entries names xs es made.1 i in
      let index = made.0.0 in
      elim (cases_eq i x.0) [
        | inl here ↦
            let key : is_at (nat_cmp i) x.0 ≡ true = unsigned_tied i x.0 ∙ grind (arith, nat_tests) in
            let own : (entry_index e == i) ≡ true = grind (arith, nat_tests) in
            rw (key, own) (subst (λ n. IsEntryOf names n (Some x.1) (Some e)) (sym here) made.0.1)
        | inr other ↦
            let key : is_at (nat_cmp i) x.0 ≡ false = unsigned_tied i x.0 ∙ grind (arith, nat_tests) in
            let own : (entry_index e == i) ≡ false = grind (arith, nat_tests) in
            rw (key, own) rest
      ]
