-- What is lawful can be made: the condition on an image's parts.
use Rattle.std.proofs.Common.{◌≡◌, ℕ, List, [], ◌∷◌, Option, Some, None, length, map, refl, sym, ◌∙◌, subst, arith, get_or}
use Rattle.std.specs.Prelude.{All, IsSome}
use Rattle.std.specs.List.Sorted.{IsStrictlyIncreasing}
use Rattle.std.specs.Map.{values_of}
use Rattle.std.proofs.lemmas.List.Elements.{All-nil, All-cons}
use Rattle.std.proofs.lemmas.Option.{none-some, same_Some, slice_get-get_or}
use Rattle.prefix_width.specs.Prefix.{Block}
use Rattle.prefix_width.specs.Nexthop.{Hop}
use Rattle.nhgrp_slots.specs.declared.target.Target.{Target}
use Rattle.nhgrp_slots.specs.declared.target.Target.TheVariants.{One, Many}
use Rattle.nhgrp_slots.specs.Spread.{pick}
use Rattle.nhgrp_slots.specs.Target.{target_of}
use Rattle.rib_store.specs.Table.{Table}
use Rattle.engine_set.specs.declared.engine.Engine.{Engine}
use Rattle.engine_set.specs.declared.entry.Entry.{Entry}
use Rattle.engine_set.specs.declared.entry.Entry.TheVariants.{Nexthop, Group}
use Rattle.engine_set.specs.Engine.{Stands}
use Rattle.engine_set.specs.Entry.{entry_at, entry_index, HasNexthops}
use Rattle.engine_set.specs.Image.{IsPicture}
use Rattle.engine_set.proofs.EntryLemmas.{entry_by_index}
use Rattle.fib_sync.specs.Lawful.{Names, IsSent, AreEntriesOf, AreIndexed, IsEntryOf}

module _ {W : ℕ} (names : Names W) (entries : List Entry) (is : AreEntriesOf names entries) where
  has_entry : (i : ℕ) (t : Target W) → names i ≡ Some t → IsSome (entry_at entries i)
  has_entry i t name = go t (subst (λ o. IsEntryOf names i o (entry_at entries i)) name (is i))
    where
      go : (t : Target W) → IsEntryOf names i (Some t) (entry_at entries i) → IsSome (entry_at entries i)
      go (One h) e = rw e refl
      go (Many paths) e = rw e.1 refl

  are_named : (table : Table) (rows : List (Block × ℕ)) → AreIndexed names table rows → All (λ i. IsSome (entry_at entries i)) (values_of rows)
  are_named [] [] h = All-nil (λ i. IsSome (entry_at entries i))
  are_named [] (r ∷ rows) h = absurd h
  are_named (row ∷ table) [] h = absurd h
  are_named (row ∷ table) (r ∷ rows) h =
      All-cons (λ i. IsSome (entry_at entries i)) r.1 (values_of rows) (has_entry r.1 (target_of row.1) h.0.1) (are_named table rows h.1)

  length_indexed : (table : Table) (rows : List (Block × ℕ)) → AreIndexed names table rows → length rows ≡ length table
  length_indexed [] [] h = refl
  length_indexed [] (r ∷ rows) h = absurd h
  length_indexed (row ∷ table) [] h = absurd h
  length_indexed (row ∷ table) (r ∷ rows) h = let n = length_indexed table rows h.1 in omega arith

  -- a slot's index is a nexthop's
  slot_named : (j : ℕ) (o : Option Hop) → IsSent names (Some j) o → entry_at entries j ≡ Some (Nexthop j)
  slot_named j None h = absurd h
  slot_named j (Some hop) h = subst (λ o. IsEntryOf names j o (entry_at entries j)) h (is j)

  has_nexthops : (e : Entry) → entry_at entries (entry_index e) ≡ Some e → HasNexthops entries e
  has_nexthops e at = go (names (entry_index e)) (subst (IsEntryOf names (entry_index e) (names (entry_index e))) at (is (entry_index e)))
    where
      go : (o : Option (Target W)) → IsEntryOf names (entry_index e) o (Some e) → HasNexthops entries e
      go None h = absurd (none-some e (sym h))
      go (Some (One hop)) h = subst (HasNexthops entries) (sym (same_Some e (Nexthop (entry_index e)) h)) tt
      go (Some (Many paths)) h =
          let slots = h.0 in
          let each : All (λ j. entry_at entries j ≡ Some (Nexthop j)) slots = λ x d low.
          slot_named (get_or slots x d) (pick paths x) (subst (λ s. IsSent names s (pick paths x)) (slice_get-get_or slots x d low) (h.2.each x low)) in
          subst (HasNexthops entries) (sym (same_Some e (Group (entry_index e) slots) h.1)) each

  -- the parts of a lawful image are those of an image
  pub picture_of : (table : Table) (engine : Engine W) (routes : ℕ) (rows : List (Block × ℕ)) → IsStrictlyIncreasing (map entry_index entries) → AreIndexed names table rows → Stands engine rows → routes ≡ length table → IsPicture engine routes entries
  picture_of table engine routes rows up indexed stands many = record {
    there = record {
      rows = rows;
      stands = stands;
      many = length_indexed table rows indexed ∙ sym many;
      named = are_named table rows indexed;
    };
    slots = λ k d low.
        let at = slice_get-get_or entries k d low in
        has_nexthops (get_or entries k d) (entry_by_index entries k (get_or entries k d) up at);
  }
