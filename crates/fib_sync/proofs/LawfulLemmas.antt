-- A lawful image answers as the scan of the version's whole table does.
use Rattle.std.proofs.Common.{◌≡◌, ℕ, zero, suc, ◌%◌, ◌<◌, List, [], ◌∷◌, Option, Some, None, length, get_or, refl, sym, ap, ◌∙◌, subst, arith}
use Rattle.std.specs.Prelude.{All, slice_get, slice_index_or, option_and_then}
use Rattle.std.specs.List.{AllZip}
use Rattle.std.specs.Map.{values_of}
use Rattle.std.proofs.Math.Nat.{mod-lt, mod-eq_of_lt}
use Rattle.std.proofs.lemmas.List.{length-map}
use Rattle.std.proofs.lemmas.List.Elements.{All-head, All-tail}
use Rattle.prefix_width.specs.Prefix.{Block}
use Rattle.prefix_width.specs.Path.{WeightedHop}
use Rattle.prefix_width.specs.Longest.{longest}
use Rattle.module_trait.specs.Rows.{index_of}
use Rattle.nhgrp_slots.specs.Layout.{nexthop_in}
use Rattle.nhgrp_slots.specs.PathList as list
use Rattle.nhgrp_slots.specs.PathList.{PathList}
use Rattle.nhgrp_slots.specs.Spread.{Spread, IsSpread, compiled, hops, pick}
use Rattle.nhgrp_slots.specs.Target.{target_in, target_of}
use Rattle.nhgrp_slots.proofs.SpreadLemmas.{pick_is, slot_path, slots_hold_picked}
use Rattle.rib_store.specs.Table.{Table}
use Rattle.plan_cut.specs.VersionTable.{commands_at, table_at}
use Rattle.rib_store.specs.Answer.{answer}
use Rattle.engine_set.specs.declared.entry.Entry.{Entry}
use Rattle.engine_set.specs.declared.entry.Entry.TheVariants.{Nexthop, Group}
use Rattle.engine_set.specs.Entry.{entry_at, resolved, through}
use Rattle.fib_sync.specs.Lawful.{Names, IsSent, AreIndexed, AreSlots, AreEntriesOf, IsEntryOf}
use Rattle.fib_sync.specs.Laws.{CompiledSlotsAreLawful, LawfulImagesAnswer}
use Rattle.fib_sync.proofs.MatchedLemmas.{AreBoth, both_longest}
use Rattle.rib_store.proofs.RowLemmas.{tables_are_spread}

-- a flow has the nexthop of its slot
pick_mod : (s : Spread) (flow : ℕ) → IsSpread s → pick s (flow % length s.layout) ≡ pick s flow
pick_mod s flow is =
    let low : flow % length s.layout < length s.layout = mod-lt flow is.layout.some in
    ap (nexthop_in s.paths s.layout) (mod-eq_of_lt low)

-- a lone path has every flow
pick_one : (s : Spread) (p : WeightedHop) (flow : ℕ) → p ∷ [] ≡ s.paths → IsSpread s → pick s flow ≡ Some p.nexthop
pick_one s p flow one is =
    let low = slot_path s (flow % length s.layout) is.layout (mod-lt flow is.layout.some) in
    let number : length s.paths ≡ 1 = ap length (sym one) in
    let first : get_or s.layout (flow % length s.layout) 0 ≡ 0 = omega arith in
    pick_is s flow is.layout ∙ ap (slice_get (hops s)) first ∙ ap (λ (ps : PathList). slice_get (list.hops ps) 0) (sym one)

at_within : {X : Type 0} (xs : List X) (i : ℕ) → i < length xs → (x : X) × (slice_get xs i ≡ Some x)
at_within [] i h = absurd (omega arith)
at_within (x ∷ xs) zero h = (x, refl)
at_within (x ∷ xs) (suc i) h = at_within xs i (omega arith)

module _ {W : ℕ} (names : Names W) where
  -- the entry of a target's index leads to the nexthop that is picked for the target
  sent_by : (i flow : ℕ) (s : Spread) (entry : Option Entry) → IsSpread s → names i ≡ Some (target_of s) → IsEntryOf names i (names i) entry → IsSent names (option_and_then (through flow) entry) (pick s flow)
  sent_by i flow s entry spread name is = go s.paths refl name
    where
      go : (ps : PathList) → ps ≡ s.paths → names i ≡ Some (target_in s ps) → IsSent names (option_and_then (through flow) entry) (pick s flow)
      go [] e name = let none : 0 ≡ length s.paths = ap length e in absurd (omega (arith, spread.list.some))
      go (p ∷ []) e name =
          let here : entry ≡ Some (Nexthop i) = subst (λ t. IsEntryOf names i t entry) name is in
          let one = pick_one s p flow e spread in
          rw (here, one) name
      go (p ∷ q ∷ ps) e name =
          let group : (slots : List ℕ) × (entry ≡ Some (Group i slots)) × AreSlots names s slots = subst (λ t. IsEntryOf names i t entry) name is in
          let slots = group.0 in
          let size : length slots ≡ length s.layout = group.2.size in
          let some : 0 < length slots = subst (λ n. 0 < n) (sym size) spread.layout.some in
          let slot : ℕ = flow % length slots in
          let there = group.2.each slot (mod-lt flow some) in
          let picked : pick s slot ≡ pick s flow = ap (λ n. pick s (flow % n)) size ∙ pick_mod s flow spread in
          rw group.1 (subst (λ o. IsSent names (slice_get slots slot) o) picked there)

  -- a row of the table and its row with an index
  IsRow : Block × Spread → Block × ℕ → Type 0
  IsRow row r = (r.0 ≡ row.0) × (names r.1 ≡ Some (target_of row.1)) × IsSpread row.1

  are_rows : (table : Table) (rows : List (Block × ℕ)) → AreIndexed names table rows → All IsSpread (values_of table) → AllZip IsRow table rows
  unfolding IsRow
  are_rows [] [] h have = tt
  are_rows [] (r ∷ rows) h have = absurd h
  are_rows (row ∷ table) [] h have = absurd h
  are_rows (row ∷ table) (r ∷ rows) h have =
      ((h.0.0, h.0.1, All-head IsSpread row.1 (values_of table) have), are_rows table rows h.1 (All-tail IsSpread row.1 (values_of table) have))

  same_prefix : (row : Block × Spread) (r : Block × ℕ) → IsRow row r → r.0 ≡ row.0
  unfolding IsRow
  same_prefix row r h = h.0

  -- the index of the longest row is sent to what the scan of the table gives
  pub sent_as_answered : (table : Table) (rows : List (Block × ℕ)) (entries : List Entry) (a flow : ℕ) → AreIndexed names table rows → All IsSpread (values_of table) → AreEntriesOf names entries → IsSent names (resolved entries flow (index_of (longest W rows a))) (answer W table a flow)
  unfolding IsRow
  sent_as_answered table rows entries a flow indexed have is =
      go (longest W table a) (longest W rows a) (both_longest IsRow same_prefix W table rows a (are_rows table rows indexed have))
    where
      go : (o : Option (Block × Spread)) (x : Option (Block × ℕ)) → AreBoth IsRow o x → IsSent names (resolved entries flow (index_of x)) (option_and_then (λ row. pick row.1 flow) o)
      go None None h = tt
      go None (Some r) h = absurd h
      go (Some row) None h = absurd h
      go (Some row) (Some r) h = sent_by r.1 flow row.1 (entry_at entries r.1) h.2 h.1 (is r.1)

pub lawful_images_answer : (W : ℕ) → LawfulImagesAnswer W
lawful_images_answer W live plan names v image weighted lawful = (
  lawful.engine.rows,
  lawful.engine.stands,
  λ addr flow.
      let have = tables_are_spread W live plan (commands_at live plan v) weighted in
      sent_as_answered names (table_at live plan v) lawful.engine.rows image.entries addr flow lawful.engine.indexed have lawful.entries,
)

pub compiled_slots_are_lawful : (W : ℕ) → CompiledSlotsAreLawful W
compiled_slots_are_lawful W names s indexes is same named =
    let slots : List ℕ = compiled s indexes in record {
      size = length-map s.layout (λ i. slice_index_or indexes i 0);
      each = λ x low.
          let h = slots_hold_picked s indexes is same x in
          let k : length (hops s) ≡ length s.paths = length-map s.paths (λ p. p.nexthop) in
          let hop = at_within (hops s) h.0 (omega (arith, h.1)) in
          let index = at_within indexes h.0 (omega (arith, h.1)) in
          let here : slice_get slots x ≡ Some index.0 = ap (slice_get slots) (sym (mod-eq_of_lt low)) ∙ sym h.3 ∙ index.1 in
          let there : pick s x ≡ Some hop.0 = sym h.2 ∙ hop.1 in
          rw (here, there) (named h.0 index.0 hop.0 index.1 hop.1);
    }
