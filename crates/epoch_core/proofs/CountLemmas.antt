-- Once all readers' seats are taken in, their hits are those that are booked and those that the index words hold.
use Rattle.std.proofs.Common.{◌≡◌, ◌≢◌, ℕ, zero, suc, ◌+◌, ◌/◌, ◌%◌, ◌<◌, ◌≤◌, Bool, true, false, true≢false, eqb, ◌||◌, if◌then◌else◌, List, [], ◌∷◌, map, length, get_or, refl, sym, ap, ◌∙◌, subst, arith, eq-eqb, ne_eqb}
use Rattle.std.proofs.lemmas.Bool.Decides.{nat_tests}
use mathlib.Core.Option.{some}
use lib.ListN.{get_elem?}
use Rattle.atomic_table.specs.Table.{State}
use Rattle.std.specs.Prelude.{Option}
use Rattle.epoch_core.specs.declared.view.ControlOwn.{ControlOwn}
use Rattle.epoch_core.specs.declared.view.Own.{Own}
use Rattle.epoch_core.specs.declared.view.Role.TheVariants.{Control}
use Rattle.epoch_core.specs.declared.view.View.{View}
use Rattle.epoch_core.specs.World.{World, Word, word_value}
use Rattle.epoch_core.specs.Counts.{hits_of, counts_of, tallied_of, from_greatest}
use Rattle.epoch_core.specs.Rule.{Ended, Owners, EndedFit, AreOnce, TallyFits, is_among, booked_of, EpochRule, index_word}
use Rattle.epoch_core.specs.Sums.{total, times, counted}
use Rattle.epoch_core.proofs.EndedLemmas.{all_at_once}
use Rattle.epoch_core.proofs.ReaderSteps.{fits_at}
use Rattle.epoch_core.proofs.WordLemmas.{total_same, total_but}
use Rattle.epoch_core.proofs.WordSteps.{word_parts}
use Rattle.epoch_core.proofs.WorldLemmas.{count_is_small}

-- the hits of the readers of the list, as a sum over all numbers
abbrev hits_among : World → ℕ → List Ended → ℕ → ℕ
hits_among w p ps r = if is_among r ps then times p (w.reader_at r).own.hits else 0

ended_hits : (w : World) (owners : Owners) (p n : ℕ) (ps : List Ended) → EndedFit w owners ps → AreOnce n ps → hits_of p ps ≡ total (hits_among w p ps) n
ended_hits w owners p n [] k a = sym (none n)
  where
    none : (n : ℕ) → total (λ r. 0) n ≡ 0
    none zero = refl
    none (suc n) = let z = none n in omega arith
ended_hits w owners p n (c ∷ cs) k a =
    let f = hits_among w p (c ∷ cs) in
    let g = hits_among w p cs in
    let rest = ended_hits w owners p n cs k.3 a.2 in
    let but = total_but f g c.0 n a.0 (λ j d. others j (eqb c.0 j) (ne_eqb c.0 j (λ e. d (sym e)))) in
    let before : g c.0 ≡ 0 = rw (a.1) refl in
    let now : f c.0 ≡ times p c.1.hits = rw (eq-eqb c.0 c.0 refl) (ap (λ (o : Own). times p o.hits) k.1) in
    omega arith
  where
    others : (j : ℕ) (t : Bool) → t ≡ false → (if t || is_among j cs then times p (w.reader_at j).own.hits else 0) ≡ (if is_among j cs then times p (w.reader_at j).own.hits else 0)
    others j true e = cc
    others j false e = refl

-- what a word counts, read off its value
counted_is : (p : ℕ) (x : Word) (n : ℕ) → n ≡ word_value x → x.count < 4294967296 → counted p x ≡ counts_of p n
counted_is p x n e l = let parts = word_parts n x.number x.count e l in λ i. if eqb (sym parts.0 i) p then sym parts.1 i else 0

module _ {Q C : Type 0} (K G : ℕ) (two : 2 ≤ K) (lawful : Q → ℕ → C → Type 0) (names : Q → ℕ → List (ℕ × ℕ)) (key : Q) where
  -- the sums, in any state in which the control has taken in as many seats as there are readers
  pub all_counted : (s : State (Option C) (View Q)) (h : EpochRule K G lawful names key s) (id : ℕ) (v : View Q) (d : ControlOwn)
      → get_elem? s.views id ≡ some v → v.role ≡ Control d → d.readers ≤ length d.ended
      → (p : ℕ) → hits_of p d.ended ≡ booked_of p d.booked + total (λ i. counts_of p (get_or s.words (index_word i) 0)) (G + 1)
  all_counted s h id v d at is many p =
      let x = h.world in
      let k = (fits_at K G two lawful names key s h id v (Control d) is at).1 in
      let count : d.readers ≡ x.readers = k.readers_are in
      let ended = ended_hits x h.owners p x.readers d.ended k.ended_fit k.once in
      let whole = total_same (hits_among x p d.ended) (λ r. times p (x.reader_at r).own.hits) x.readers
      (λ r l. let m = all_at_once x.readers d.ended k.once (omega arith) r l in rw m refl) in
      let words = total_same (λ i. counted p (x.word_at i)) (λ i. counts_of p (get_or s.words (index_word i) 0)) (G + 1)
      (λ i l. let small = count_is_small K G x h.sound h.few i (omega arith) in counted_is p (x.word_at i) (get_or s.words (index_word i) 0) (h.word_is i (omega arith)) (omega arith)) in
      let sums = h.sound.index_words.sums p in
      let books = k.booked_are p in
      omega arith

  -- what is tallied of the indexes below n, the greatest first, is what their words hold
  tallied_whole : (s : State (Option C) (View Q)) (h : EpochRule K G lawful names key s) (p readers ended : ℕ) (cs : List (ℕ × ℕ)) (n : ℕ) → n ≤ G + 1 → map (λ c. c.0) cs ≡ from_greatest n → TallyFits h.world.word_at readers ended cs
      → tallied_of p cs ≡ total (λ i. counts_of p (get_or s.words (index_word i) 0)) n
  tallied_whole s h p readers ended [] zero l e t = refl
  tallied_whole s h p readers ended [] (suc n) l e t = let f : 0 ≡ suc (length (from_greatest n)) = ap (λ (xs : List ℕ). length xs) e in absurd (omega arith)
  tallied_whole s h p readers ended (c ∷ cs) zero l e t = let f : suc (length (map (λ (c : ℕ × ℕ). c.0) cs)) ≡ 0 = ap (λ (xs : List ℕ). length xs) e in absurd (omega arith)
  tallied_whole s h p readers ended (c ∷ cs) (suc n) l e t =
      let first : c.0 ≡ n = ap (λ (xs : List ℕ). head_or n xs) e in
      let others : map (λ c. c.0) cs ≡ from_greatest n = ap (λ (xs : List ℕ). tail_of xs) e in
      let rest = tallied_whole s h p readers ended cs n (omega arith) others t.2 in
      let here : c.1 ≡ get_or s.words (index_word n) 0 = sym t.1 ∙ (sym (h.word_is c.0 (omega arith)) ∙ ap (λ (i : ℕ). get_or s.words (index_word i) 0) first) in
      λ i. counts_of p (here i) + rest i
    where
      head_or : ℕ → List ℕ → ℕ
      head_or d [] = d
      head_or d (x ∷ xs) = x

      tail_of : List ℕ → List ℕ
      tail_of [] = []
      tail_of (x ∷ xs) = xs

  -- and where all index words are tallied, the hits are those that are booked and tallied
  pub all_tallied : (s : State (Option C) (View Q)) (h : EpochRule K G lawful names key s) (id : ℕ) (v : View Q) (d : ControlOwn)
      → get_elem? s.views id ≡ some v → v.role ≡ Control d → d.readers ≤ length d.ended → map (λ c. c.0) d.tallied ≡ from_greatest (G + 1)
      → (p : ℕ) → hits_of p d.ended ≡ booked_of p d.booked + tallied_of p d.tallied
  all_tallied s h id v d at is many whole p =
      let k = (fits_at K G two lawful names key s h id v (Control d) is at).1 in
      let same = tallied_whole s h p d.readers (length d.ended) d.tallied (G + 1) (omega arith) whole k.tally_fits in
      all_counted s h id v d at is many p ∙ ap (λ (n : ℕ). booked_of p d.booked + n) (sym same)
