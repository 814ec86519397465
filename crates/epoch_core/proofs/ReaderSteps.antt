-- Each step of a reader's seat keeps the rule of the table, and takes the shown world where its event takes it.
use Rattle.std.proofs.Common.{◌≡◌, ◌≢◌, ℕ, ◌+◌, ◌%◌, ◌<◌, ◌≤◌, true, false, true≢false, List, [], ◌∷◌, ◌++◌, length, get_or, set, Option, Some, None, refl, sym, ap, ◌∙◌, subst, ⊎_elim, arith, nat_lt, length-set, get_or-set_other, get_or-set_same}
use mathlib.Core.Option.{none, some}
use mathlib.Core.Option as maybe
use lib.ListN.{get_elem?}
use lib.Seq.{set-get_or}
use Rattle.std.proofs.Math.Nat.{mod-lt}
use Rattle.std.proofs.lemmas.Bool.Decides.{nat_tests}
use Rattle.atomic_table.specs.Table.{State, keeps, takes, gives, stepped, rest, Allows}
use Rattle.atomic_table.proofs.Lists.{at_set, set_here, set_else, one_turn}
use Rattle.epoch_core.specs.declared.event.Event.{Event}
use Rattle.epoch_core.specs.declared.event.Event.TheVariants as event
use Rattle.epoch_core.specs.declared.view.Made.{Made}
use Rattle.epoch_core.specs.declared.view.Own.{Own}
use Rattle.epoch_core.specs.declared.view.Phase.TheVariants.{Idle, Standing, Holding}
use Rattle.epoch_core.specs.declared.view.Role.{Role}
use Rattle.epoch_core.specs.declared.view.Role.TheVariants.{Spent, Reader, Control, Note}
use Rattle.epoch_core.specs.declared.view.View.{View}
use Rattle.epoch_core.specs.World as w
use Rattle.epoch_core.specs.World.{World, Spot, home, reader, first_own, opening, word_value}
use Rattle.epoch_core.specs.Step.{has_pair, replaced_at, moved, enabled, effect, step, looked_reader, announced_reader, entered_reader, left_reader, version_in_hand, looked_own, announced_own, entered_own, left_own}
use Rattle.epoch_core.specs.Sound.{IsLatest, Sound}
use Rattle.epoch_core.specs.Rule.{Ended, slot_of, Owners, EndedFit, RoleFits, KeyFits, PartFits, PlaceHas, EpochRule, announcement_word, index_word}
use Rattle.epoch_core.specs.Follows.{Follows}
use Rattle.epoch_core.specs.Plays.{Mine, view, ReaderGoes, looks, announces, enters, leaves}
use Rattle.epoch_core.specs.History.{OneMore, made_of, history, is_of_reader, is_of_control, readers_part}
use Rattle.epoch_core.proofs.HistoryLemmas.{run_more, now_at, history_more, reader_more, part_stays, Says, not_by_others, is_mine, is_not_mine}
use Rattle.epoch_core.proofs.BankLemmas.{banks_apart}
use Rattle.epoch_core.proofs.EndedLemmas.{none_tallied}
use Rattle.epoch_core.proofs.ReaderLemmas.{replaced_at_here, replaced_at_else, replaced_at_all, kept}
use Rattle.epoch_core.proofs.WorldLemmas.{effect_sound}

-- slots of two places are apart
same_slot : (a b q r : ℕ) → q < 64 → r < 64 → slot_of a q ≡ slot_of b r → (a ≡ b) × (q ≡ r)
same_slot a b q r l m e = (omega arith, omega arith)

pub lt_is : (a b : ℕ) → a < b → nat_lt a b ≡ true
lt_is a b l = grind (arith, nat_tests)

-- a step that can be made has its effect
pub takes_effect : (K G : ℕ) (x : World) (e : Event) → enabled K G x e ≡ true → effect K x e ≡ step K G x e
takes_effect K G x e on = rw on refl

may_look : (K G : ℕ) (x : World) (r : ℕ) → r < x.readers → (x.reader_at r).own.phase ≡ Idle → enabled K G x (event.Look r) ≡ true
may_look K G x r l idle = rw (lt_is r x.readers l, idle) refl

may_announce : (K G : ℕ) (x : World) (r : ℕ) → r < x.readers → (x.reader_at r).own.phase ≡ Idle → enabled K G x (event.Announce r) ≡ true
may_announce K G x r l idle = rw (lt_is r x.readers l, idle) refl

-- the readers that have ended stay as they are when another moves
ended_stays : (x : World) (owners : Owners) (r : ℕ) (f : w.Reader → w.Reader) → owners.ended r ≡ false → (ps : List Ended) → EndedFit x owners ps → EndedFit (moved x r f) owners ps
ended_stays x owners r f goes_on [] k = tt
ended_stays x owners r f goes_on (p ∷ ps) k =
    let apart : p.0 ≢ r = λ e. true≢false (sym k.0 ∙ (ap owners.ended e ∙ goes_on)) in
    (k.0, ap (λ (y : w.Reader). y.own) (replaced_at_else x.reader_at r p.0 (f (x.reader_at r)) apart) ∙ k.1, k.2, ended_stays x owners r f goes_on ps k.3)

-- and where they have the same numbers
pub ended_beside : (x x' : World) (owners : Owners) → x'.reader_at ≡ x.reader_at → (ps : List Ended) → EndedFit x owners ps → EndedFit x' owners ps
ended_beside x x' owners same [] k = tt
ended_beside x x' owners same (p ∷ ps) k = (k.0, ap (λ (f : ℕ → w.Reader). (f p.0).own) same ∙ k.1, k.2, ended_beside x x' owners same ps k.3)

module _ {Q C : Type 0} (K G : ℕ) (two : 2 ≤ K) (lawful : Q → ℕ → C → Type 0) (names : Q → ℕ → List (ℕ × ℕ)) (key : Q) where
  abbrev St : Type 0
  St = State (Option C) (View Q)

  abbrev Homes : Type 0
  Homes = List (maybe.Option (Option C))

  abbrev Rule : St → Type 0
  Rule = EpochRule K G lawful names key

  pub views_after : (P : ℕ → View Q → Type 0) (vs : List (View Q)) (me : ℕ) (v : View Q) → P me v → ((j : ℕ) (d : View Q) → j ≢ me → get_elem? vs j ≡ some d → P j d) → (j : ℕ) (d : View Q) → get_elem? (set vs me v) j ≡ some d → P j d
  views_after P vs me v mine others j d e = ⊎_elim
      (λ (t : (j ≡ me) × (v ≡ d)). subst (λ (x : ℕ × View Q). P x.0 x.1) (λ i. (sym t.0 i, t.1 i)) mine)
      (λ (t : (j ≢ me) × (get_elem? vs j ≡ some d)). others j d t.0 t.1)
      (at_set vs me j v d e)

  -- what another seat knows stays when the reader r moves
  pub others_fit : (x : World) (owners : Owners) (me j r : ℕ) (f : w.Reader → w.Reader) (word_at' : ℕ → w.Word) → ((i : ℕ) → (word_at' i).number ≡ (x.word_at i).number) → owners.reader_seat r ≡ me → r < x.readers → r < owners.opened → owners.ended r ≡ false → j ≢ me → (f (x.reader_at r)).passed ≡ (x.reader_at r).passed → (role : Role) → RoleFits x owners j role → RoleFits (record (moved x r f) { word_at = word_at' }) owners j role
  others_fit x owners me j r f word_at' numbers mine inside low goes_on other same Spent k = tt
  others_fit x owners me j r f word_at' numbers mine inside low goes_on other same (Reader q o) k =
      let n : q ≢ r = λ e. other (sym k.1 ∙ (ap owners.reader_seat e ∙ mine)) in
      (k.0, k.1, ap (λ (y : w.Reader). y.own) (replaced_at_else x.reader_at r q (f (x.reader_at r)) n) ∙ k.2, k.3, k.4)
  others_fit x owners me j r f word_at' numbers mine inside low goes_on other same (Control d) k = record { its_seat = k.its_seat; readers_are = k.readers_are; version_is = k.version_is; passed_are = replaced_at_all (λ q y. q < x.readers → y.passed ≡ nat_lt q d.passed) x.reader_at r (f (x.reader_at r)) (λ l. same ∙ k.passed_are r l) (λ q _. k.passed_are q); scans_are = k.scans_are; found_is = k.found_is; made_are = k.made_are; opened_are = k.opened_are; unopened = (λ q l. (ap (λ (y : w.Reader). y.own) (replaced_at_else x.reader_at r q (f (x.reader_at r)) (λ e. omega arith)) ∙ (k.unopened q l).0, (k.unopened q l).1)); ended_fit = ended_beside (moved x r f) (record (moved x r f) { word_at = word_at' }) owners refl d.ended (ended_stays x owners r f goes_on d.ended k.ended_fit); once = k.once; done_is = k.done_is; booked_are = k.booked_are; numbers_low = (λ i. subst (λ z. z ≤ d.numbers) (sym (numbers i)) (k.numbers_low i)); tally_fits = none_tallied x owners r d.readers d.ended x.word_at word_at' d.tallied k.ended_fit k.once k.readers_are inside goes_on k.tally_fits }
  others_fit x owners me j r f word_at' numbers mine inside low goes_on other same (Note i v) k = k

  -- a reader's own step, by the event e
  pub reader_step : (s : St) (h : Rule s) (e : Event) (r : ℕ) (o p : Own) (l : List Made) (f : w.Reader → w.Reader) (word_at' : ℕ → w.Word) (words' : List ℕ) (homes' : Homes) (id : ℕ) → RoleFits h.world h.owners id (Reader r o)
      → l ≡ readers_part r (history K G h.world.readers h.events)
      → enabled K G h.world e ≡ true → effect K h.world e ≡ record (moved h.world r f) { word_at = word_at' } → is_of_reader r e ≡ true → ((q : ℕ) → q ≢ r → is_of_reader q e ≡ false) → is_of_control e ≡ false
      → Sound K G (record (moved h.world r f) { word_at = word_at' }) → ((i : ℕ) → (word_at' i).number ≡ (h.world.word_at i).number)
      → (f (h.world.reader_at r)).own ≡ p → (f (h.world.reader_at r)).passed ≡ (h.world.reader_at r).passed
      → length words' ≡ length s.words → get_or words' 0 0 ≡ get_or s.words 0 0 → get_or words' (announcement_word r) 0 ≡ (f (h.world.reader_at r)).ann → ((q : ℕ) → q < 64 → q ≢ r → get_or words' (announcement_word q) 0 ≡ get_or s.words (announcement_word q) 0)
      → ((i : ℕ) → i ≤ G → get_or words' (index_word i) 0 ≡ word_value (word_at' i))
      → length homes' ≡ length s.homes → ((b : ℕ) → b < K → PlaceHas lawful key ((f (h.world.reader_at r)).spot b) ((f (h.world.reader_at r)).held b) (get_elem? homes' (slot_of b r)))
      → ((q b : ℕ) → q < 64 → q ≢ r → get_elem? homes' (slot_of b q) ≡ get_elem? s.homes (slot_of b q))
      → (v : View Q) → v ≡ view key (Reader r p) (l ++ made_of (now_at K G h.world.readers h.events) h.world e ∷ [])
      → (h' : Rule record { words = words'; homes = homes'; views = set s.views id v }) × (h'.world ≡ step K G h.world e) × (h'.events ≡ h.events ++ e ∷ [])
  reader_step s h e r o p l f word_at' words' homes' id fits part on goes mine alone free sound numbers own passed wide cur ann_here ann_else index_words deep here else_ v is =
      let x = h.world in
      let y = f (x.reader_at r) in
      let few = h.few in
      let ms : List Made = history K G x.readers h.events in
      let m : Made = made_of (now_at K G x.readers h.events) x e in
      let ms' : List Made = history K G x.readers (h.events ++ e ∷ []) in
      let grown : ms' ≡ ms ++ m ∷ [] = history_more K G x.readers h.events e x h.ran on in
      let x' : World = record (moved x r f) { word_at = word_at' } in
      let leads : x' ≡ step K G x e = sym goes ∙ takes_effect K G x e on in (
        record {
          world = x';
          owners = h.owners;
          events = h.events ++ e ∷ [];
          ran = run_more K G (opening x.readers) h.events e ∙ (ap (λ z. step K G z e) h.ran ∙ sym leads);
          sound = sound;
          few = h.few;
          low = h.low;
          wide = wide ∙ h.wide;
          deep = deep ∙ h.deep;
          cur_is = cur ∙ h.cur_is;
          ann_is = replaced_at_all (λ q z. q < x.readers → get_or words' (announcement_word q) 0 ≡ z.ann) x.reader_at r y (λ _. ann_here) (λ q n l. ann_else q (omega arith) n ∙ h.ann_is q l);
          word_is = index_words;
          names_are = h.names_are;
          each_view = views_after (λ j d. Says key x' h.owners ms' j d) s.views id v
              (subst (λ (d : View Q). Says key x' h.owners ms' id d) (sym is)
              (refl, (fits.0, fits.1, ap (λ (z : w.Reader). z.own) (replaced_at_here x.reader_at r r y refl) ∙ own, fits.3, fits.4), reader_more ms m r l mine part ∙ ap (λ k. readers_part r k) (sym grown)))
              (λ j d other at. let k = h.each_view j d at in
              (k.0, others_fit x h.owners id j r f word_at' numbers fits.1 fits.0 fits.3 fits.4 other passed d.role k.1, subst (λ z. PartFits z d.role d.steps) (sym grown) (part_stays ms m d.role d.steps (not_by_others x h.owners id j r e fits.1 fits.3 fits.4 other alone free d.role k.1) k.2)));
          each_place = λ q b l m. replaced_at_all (λ q z. q < x.readers → PlaceHas lawful key (z.spot b) (z.held b) (get_elem? homes' (slot_of b q))) x.reader_at r y (λ _. here b m)
              (λ q n l. subst (PlaceHas lawful key ((x.reader_at q).spot b) ((x.reader_at q).held b)) (sym (else_ q b (omega arith) n)) (h.each_place q b l m)) q l;
        },
        leads,
        refl,
      )

  pub reader_goes : (m m' : Mine Q C) (r : ℕ) (o p : Own) (e : ℕ → Event) (n : Own → ℕ) (next : ℕ → Own → Own → Type 0) → m.0.role ≡ Reader r o → m'.0 ≡ view m.0.key (Reader r p) m'.0.steps → next r o p → OneMore m.0.steps (e r) (n o) m'.0.steps → ReaderGoes m m' e n next
  reader_goes m m' r o p e n next is now goes one q u is' =
      let i : r ≡ q = cc in
      let d : o ≡ u = cc in (
        p,
        subst (λ (z : ℕ). m'.0 ≡ view m.0.key (Reader z p) m'.0.steps) i now,
        subst (λ (z : ℕ × Own). next z.0 z.1 p) (λ j. (i j, d j)) goes,
        subst (λ (z : ℕ × Own). OneMore m.0.steps (e z.0) (n z.1) m'.0.steps) (λ j. (i j, d j)) one,
      )

  -- what the rule says of a seat of this role
  pub fits_at : (s : St) (h : Rule s) (id : ℕ) (v : View Q) (role : Role) → v.role ≡ role → get_elem? s.views id ≡ some v → KeyFits role (v.key ≡ key) × RoleFits h.world h.owners id role × PartFits (history K G h.world.readers h.events) role v.steps
  fits_at s h id v role is at = subst (λ (z : Role). KeyFits z (v.key ≡ key) × RoleFits h.world h.owners id z × PartFits (history K G h.world.readers h.events) z v.steps) is (h.each_view id v at)

  pub looking : (slots id : ℕ) (me : Mine Q C) (r : ℕ) (o : Own) → me.0.role ≡ Reader r o → o.phase ≡ Idle → Follows K G lawful names key slots id me 0 (λ n. n) (looks me) (event.Look r)
  looking slots id me r o is out s h _ at _ =
      let x = h.world in
      let y = x.reader_at r in
      let n : ℕ = get_or s.words 0 0 in
      let seen = fits_at s h id me.0 (Reader r o) is at in
      let k = seen.1 in
      let same : y.own ≡ o = k.2 in
      let t : ℕ = now_at K G x.readers h.events in
      let m : Made = made_of t x (event.Look r) in
      let l : List Made = me.0.steps ++ m ∷ [] in
      let v : View Q = view me.0.key (Reader r (looked_own n o)) l in
      let idle : y.own.phase ≡ Idle = ap (λ (u : Own). u.phase) same ∙ out in
      let words = set-get_or s.words 0 0 in
      let low = (h.sound.each_reader r k.0).order in
      let low' : o.seen ≤ x.cur = subst (λ (u : Own). u.seen ≤ x.cur) same low.1 in
      let cur = h.cur_is in
      let done = reader_step s h (event.Look r) r o (looked_own n o) me.0.steps (looked_reader x.cur) x.word_at (set s.words 0 n) s.homes id k seen.2 (may_look K G x r k.0 idle) refl (is_mine r) (λ q n. is_not_mine r q n) refl (effect_sound K G two x (event.Look r) h.sound (may_look K G x r k.0 idle)) (λ i. refl) (λ i. looked_own (sym h.cur_is i) (same i)) refl
      (length-set s.words 0 n) (ap (λ ws. get_or ws 0 0) words) (ap (λ ws. get_or ws (announcement_word r) 0) words ∙ h.ann_is r k.0) (λ q _ _. ap (λ ws. get_or ws (announcement_word q) 0) words) (λ i l. ap (λ ws. get_or ws (index_word i) 0) words ∙ h.word_is i l)
      refl (λ b m. h.each_place r b k.0 m) (λ q b _ _. refl) v (ap (λ q. view q (Reader r (looked_own n o)) l) seen.0) in (
        v,
        keeps,
        tt,
        done,
        (subst (λ z. z < 4294967296) (sym cur) h.low, refl, reader_goes me (v, me.1) r o (looked_own n o) (λ z. event.Look z) (λ _. n) (λ _ a b. (b ≡ looked_own n a) × (a.seen ≤ n)) is refl (refl, omega arith) (t + 1, λ i. me.0.steps ++ record { at = t + 1; event = event.Look r; number = sym cur i } ∷ [])),
      )

  pub announcing : (slots id : ℕ) (me : Mine Q C) (r : ℕ) (o : Own) → me.0.role ≡ Reader r o → o.phase ≡ Idle → Follows K G lawful names key slots id me (announcement_word r) (λ _. o.last + 1) (λ _ m'. announces me m') (event.Announce r)
  announcing slots id me r o is out s h _ at _ =
      let x = h.world in
      let y = x.reader_at r in
      let n : ℕ = o.last + 1 in
      let seen = fits_at s h id me.0 (Reader r o) is at in
      let k = seen.1 in
      let same : y.own ≡ o = k.2 in
      let t : ℕ = now_at K G x.readers h.events in
      let m : Made = made_of t x (event.Announce r) in
      let l : List Made = me.0.steps ++ m ∷ [] in
      let v : View Q = view me.0.key (Reader r (announced_own o)) l in
      let idle : y.own.phase ≡ Idle = ap (λ (u : Own). u.phase) same ∙ out in
      let few = h.few in
      let wide = h.wide in
      let inside = k.0 in
      let done = reader_step s h (event.Announce r) r o (announced_own o) me.0.steps announced_reader x.word_at (set s.words (announcement_word r) n) s.homes id k seen.2 (may_announce K G x r k.0 idle) refl (is_mine r) (λ q n. is_not_mine r q n) refl (effect_sound K G two x (event.Announce r) h.sound (may_announce K G x r k.0 idle)) (λ i. refl) (ap announced_own same) refl
      (length-set s.words (announcement_word r) n) (get_or-set_other s.words (announcement_word r) 0 n 0 (λ e. omega arith)) (get_or-set_same s.words (announcement_word r) n 0 (omega arith) ∙ ap (λ (u : Own). u.last + 1) (sym same))
      (λ q _ d. get_or-set_other s.words (announcement_word r) (announcement_word q) n 0 (λ e. d (omega arith))) (λ i l. get_or-set_other s.words (announcement_word r) (index_word i) n 0 (λ e. omega arith) ∙ h.word_is i l)
      refl (λ b m. h.each_place r b k.0 m) (λ q b _ _. refl) v (ap (λ q. view q (Reader r (announced_own o)) l) seen.0) in (
        v,
        keeps,
        tt,
        done,
        (refl, reader_goes me (v, me.1) r o (announced_own o) (λ z. event.Announce z) (λ u. u.last + 1) (λ _ a b. b ≡ announced_own a) is refl refl (t + 1, λ i. me.0.steps ++ record { at = t + 1; event = event.Announce r; number = (same i).last + 1 } ∷ [])),
      )

  -- a step that follows an event may be made
  pub allows : (slots id : ℕ) (me : Mine Q C) (i : ℕ) (f : ℕ → ℕ) (then : ℕ → Mine Q C → Type 0) (e : Event) → Follows K G lawful names key slots id me i f then e → Allows Rule slots id me i f then
  allows slots id me i f then e go s h deep at small = let r = go s h deep at small in (r.0, r.1, r.2, r.3.0, r.4)

  -- the steps, as the table asks for them, where the word and the operand are equal to those above
  pub may_load : (slots id : ℕ) (me : Mine Q C) (r : ℕ) (o : Own) → me.0.role ≡ Reader r o → o.phase ≡ Idle → Allows Rule slots id me 0 (λ n. n) (looks me)
  may_load slots id me r o is out = allows slots id me 0 (λ n. n) (looks me) (event.Look r) (looking slots id me r o is out)

  pub announcing_at : (slots id i n : ℕ) (me : Mine Q C) (r : ℕ) (o : Own) → me.0.role ≡ Reader r o → o.phase ≡ Idle → i ≡ announcement_word r → n ≡ o.last + 1 → Allows Rule slots id me i (λ _. n) (λ _ m'. announces me m')
  announcing_at slots id i n me r o is out a b =
      subst (λ (u : ℕ × ℕ). Allows Rule slots id me u.0 (λ _. u.1) (λ _ m'. announces me m')) (λ j. (sym a j, sym b j)) (allows slots id me (announcement_word r) (λ _. o.last + 1) (λ _ m'. announces me m') (event.Announce r) (announcing slots id me r o is out))
