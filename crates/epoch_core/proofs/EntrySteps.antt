-- A reader enters and leaves: each step keeps the rule of the table, and takes the shown world where its event takes it.
use Rattle.std.proofs.Common.{◌≡◌, ◌≢◌, ℕ, ◌+◌, ◌%◌, ◌<◌, ◌≤◌, true, false, true≢false, List, [], ◌∷◌, ◌++◌, length, get_or, set, Option, Some, None, refl, sym, ap, ◌∙◌, subst, ⊎_elim, arith, nat_lt, length-set, get_or-set_other, get_or-set_same}
use mathlib.Core.Option.{none, some}
use mathlib.Core.Option as maybe
use lib.ListN.{get_elem?}
use lib.Seq.{set-get_or}
use Rattle.std.proofs.Math.Nat.{mod-lt}
use Rattle.std.proofs.lemmas.Bool.Decides.{nat_tests}
use Rattle.atomic_table.specs.Table.{State, keeps, takes, gives, stepped, rest, Allows}
use Rattle.atomic_table.proofs.Lists.{at_set, set_here, set_else, one_turn}
use Rattle.epoch_core.specs.declared.event.Event.{Event}
use Rattle.epoch_core.specs.declared.event.Event.TheVariants as event
use Rattle.epoch_core.specs.declared.view.Made.{Made}
use Rattle.epoch_core.specs.declared.view.Own.{Own}
use Rattle.epoch_core.specs.declared.view.Phase.TheVariants.{Idle, Standing, Holding}
use Rattle.epoch_core.specs.declared.view.Role.{Role}
use Rattle.epoch_core.specs.declared.view.Role.TheVariants.{Spent, Reader, Control, Note}
use Rattle.epoch_core.specs.declared.view.View.{View}
use Rattle.epoch_core.specs.World as w
use Rattle.epoch_core.specs.World.{World, Spot, home, reader, first_own, opening, word_value}
use Rattle.epoch_core.specs.Step.{has_pair, replaced_at, moved, enabled, effect, step, looked_reader, announced_reader, entered_reader, left_reader, version_in_hand, looked_own, announced_own, entered_own, left_own}
use Rattle.epoch_core.specs.Sound.{IsLatest, Sound}
use Rattle.epoch_core.specs.Rule.{Ended, slot_of, Owners, EndedFit, RoleFits, KeyFits, PartFits, PlaceHas, EpochRule, announcement_word, index_word}
use Rattle.epoch_core.specs.Follows.{Follows}
use Rattle.epoch_core.specs.Plays.{Mine, view, ReaderGoes, looks, announces, enters, leaves}
use Rattle.epoch_core.specs.History.{OneMore, made_of, history, is_of_reader, is_of_control, readers_part}
use Rattle.epoch_core.proofs.HistoryLemmas.{run_more, now_at, history_more, reader_more, part_stays, Says, not_by_others, is_mine, is_not_mine}
use Rattle.epoch_core.proofs.BankLemmas.{banks_apart}
use Rattle.epoch_core.proofs.EndedLemmas.{none_tallied}
use Rattle.epoch_core.proofs.ReaderLemmas.{replaced_at_here, replaced_at_else, replaced_at_all, kept}
use Rattle.epoch_core.proofs.WorldLemmas.{effect_sound}
use Rattle.epoch_core.proofs.ReaderSteps.{lt_is, reader_step, reader_goes, fits_at, allows}

-- slots of two places are apart
same_slot : (a b q r : ℕ) → q < 64 → r < 64 → slot_of a q ≡ slot_of b r → (a ≡ b) × (q ≡ r)
same_slot a b q r l m e = (omega arith, omega arith)

may_enter : (K G : ℕ) (x : World) (r a : ℕ) → r < x.readers → (x.reader_at r).own.phase ≡ Standing a → enabled K G x (event.Enter r) ≡ true
may_enter K G x r a l stood = rw (lt_is r x.readers l, stood) refl

may_leave : (K G : ℕ) (x : World) (r a v : ℕ) → r < x.readers → (x.reader_at r).own.phase ≡ Holding a v → enabled K G x (event.Leave r) ≡ true
may_leave K G x r a v l held = rw (lt_is r x.readers l, held) refl

module _ {Q C : Type 0} (K G : ℕ) (two : 2 ≤ K) (lawful : Q → ℕ → C → Type 0) (names : Q → ℕ → List (ℕ × ℕ)) (key : Q) where
  abbrev St : Type 0
  St = State (Option C) (View Q)

  abbrev Homes : Type 0
  Homes = List (maybe.Option (Option C))

  abbrev Rule : St → Type 0
  Rule = EpochRule K G lawful names key

  bank_below : (v : ℕ) → v % K < K
  bank_below v = mod-lt v (omega arith)

  -- a version less than a whole round ago is the one that stands in its bank
  held_is : (cur v b : ℕ) (z : Option ℕ) → v ≤ cur → cur < v + K → v % K ≡ b → IsLatest K cur b z → z ≡ Some v
  held_is cur v b None l g e h = absurd (h v l e)
  held_is cur v b (Some z) l g e h =
      let t = h.2 v l e in
      let low = h.0 in
      ap (λ n. Some n) (sym (one_turn v z K t (omega arith) (e ∙ sym h.1)))

  value_at : (v : ℕ) (t : Spot) (z : Option ℕ) (x : maybe.Option (maybe.Option (Option C))) → t ≡ home → z ≡ Some v → PlaceHas lawful key t z x → (c : C) × (x ≡ some (some (Some c))) × lawful key v c
  value_at v t z x at_home is ok =
      let P = subst (λ (u : Spot × Option ℕ). PlaceHas lawful key u.0 u.1 x) (λ i. (at_home i, is i)) ok in
      (P.2.0, P.1 ∙ ap (λ (u : Option C). some (some u)) P.2.1, P.2.2)

  pub entering : (slots id : ℕ) (me : Mine Q C) (r : ℕ) (o : Own) (a : ℕ) → me.0.role ≡ Reader r o → o.phase ≡ Standing a → Follows K G lawful names key slots id me 0 (λ n. n) (enters lawful names K G me) (event.Enter r)
  entering slots id me r o a is out s h _ at _ =
      let x = h.world in
      let y = x.reader_at r in
      let n : ℕ = get_or s.words 0 0 in
      let cur : n ≡ x.cur = h.cur_is in
      let seen = fits_at K G two lawful names key s h id me.0 (Reader r o) is at in
      let k = seen.1 in
      let same : y.own ≡ o = k.2 in
      let sound = kept K x.cur y (h.sound.each_reader r k.0) in
      let t : ℕ = now_at K G x.readers h.events in
      let m : Made = made_of t x (event.Enter r) in
      let l : List Made = me.0.steps ++ m ∷ [] in
      let v : View Q = view me.0.key (Reader r (entered_own n o)) l in
      let stood : y.own.phase ≡ Standing a = ap (λ (u : Own). u.phase) same ∙ out in
      let words = set-get_or s.words 0 0 in
      let low = sound.order in
      let low' : o.seen ≤ x.cur = subst (λ (u : Own). u.seen ≤ x.cur) same low.1 in
      let few = h.few in
      let inside = k.0 in
      let b : ℕ = x.cur % K in
      let i : ℕ = slot_of b r in
      let near : b < K = bank_below x.cur in
      let deep = h.deep in
      let free : y.spot b ≡ home = sound.at_home b near (rw stood (λ z. z)) (λ t. banks_apart K x.cur (x.cur + 1) (omega arith) (omega arith) (sym t.1)) in
      let named : (i p : ℕ) → has_pair i p (names me.0.key n) ≡ true → (0 < i) × (i ≤ G) =
      λ j p has. let c = h.sound.index_words.recent x.cur (omega arith, omega arith) j p (subst (λ (ps : List (ℕ × ℕ)). has_pair j p ps ≡ true) (sym (h.names_are x.cur (omega arith) ∙ (λ t. names (sym seen.0 t) (sym cur t)))) has) in (c.0, c.1) in
      let it = value_at x.cur (y.spot b) (y.held b) (get_elem? s.homes i) free (held_is x.cur x.cur b (y.held b) (omega arith) (omega arith) refl (sound.versions b near)) (h.each_place r b inside near) in
      let homes' : Homes = set s.homes i none in
      let done = reader_step K G two lawful names key s h (event.Enter r) r o (entered_own n o) me.0.steps (entered_reader K x.cur) x.word_at (set s.words 0 n) homes' id k seen.2 (may_enter K G x r a k.0 stood) refl (is_mine r) (λ q n. is_not_mine r q n) refl (effect_sound K G two x (event.Enter r) h.sound (may_enter K G x r a k.0 stood)) (λ i. refl) (λ i. entered_own (sym cur i) (same i)) refl
      (length-set s.words 0 n) (ap (λ ws. get_or ws 0 0) words) (ap (λ ws. get_or ws (announcement_word r) 0) words ∙ h.ann_is r k.0) (λ q _ _. ap (λ ws. get_or ws (announcement_word q) 0) words) (λ i l. ap (λ ws. get_or ws (index_word i) 0) words ∙ h.word_is i l)
      (length-set s.homes i none)
      (λ c m. replaced_at_all (λ j t. j < K → PlaceHas lawful key t (y.held j) (get_elem? homes' (slot_of j r))) y.spot b reader (λ _. set_here s.homes i none (omega arith))
      (λ j d l. subst (PlaceHas lawful key (y.spot j) (y.held j)) (sym (set_else s.homes i (slot_of j r) none (λ e. d (omega arith)))) (h.each_place r j inside l)) c m)
      (λ q c l d. set_else s.homes i (slot_of c q) none (λ e. d (omega arith))) v (ap (λ q. view q (Reader r (entered_own n o)) l) seen.0) in (
        v,
        takes i (Some it.0),
        it.1,
        done,
        (
          subst (λ z. z < 4294967296) (sym cur) h.low,
          reader_goes K G two lawful names key me (v, (i, Some it.0) ∷ me.1) r o (entered_own n o) (λ z. event.Enter z) (λ _. n) (λ z u p. (p ≡ entered_own n u) × (u.seen ≤ n) × ((c : C) × ((i, Some it.0) ∷ me.1 ≡ (slot_of (n % K) z, Some c) ∷ me.1) × lawful me.0.key n c)) is refl
              (refl, omega arith, (it.0, (λ t. (slot_of (sym cur t % K) r, Some it.0) ∷ me.1), subst (λ (u : Q × ℕ). lawful u.0 u.1 it.0) (λ t. (sym seen.0 t, sym cur t)) it.2))
              (t + 1, λ i. me.0.steps ++ record { at = t + 1; event = event.Enter r; number = sym cur i } ∷ []),
          named,
        ),
      )

  pub leaving : (slots id : ℕ) (me : Mine Q C) (r : ℕ) (o : Own) (a v : ℕ) (c : C) (cs : List (ℕ × Option C)) → me.0.role ≡ Reader r o → o.phase ≡ Holding a v → me.1 ≡ (slot_of (v % K) r, Some c) ∷ cs → lawful me.0.key v c
      → Follows K G lawful names key slots id me (announcement_word r) (λ _. 0) (λ _ m'. leaves me m') (event.Leave r)
  leaving slots id me r o a u c cs is out holds_slot fair s h _ at _ =
      let x = h.world in
      let y = x.reader_at r in
      let seen = fits_at K G two lawful names key s h id me.0 (Reader r o) is at in
      let k = seen.1 in
      let same : y.own ≡ o = k.2 in
      let sound = kept K x.cur y (h.sound.each_reader r k.0) in
      let t : ℕ = now_at K G x.readers h.events in
      let m : Made = made_of t x (event.Leave r) in
      let l : List Made = me.0.steps ++ m ∷ [] in
      let v : View Q = view me.0.key (Reader r (left_own o)) l in
      let held : y.own.phase ≡ Holding a u = ap (λ (z : Own). z.phase) same ∙ out in
      let phase = rw held at sound.phase in
      let order = sound.order in
      let few = h.few in
      let wide = h.wide in
      let inside = k.0 in
      let b : ℕ = u % K in
      let i : ℕ = slot_of b r in
      let near : b < K = bank_below u in
      let deep = h.deep in
      let homes' : Homes = set s.homes i (some (Some c)) in
      let bank : version_in_hand y.own.phase % K ≡ b = ap (λ z. version_in_hand z % K) held in
      let is_held : y.held b ≡ Some u = held_is x.cur u b (y.held b) (omega arith) phase.3 refl (sound.versions b near) in
      let back : PlaceHas lawful key home (y.held b) (get_elem? homes' i) = subst (λ z. PlaceHas lawful key home z (get_elem? homes' i)) (sym is_held) (Some c, set_here s.homes i (some (Some c)) (omega arith), (c, refl, subst (λ z. lawful z u c) seen.0 fair)) in
      let done = reader_step K G two lawful names key s h (event.Leave r) r o (left_own o) me.0.steps (left_reader K) x.word_at (set s.words (announcement_word r) 0) homes' id k seen.2 (may_leave K G x r a u k.0 held) refl (is_mine r) (λ q n. is_not_mine r q n) refl (effect_sound K G two x (event.Leave r) h.sound (may_leave K G x r a u k.0 held)) (λ i. refl) (ap left_own same) refl
      (length-set s.words (announcement_word r) 0) (get_or-set_other s.words (announcement_word r) 0 0 0 (λ e. omega arith)) (get_or-set_same s.words (announcement_word r) 0 0 (omega arith))
      (λ q _ d. get_or-set_other s.words (announcement_word r) (announcement_word q) 0 0 (λ e. d (omega arith))) (λ i l. get_or-set_other s.words (announcement_word r) (index_word i) 0 0 (λ e. omega arith) ∙ h.word_is i l)
      (length-set s.homes i (some (Some c)))
      (λ j m. subst (λ z. PlaceHas lawful key (replaced_at y.spot z home j) (y.held j) (get_elem? homes' (slot_of j r))) (sym bank)
      (replaced_at_all (λ j t. j < K → PlaceHas lawful key t (y.held j) (get_elem? homes' (slot_of j r))) y.spot b home (λ _. back)
      (λ j d l. subst (PlaceHas lawful key (y.spot j) (y.held j)) (sym (set_else s.homes i (slot_of j r) (some (Some c)) (λ e. d (omega arith)))) (h.each_place r j inside l)) j m))
      (λ q j l d. set_else s.homes i (slot_of j q) (some (Some c)) (λ e. d (omega arith))) v (ap (λ q. view q (Reader r (left_own o)) l) seen.0) in (
        v,
        gives,
        tt,
        subst (λ (ls : List (ℕ × Option C)). (h' : Rule (stepped s (announcement_word r) 0 id ls v gives)) × (h'.world ≡ step K G x (event.Leave r)) × (h'.events ≡ h.events ++ event.Leave r ∷ [])) (sym holds_slot) done,
        (refl, reader_goes K G two lawful names key me (v, rest me.1) r o (left_own o) (λ z. event.Leave z) (λ _. 0) (λ _ z p. p ≡ left_own z) is refl refl (t + 1, refl)),
      )

  pub may_take : (slots id : ℕ) (me : Mine Q C) (r : ℕ) (o : Own) (a : ℕ) → me.0.role ≡ Reader r o → o.phase ≡ Standing a → Allows Rule slots id me 0 (λ n. n) (enters lawful names K G me)
  may_take slots id me r o a is out = allows K G two lawful names key slots id me 0 (λ n. n) (enters lawful names K G me) (event.Enter r) (entering slots id me r o a is out)

  pub leaving_at : (slots id i : ℕ) (me : Mine Q C) (r : ℕ) (o : Own) (a v : ℕ) (c : C) (cs : List (ℕ × Option C)) → me.0.role ≡ Reader r o → o.phase ≡ Holding a v → me.1 ≡ (slot_of (v % K) r, Some c) ∷ cs → lawful me.0.key v c
      → i ≡ announcement_word r → Allows Rule slots id me i (λ _. 0) (λ _ m'. leaves me m')
  leaving_at slots id i me r o a v c cs is out slots_are fair e =
      subst (λ (u : ℕ). Allows Rule slots id me u (λ _. 0) (λ _ m'. leaves me m')) (sym e) (allows K G two lawful names key slots id me (announcement_word r) (λ _. 0) (λ _ m'. leaves me m') (event.Leave r) (leaving slots id me r o a v c cs is out slots_are fair))
