-- Seats are made of the control's, and taken in, under the rule of the table.
use Rattle.std.proofs.Common.{◌≡◌, ◌≢◌, ◌⊎◌, ℕ, zero, suc, ◌+◌, ◌<◌, ◌≤◌, true, false, true≢false, List, [], ◌∷◌, ◌++◌, length, set, Option, Some, None, refl, sym, ap, ◌∙◌, subst, inl, inr, ⊎_elim, arith, length-set}
use Rattle.std.specs.Prelude.{unwrap_or}
use Rattle.std.proofs.lemmas.Bool.Decides.{nat_tests}
use mathlib.Core.Option.{some, some-injective, some-ne-none}
use lib.ListN.{get_elem?}
use Rattle.atomic_table.specs.Table.{State, Splits, Joins}
use Rattle.atomic_table.proofs.Lists.{set_else}
use Rattle.epoch_core.specs.declared.event.Event.{Event}
use Rattle.epoch_core.specs.declared.event.Event.TheVariants as event
use Rattle.epoch_core.specs.declared.view.ControlOwn.{ControlOwn}
use Rattle.epoch_core.specs.declared.view.Made.{Made}
use Rattle.epoch_core.specs.declared.view.Own.{Own}
use Rattle.epoch_core.specs.declared.view.Phase.TheVariants.{Idle}
use Rattle.epoch_core.specs.declared.view.Role.{Role}
use Rattle.epoch_core.specs.declared.view.Role.TheVariants.{Spent, Reader, Control, Note}
use Rattle.epoch_core.specs.declared.view.View.{View}
use Rattle.epoch_core.specs.World as w
use Rattle.epoch_core.specs.World.{World, first_own, opening, word_value}
use Rattle.epoch_core.specs.Step.{replaced_at, moved, told_reader, told_own, enabled, effect, step, run}
use Rattle.epoch_core.specs.Sound.{NoteFits, Sound}
use Rattle.epoch_core.specs.Rule.{Ended, slot_of, Owners, is_among, EndedFit, RoleFits, KeyFits, PartFits, PlaceHas, EpochRule}
use Rattle.epoch_core.specs.Follows.{SplitFollows, JoinFollows}
use Rattle.epoch_core.specs.History.{made_of, history, readers_part}
use Rattle.epoch_core.specs.Plays.{view, seating, seated, telling, noted, learnt, ending, in_role, as_new, telling_step, telling_view, learning_step, learnt_view, ending_view}
use Rattle.epoch_core.proofs.HistoryLemmas.{run_more, now_at, history_more, reader_more, control_more, part_stays, Says, not_by_others, not_by_beside, is_mine, is_not_mine}
use Rattle.epoch_core.proofs.EndedLemmas.{tally_more}
use Rattle.epoch_core.proofs.ReaderLemmas.{replaced_at_here, replaced_at_else, replaced_at_all, told_reader_kept}
use Rattle.epoch_core.proofs.ReaderSteps.{ended_beside, views_after, others_fit, fits_at, lt_is, takes_effect}
use Rattle.epoch_core.proofs.WorldLemmas.{effect_sound, moved_readers}

-- a seat of a longer list was there, or is the last
at_end : {A : Type 0} (l : List A) (a b : A) (j : ℕ) → get_elem? (l ++ a ∷ []) j ≡ some b → ((get_elem? l j ≡ some b) × (j < length l)) ⊎ ((j ≡ length l) × (a ≡ b))
at_end [] a b zero e = inr (refl, some-injective a b e)
at_end [] a b (suc j) e = absurd (some-ne-none b (sym e))
at_end (x ∷ xs) a b zero e = inl (e, omega arith)
at_end (x ∷ xs) a b (suc j) e = ⊎_elim (λ t. let l = t.1 in inl (t.0, omega arith)) (λ t. let l = t.0 in inr (omega arith, t.1)) (at_end xs a b j e)

may_join : (K G : ℕ) (x : World) (r k v : ℕ) → r < x.readers → (x.reader_at r).own.phase ≡ Idle → k < x.made → x.notes k ≡ Some v → enabled K G x (event.Join r k) ≡ true
may_join K G x r k v l idle made note = rw (lt_is r x.readers l, idle, lt_is k x.made made, note) refl

-- the readers that have ended stay so when another ends, and when another's seat or note is made
ended_more : (x : World) (owners owners' : Owners) → ((q : ℕ) → owners.ended q ≡ true → owners'.ended q ≡ true) → (ps : List Ended) → EndedFit x owners ps → EndedFit x owners' ps
ended_more x owners owners' more [] k = tt
ended_more x owners owners' more (p ∷ ps) k = (more p.0 k.0, k.1, k.2, ended_more x owners owners' more ps k.3)

-- a reader that goes on is none of those that have ended
not_among : (x : World) (owners : Owners) (r : ℕ) → owners.ended r ≡ false → (ps : List Ended) → EndedFit x owners ps → is_among r ps ≡ false
not_among x owners r goes_on [] k = refl
not_among x owners r goes_on (p ∷ ps) k =
    let apart : p.0 ≢ r = λ e. true≢false (sym k.0 ∙ (ap owners.ended e ∙ goes_on)) in
    let rest = not_among x owners r goes_on ps k.3 in grind (arith, nat_tests)

module _ {Q C : Type 0} (K G : ℕ) (two : 2 ≤ K) (lawful : Q → ℕ → C → Type 0) (names : Q → ℕ → List (ℕ × ℕ)) (key : Q) where
  abbrev St : Type 0
  St = State (Option C) (View Q)

  abbrev Rule : St → Type 0
  Rule = EpochRule K G lawful names key

  -- a new seat is made of the seat id, the world goes to x', and the history to events'
  split_step : (s : St) (h : Rule s) (id : ℕ) (l r : View Q) (x' : World) (owners' : Owners) (events' : List Event) → run K G (opening x'.readers) events' ≡ x' → x'.cur ≡ h.world.cur → x'.readers ≡ h.world.readers → x'.reader_at ≡ h.world.reader_at → x'.word_at ≡ h.world.word_at → x'.pairs_at ≡ h.world.pairs_at → Sound K G x'
      → Says key x' owners' (history K G x'.readers events') id l → Says key x' owners' (history K G x'.readers events') (length s.views) r
      → ((j : ℕ) (d : View Q) → j ≢ id → j < length s.views → Says key h.world h.owners (history K G h.world.readers h.events) j d → Says key x' owners' (history K G x'.readers events') j d)
      → (h' : Rule record { words = s.words; homes = s.homes; views = set s.views id l ++ r ∷ [] }) × (h'.world ≡ x') × (h'.events ≡ events')
  split_step s h id l r x' owners' events' ran cur readers same word_at pairs_at sound mine new others = (
    record {
      world = x';
      owners = owners';
      events = events';
      ran = ran;
      sound = sound;
      few = subst (λ z. z ≤ 64) (sym readers) h.few;
      low = subst (λ z. z < 4294967296) (sym cur) h.low;
      wide = h.wide;
      deep = h.deep;
      cur_is = h.cur_is ∙ sym cur;
      ann_is = λ q n. h.ann_is q (subst (λ z. q < z) readers n) ∙ ap (λ (f : ℕ → w.Reader). (f q).ann) (sym same);
      word_is = λ i l. h.word_is i l ∙ ap (λ (f : ℕ → w.Word). word_value (f i)) (sym word_at);
      names_are = λ u l. ap (λ (f : ℕ → List (ℕ × ℕ)). f u) pairs_at ∙ h.names_are u (subst (λ z. u ≤ z) cur l);
      each_view = λ j d e. ⊎_elim
          (λ (t : (get_elem? (set s.views id l) j ≡ some d) × (j < length (set s.views id l))).
          views_after K G two lawful names key (λ i u. i < length s.views → Says key x' owners' (history K G x'.readers events') i u) s.views id l (λ _. mine) (λ i u other at low. others i u other low (h.each_view i u at)) j d t.0 (subst (λ (n : ℕ). j < n) (length-set s.views id l) t.1))
          (λ (t : (j ≡ length (set s.views id l)) × (r ≡ d)). subst (λ (u : ℕ × View Q). Says key x' owners' (history K G x'.readers events') u.0 u.1) (λ i. (sym (t.0 ∙ length-set s.views id l) i, t.1 i)) new)
          (at_end (set s.views id l) r d j e);
      each_place = λ q b n m. subst (λ (f : ℕ → w.Reader). PlaceHas lawful key ((f q).spot b) ((f q).held b) (get_elem? s.homes (slot_of b q))) (sym same) (h.each_place q b (subst (λ z. q < z) readers n) m);
    },
    refl,
    refl,
  )

  -- the control makes a reader's seat: nothing in the world changes
  pub opens : (id : ℕ) (v : View Q) (d : ControlOwn) → v.role ≡ Control d → d.opened < d.readers → SplitFollows K G lawful names key id v (in_role seating v) (as_new seated v) (λ x. x) (λ es. es)
  opens id v d is more s h at =
      let x = h.world in
      let owners = h.owners in
      let say = fits_at K G two lawful names key s h id v (Control d) is at in
      let k = say.1 in
      let count : d.readers ≡ x.readers = k.readers_are in
      let begun : d.opened ≡ owners.opened = k.opened_are in
      let n : ℕ = length s.views in
      let ms : List Made = history K G x.readers h.events in
      let part = say.2 in
      let owners' : Owners = record owners { reader_seat = replaced_at owners.reader_seat d.opened n; opened = owners.opened + 1 } in
      let first = k.unopened d.opened (omega arith) in
      split_step s h id (in_role seating v) (as_new seated v) x owners' h.events h.ran refl refl refl refl refl h.sound
      (subst (λ (z : Role). KeyFits (seating z) (v.key ≡ key) × RoleFits x owners' id (seating z) × PartFits ms (seating z) v.steps) (sym is) (say.0, record { its_seat = k.its_seat; readers_are = k.readers_are; version_is = k.version_is; passed_are = k.passed_are; scans_are = k.scans_are; found_is = k.found_is; made_are = k.made_are; opened_are = ap (λ (c : ℕ). c + 1) begun; unopened = (λ q l. k.unopened q (omega arith)); ended_fit = ended_more x owners owners' (λ q t. t) d.ended k.ended_fit; once = k.once; done_is = k.done_is; booked_are = k.booked_are; numbers_low = k.numbers_low; tally_fits = k.tally_fits }, (part.0, (λ q l. part.1 q (omega arith)), part.2)))
      (subst (λ (z : Role). KeyFits (seated z) (v.key ≡ key) × RoleFits x owners' n (seated z) × PartFits ms (seated z) []) (sym is) (say.0, (omega arith, replaced_at_here owners.reader_seat d.opened d.opened n refl, first.0, omega arith, first.1), sym (part.1 d.opened (omega arith))))
      (λ j u other low it. (it.0, go d.opened n x owners j id begun k.its_seat other u.role it.1, it.2))
    where
      go : (r n : ℕ) (x : World) (owners : Owners) (j id : ℕ) → r ≡ owners.opened → id ≡ owners.control_seat → j ≢ id → (role : Role) → RoleFits x owners j role → RoleFits x (record owners { reader_seat = replaced_at owners.reader_seat r n; opened = owners.opened + 1 }) j role
      go r n x owners j id begun mine other Spent k = tt
      go r n x owners j id begun mine other (Reader q o) k =
          let low = k.3 in
          (k.0, replaced_at_else owners.reader_seat r q n (λ e. omega arith) ∙ k.1, k.2, omega arith, k.4)
      go r n x owners j id begun mine other (Control d) k = absurd (other (k.its_seat ∙ sym mine))
      go r n x owners j id begun mine other (Note i v) k = k

  -- the control makes a note
  pub tells : (id : ℕ) (v : View Q) (d : ControlOwn) → v.role ≡ Control d → SplitFollows K G lawful names key id v (telling_view v) (as_new noted v) (λ x. step K G x event.Split) (λ es. es ++ event.Split ∷ [])
  tells id v d is s h at =
      let x = h.world in
      let owners = h.owners in
      let say = fits_at K G two lawful names key s h id v (Control d) is at in
      let k = say.1 in
      let made : d.made ≡ x.made = k.made_are in
      let version : d.version ≡ x.cur = k.version_is in
      let n : ℕ = length s.views in
      let owners' : Owners = record owners { note_seat = replaced_at owners.note_seat x.made n } in
      let x' : World = effect K x event.Split in
      let ms : List Made = history K G x.readers h.events in
      let m : Made = made_of (now_at K G x.readers h.events) x event.Split in
      let ms' : List Made = history K G x.readers (h.events ++ event.Split ∷ []) in
      let grown : ms' ≡ ms ++ m ∷ [] = history_more K G x.readers h.events event.Split x h.ran refl in
      let d' : ControlOwn = record d { made = d.made + 1 } in
      let part : PartFits ms' (Control d') (v.steps ++ record { at = 0; event = event.Split; number = d.version } ∷ []) =
      subst (λ (u : List Made × ℕ). PartFits u.0 (Control d') (v.steps ++ record { at = 0; event = event.Split; number = u.1 } ∷ [])) (λ i. (sym grown i, sym version i)) (control_more ms m d d' v.steps refl refl refl (λ q. refl) say.2) in
      let done = split_step s h id (telling_view v) (as_new noted v) x' owners' (h.events ++ event.Split ∷ []) (run_more K G (opening x.readers) h.events event.Split ∙ ap (λ z. step K G z event.Split) h.ran) refl refl refl refl refl (effect_sound K G two x event.Split h.sound refl)
      (subst (λ (z : Role). KeyFits (telling z) (v.key ≡ key) × RoleFits x' owners' id (telling z) × PartFits ms' (telling z) (v.steps ++ telling_step z ∷ [])) (sym is)
      (say.0, record { its_seat = k.its_seat; readers_are = k.readers_are; version_is = k.version_is; passed_are = k.passed_are; scans_are = k.scans_are; found_is = k.found_is; made_are = ap (λ (c : ℕ). c + 1) made; opened_are = k.opened_are; unopened = k.unopened; ended_fit = ended_more x' owners owners' (λ q t. t) d.ended (ended_beside x x' owners refl d.ended k.ended_fit); once = k.once; done_is = k.done_is; booked_are = k.booked_are; numbers_low = k.numbers_low; tally_fits = k.tally_fits }, part))
      (subst (λ (z : Role). KeyFits (noted z) (v.key ≡ key) × RoleFits x' owners' n (noted z) × PartFits ms' (noted z) []) (sym is)
      (say.0, (omega arith, replaced_at_here x.notes x.made d.made (Some x.cur) made ∙ ap (λ (c : ℕ). Some c) (sym version), replaced_at_here owners.note_seat x.made d.made n made), tt))
      (λ j u other low it. (it.0, go n x owners j id k.its_seat other u.role it.1, subst (λ z. PartFits z u.role u.steps) (sym grown) (part_stays ms m u.role u.steps (not_by_beside x owners j event.Split (λ e. other (e ∙ sym k.its_seat)) (λ q. refl) u.role it.1) it.2))) in
      (done.0, done.1 ∙ takes_effect K G x event.Split refl, done.2)
    where
      go : (n : ℕ) (x : World) (owners : Owners) (j id : ℕ) → id ≡ owners.control_seat → j ≢ id → (role : Role) → RoleFits x owners j role → RoleFits (effect K x event.Split) (record owners { note_seat = replaced_at owners.note_seat x.made n }) j role
      go n x owners j id mine other Spent k = tt
      go n x owners j id mine other (Reader q o) k = k
      go n x owners j id mine other (Control d) k = absurd (other (k.its_seat ∙ sym mine))
      go n x owners j id mine other (Note i v) k =
          let low = k.0 in
          let apart : i ≢ x.made = λ e. omega arith in
          (omega arith, replaced_at_else x.notes x.made i (Some x.cur) apart ∙ k.1, replaced_at_else owners.note_seat x.made i n apart ∙ k.2)

  -- a reader takes a note in
  pub learns : (id : ℕ) (v : View Q) (r : ℕ) (o : Own) (other : ℕ) (u : View Q) (i nv : ℕ) (spent : View Q) → v.role ≡ Reader r o → o.phase ≡ Idle → u.role ≡ Note i nv → spent.role ≡ Spent
      → JoinFollows K G lawful names key id v other u (view v.key (Reader r (told_own nv o)) (v.steps ++ record { at = 0; event = event.Join r i; number = nv } ∷ [])) spent (λ x. step K G x (event.Join r i)) (λ es. es ++ event.Join r i ∷ [])
  learns id v r o other u i nv spent is out noted_ gone s h at apart there =
      let x = h.world in
      let owners = h.owners in
      let y = x.reader_at r in
      let l : List Made = v.steps ++ record { at = 0; event = event.Join r i; number = nv } ∷ [] in
      let both : View Q = view v.key (Reader r (told_own nv o)) l in
      let at' : get_elem? s.views other ≡ some u = sym (set_else s.views id other both apart) ∙ there in
      let say = fits_at K G two lawful names key s h id v (Reader r o) is at in
      let k = say.1 in
      let note = (fits_at K G two lawful names key s h other u (Note i nv) noted_ at').1 in
      let low : nv ≤ x.cur = subst (NoteFits x.cur) note.1 (h.sound.each_note i note.0) in
      let idle : y.own.phase ≡ Idle = ap (λ (z : Own). z.phase) k.2 ∙ out in
      let few = h.few in
      let x' : World = record (moved x r (told_reader nv)) { notes = replaced_at x.notes i None } in
      let on = may_join K G x r i nv k.0 idle note.0 note.1 in
      let is_effect : x' ≡ effect K x (event.Join r i) = ap (λ (z : Option ℕ). let t : World = record (moved x r (told_reader (unwrap_or z 0))) { notes = replaced_at x.notes i None } in t) (sym note.1) in
      let e : Event = event.Join r i in
      let on : enabled K G x e ≡ true = may_join K G x r i nv k.0 idle note.0 note.1 in
      let ms : List Made = history K G x.readers h.events in
      let m : Made = made_of (now_at K G x.readers h.events) x e in
      let ms' : List Made = history K G x.readers (h.events ++ e ∷ []) in
      let grown : ms' ≡ ms ++ m ∷ [] = history_more K G x.readers h.events e x h.ran on in
      let number : unwrap_or (x.notes i) 0 ≡ nv = ap (λ (z : Option ℕ). unwrap_or z 0) note.1 in
      let part : PartFits ms' (Reader r (told_own nv o)) l = subst (λ (u : List Made × ℕ). v.steps ++ record { at = 0; event = event.Join r i; number = u.1 } ∷ [] ≡ readers_part r u.0) (λ c. (sym grown c, number c)) (reader_more ms m r v.steps (is_mine r) say.2) in
      let leads : x' ≡ step K G x e = is_effect ∙ takes_effect K G x e on in
      let same = λ (q : ℕ). replaced_at_all (λ j z. (z.ann ≡ (x.reader_at j).ann) × (z.spot ≡ (x.reader_at j).spot) × (z.held ≡ (x.reader_at j).held)) x.reader_at r (told_reader nv y) (refl, refl, refl) (λ j _. (refl, refl, refl)) q in (
        record {
          world = x';
          owners = owners;
          events = h.events ++ e ∷ [];
          ran = run_more K G (opening x.readers) h.events e ∙ (ap (λ z. step K G z e) h.ran ∙ sym leads);
          sound = subst (Sound K G) (sym is_effect) (effect_sound K G two x (event.Join r i) h.sound on);
          few = h.few;
          low = h.low;
          wide = h.wide;
          deep = h.deep;
          cur_is = h.cur_is;
          ann_is = λ q l. h.ann_is q l ∙ sym (same q).0;
          word_is = h.word_is;
          names_are = h.names_are;
          each_view = views_after K G two lawful names key (λ j d. Says key x' owners ms' j d) (set s.views id both) other spent
              (subst (λ (z : Role). KeyFits z (spent.key ≡ key) × RoleFits x' owners other z × PartFits ms' z spent.steps) (sym gone) (tt, tt, tt))
              (λ j d far it. views_after K G two lawful names key (λ j d. j ≢ other → Says key x' owners ms' j d) s.views id both
              (λ _. (say.0, (k.0, k.1, ap (λ (z : w.Reader). z.own) (replaced_at_here x.reader_at r r (told_reader nv y) refl) ∙ ap (told_own nv) k.2, k.3, k.4), part))
              (λ j d far it apart'. let b = h.each_view j d it in (b.0, quiet x owners j other r i nv (λ e. apart' (sym e ∙ note.2)) d.role (others_fit K G two lawful names key x owners id j r (told_reader nv) x.word_at (λ c. refl) k.1 k.0 k.3 k.4 far refl d.role b.1), subst (λ z. PartFits z d.role d.steps) (sym grown) (part_stays ms m d.role d.steps (not_by_others x owners id j r e k.1 k.3 k.4 far (λ q n. is_not_mine r q n) refl d.role b.1) b.2))) j d it far);
          each_place = λ q b l e. let t = same q in subst (λ (z : (ℕ → w.Spot) × (ℕ → Option ℕ)). PlaceHas lawful key (z.0 b) (z.1 b) (get_elem? s.homes (slot_of b q))) (λ c. (sym t.1 c, sym t.2 c)) (h.each_place q b l e);
        },
        leads,
        refl,
      )
    where
      quiet : (x : World) (owners : Owners) (j other r i nv : ℕ) → (owners.note_seat i ≢ j) → (role : Role) → RoleFits (moved x r (told_reader nv)) owners j role → RoleFits (record (moved x r (told_reader nv)) { notes = replaced_at x.notes i None }) owners j role
      quiet x owners j other r i nv far Spent k = tt
      quiet x owners j other r i nv far (Reader q o) k = k
      quiet x owners j other r i nv far (Control d) k = record { its_seat = k.its_seat; readers_are = k.readers_are; version_is = k.version_is; passed_are = k.passed_are; scans_are = k.scans_are; found_is = k.found_is; made_are = k.made_are; opened_are = k.opened_are; unopened = k.unopened; ended_fit = ended_beside (moved x r (told_reader nv)) (record (moved x r (told_reader nv)) { notes = replaced_at x.notes i None }) owners refl d.ended k.ended_fit; once = k.once; done_is = k.done_is; booked_are = k.booked_are; numbers_low = k.numbers_low; tally_fits = k.tally_fits }
      quiet x owners j other r i nv far (Note a b) k = (k.0, replaced_at_else x.notes i a None (λ e. far (ap owners.note_seat (sym e) ∙ k.2)) ∙ k.1, k.2)

  -- the control takes a reader's seat in: nothing in the world changes
  pub ends : (id : ℕ) (v : View Q) (d : ControlOwn) (other : ℕ) (u : View Q) (r : ℕ) (o : Own) (spent : View Q) → v.role ≡ Control d → u.role ≡ Reader r o → o.phase ≡ Idle → spent.role ≡ Spent
      → JoinFollows K G lawful names key id v other u (record v { role = Control (record d { ended = (r, o, u.steps) ∷ d.ended }) }) spent (λ x. x) (λ es. es)
  ends id v d other u r o spent is reads out gone s h at apart there =
      let x = h.world in
      let owners = h.owners in
      let both : View Q = record v { role = Control (record d { ended = (r, o, u.steps) ∷ d.ended }) } in
      let at' : get_elem? s.views other ≡ some u = sym (set_else s.views id other both apart) ∙ there in
      let say = fits_at K G two lawful names key s h id v (Control d) is at in
      let k = say.1 in
      let reads_so = fits_at K G two lawful names key s h other u (Reader r o) reads at' in
      let reader_fits = reads_so.1 in
      let ms : List Made = history K G x.readers h.events in
      let part = say.2 in
      let early = reader_fits.3 in
      let owners' : Owners = record owners { ended = replaced_at owners.ended r true } in
      let more : (q : ℕ) → owners.ended q ≡ true → owners'.ended q ≡ true = replaced_at_all (λ q t. owners.ended q ≡ true → t ≡ true) owners.ended r true (λ _. refl) (λ q _ t. t) in (
        record {
          world = x;
          owners = owners';
          events = h.events;
          ran = h.ran;
          sound = h.sound;
          few = h.few;
          low = h.low;
          wide = h.wide;
          deep = h.deep;
          cur_is = h.cur_is;
          ann_is = h.ann_is;
          word_is = h.word_is;
          names_are = h.names_are;
          each_view = views_after K G two lawful names key (λ j z. Says key x owners' ms j z) (set s.views id both) other spent
              (subst (λ (z : Role). KeyFits z (spent.key ≡ key) × RoleFits x owners' other z × PartFits ms z spent.steps) (sym gone) (tt, tt, tt))
              (λ j z far it. views_after K G two lawful names key (λ j z. j ≢ other → Says key x owners' ms j z) s.views id both
              (λ _. (
                say.0,
                record { its_seat = k.its_seat; readers_are = k.readers_are; version_is = k.version_is; passed_are = k.passed_are; scans_are = k.scans_are; found_is = k.found_is; made_are = k.made_are; opened_are = k.opened_are; unopened = (λ q l. ((k.unopened q l).0, replaced_at_else owners.ended r q true (λ e. omega arith) ∙ (k.unopened q l).1)); ended_fit = (replaced_at_here owners.ended r r true refl, reader_fits.2, out, ended_more x owners owners' more d.ended k.ended_fit); once = (reader_fits.0, not_among x owners r reader_fits.4 d.ended k.ended_fit, k.once); done_is = k.done_is; booked_are = k.booked_are; numbers_low = k.numbers_low; tally_fits = tally_more x.word_at d.readers (length d.ended) (length ((r, o, u.steps) ∷ d.ended)) d.tallied (omega arith) k.tally_fits },
                (part.0, part.1, (reads_so.2, part.2)),
              ))
              (λ j z far it apart'. let b = h.each_view j z it in (b.0, go x owners j other id r reader_fits.1 k.its_seat apart' far z.role b.1, b.2)) j z it far);
          each_place = h.each_place;
        },
        refl,
        refl,
      )
    where
      go : (x : World) (owners : Owners) (j other id r : ℕ) → owners.reader_seat r ≡ other → id ≡ owners.control_seat → j ≢ other → j ≢ id → (role : Role) → RoleFits x owners j role → RoleFits x (record owners { ended = replaced_at owners.ended r true }) j role
      go x owners j other id r its mine far apart Spent k = tt
      go x owners j other id r its mine far apart (Reader q o) k = (k.0, k.1, k.2, k.3, replaced_at_else owners.ended r q true (λ e. far (sym k.1 ∙ (ap owners.reader_seat e ∙ its))) ∙ k.4)
      go x owners j other id r its mine far apart (Control d) k = absurd (apart (k.its_seat ∙ sym mine))
      go x owners j other id r its mine far apart (Note i v) k = k

  -- the same, as the table asks for them
  pub opens_at : (id : ℕ) (v : View Q) (d : ControlOwn) → v.role ≡ Control d → d.opened < d.readers → Splits Rule id v (in_role seating v) (as_new seated v)
  opens_at id v d is more s h at = (opens id v d is more s h at).0

  pub tells_at : (id : ℕ) (v : View Q) (d : ControlOwn) → v.role ≡ Control d → Splits Rule id v (telling_view v) (as_new noted v)
  tells_at id v d is s h at = (tells id v d is s h at).0

  pub learns_at : (id : ℕ) (v : View Q) (r : ℕ) (o : Own) (other : ℕ) (u : View Q) (i nv : ℕ) (spent : View Q) → v.role ≡ Reader r o → o.phase ≡ Idle → u.role ≡ Note i nv → spent.role ≡ Spent
      → Joins Rule id v other u (learnt_view v u) spent
  learns_at id v r o other u i nv spent is out note gone =
      let join : Joins Rule id v other u (view v.key (Reader r (told_own nv o)) (v.steps ++ record { at = 0; event = event.Join r i; number = nv } ∷ [])) spent = λ s h at apart there. (learns id v r o other u i nv spent is out note gone s h at apart there).0 in
      subst (λ (z : Role × Role). Joins Rule id v other u (record { key = v.key; role = learnt z.0 z.1; steps = v.steps ++ learning_step z.0 z.1 ∷ [] }) spent) (λ c. (sym is c, sym note c)) join

  pub ends_at : (id : ℕ) (v : View Q) (d : ControlOwn) (other : ℕ) (u : View Q) (r : ℕ) (o : Own) (spent : View Q) → v.role ≡ Control d → u.role ≡ Reader r o → o.phase ≡ Idle → spent.role ≡ Spent
      → Joins Rule id v other u (ending_view v u) spent
  ends_at id v d other u r o spent is reads out gone =
      let join : Joins Rule id v other u (record v { role = Control (record d { ended = (r, o, u.steps) ∷ d.ended }) }) spent = λ s h at apart there. (ends id v d other u r o spent is reads out gone s h at apart there).0 in
      subst (λ (z : Role × Role). Joins Rule id v other u (record v { role = ending z.0 z.1 u.steps }) spent) (λ c. (sym is c, sym reads c)) join
