-- Each step of the control's seat keeps the rule of the table, and takes the shown world where its event takes it.
use Rattle.std.proofs.Common.{◌≡◌, ◌≢◌, ℕ, zero, suc, ◌+◌, ◌*◌, ◌%◌, ◌<◌, ◌≤◌, Bool, true, false, true≢false, if◌then◌else◌, List, [], ◌∷◌, ◌++◌, length, get_or, set, Option, Some, refl, sym, ap, ◌∙◌, subst, arith, nat_lt, length-set, get_or-set_other, get_or-set_same}
use Rattle.std.proofs.lemmas.Bool.Decides.{nat_tests}
use mathlib.Core.Logic.{dite}
use mathlib.Core.Option.{none, some}
use mathlib.Core.Option as maybe
use native.Mathlib.Decide.{ℕ_discrete}
use lib.ListN.{get_elem?}
use lib.Seq.{set-get_or}
use Rattle.std.proofs.Math.Nat.{mod-lt}
use Rattle.atomic_table.specs.Table.{State, Act, keeps, takes, gives, chain, stepped, rest, put_back, homes_after, carried_after, Valid, Allows}
use Rattle.atomic_table.proofs.Lists.{set_here, set_else}
use Rattle.epoch_core.specs.declared.event.Event.{Event}
use Rattle.epoch_core.specs.declared.event.Event.TheVariants as event
use Rattle.epoch_core.specs.declared.view.ControlOwn.{ControlOwn}
use Rattle.epoch_core.specs.declared.view.Made.{Made}
use Rattle.epoch_core.specs.declared.view.Phase.{Phase}
use Rattle.epoch_core.specs.declared.view.Phase.TheVariants.{Idle, Standing, Holding}
use Rattle.epoch_core.specs.declared.view.Role.{Role}
use Rattle.epoch_core.specs.declared.view.Role.TheVariants.{Spent, Reader, Control, Note}
use Rattle.epoch_core.specs.declared.view.View.{View}
use Rattle.epoch_core.specs.World as w
use Rattle.epoch_core.specs.World.{World, Spot, home, control, opening, word_value}
use Rattle.epoch_core.specs.Step.{are_distinct, each_among, all_passed, may_pass, passed_reader, scanned_reader, enabled, effect, step, run}
use Rattle.epoch_core.specs.Sound.{Sound, PhaseFits, ReaderSound}
use Rattle.epoch_core.specs.Rule.{Ended, slot_of, Owners, EndedFit, RoleFits, PartFits, PlaceHas, EpochRule, announcement_word, index_word}
use Rattle.epoch_core.specs.Follows.{Follows}
use Rattle.epoch_core.specs.Plays.{Mine, view, ControlGoes, scans, publishes, Each, StandsNext, scanned_control, published_control, filled_places}
use Rattle.epoch_core.specs.History.{OneMore, made_of, history, is_of_reader, is_of_control}
use Rattle.epoch_core.proofs.HistoryLemmas.{run_more, now_at, history_more, control_more, part_stays, Says, not_by_beside}
use Rattle.epoch_core.proofs.ReaderLemmas.{replaced_at_here, replaced_at_else, replaced_at_all, kept, passed_phase_fits, not_next_bank, scanned_reader_kept}
use Rattle.epoch_core.proofs.ReaderSteps.{views_after, fits_at, lt_is, takes_effect, allows}
use Rattle.epoch_core.proofs.SlotLemmas.{gives_all, back, back_length, back_else, back_here, back_valid, back_carried}
use Rattle.epoch_core.proofs.WorldLemmas.{effect_sound}

pub lt_zero : (r : ℕ) → false ≡ nat_lt r 0
lt_zero r = grind (arith, nat_tests)

lt_more : (q r : ℕ) → q ≢ r → nat_lt q r ≡ nat_lt q (r + 1)
lt_more q r n = grind (arith, nat_tests)

lt_here : (r : ℕ) → true ≡ nat_lt r (r + 1)
lt_here r = grind (arith, nat_tests)

not_below : (r : ℕ) → nat_lt r r ≡ false
not_below r = grind (arith, nat_tests)

pub all_passed_is : (f : ℕ → w.Reader) (n : ℕ) → ((r : ℕ) → r < n → (f r).passed ≡ true) → all_passed f n ≡ true
all_passed_is f zero h = refl
all_passed_is f (suc n) h = rw (h n (omega arith)) (all_passed_is f n (λ r l. h r (omega arith)))

may_publish : (K G : ℕ) (x : World) (m : List (ℕ × ℕ)) → all_passed x.reader_at x.readers ≡ true → are_distinct m ≡ true → each_among m (x.pairs_at x.cur) x.done ≡ true → enabled K G x (event.Publish m) ≡ true
may_publish K G x m passed distinct old = rw (passed, distinct, old) refl

may_scan : (K G : ℕ) (x : World) (r : ℕ) → r < x.readers → (x.reader_at r).passed ≡ false → enabled K G x (event.Scan r) ≡ true
may_scan K G x r l unpassed = rw (lt_is r x.readers l, unpassed) refl

-- a reader announces no version after the published one
ann_low : (K cur : ℕ) (y : w.Reader) → ReaderSound K cur y → y.ann ≤ cur + 1
ann_low K cur y s = go y.own.phase s.phase
  where
    go : (p : Phase) → PhaseFits K cur y.ann y.own.seen y.passed p → y.ann ≤ cur + 1
    go Idle f = let e : y.ann ≡ 0 = f in omega arith
    go (Standing a) f = let o = s.order in omega arith
    go (Holding a v) f = let o = s.order in omega arith

-- the readers that have ended stay as they are when the control moves
pub ended_fit_still : (x x' : World) (owners : Owners) → ((r : ℕ) → (x'.reader_at r).own ≡ (x.reader_at r).own) → (ps : List Ended) → EndedFit x owners ps → EndedFit x' owners ps
ended_fit_still x x' owners own [] k = tt
ended_fit_still x x' owners own (p ∷ ps) k = (k.0, own p.0 ∙ k.1, k.2, ended_fit_still x x' owners own ps k.3)

module _ {Q C : Type 0} (K G : ℕ) (two : 2 ≤ K) (lawful : Q → ℕ → C → Type 0) (names : Q → ℕ → List (ℕ × ℕ)) (key : Q) where
  abbrev St : Type 0
  St = State (Option C) (View Q)

  abbrev Homes : Type 0
  Homes = List (maybe.Option (Option C))

  abbrev Rule : St → Type 0
  Rule = EpochRule K G lawful names key

  -- what another seat knows stays when the control moves
  others_fit_still : (x x' : World) (owners : Owners) (j : ℕ) → x'.readers ≡ x.readers → ((r : ℕ) → (x'.reader_at r).own ≡ (x.reader_at r).own) → x'.made ≡ x.made → x'.notes ≡ x.notes → j ≢ owners.control_seat → (role : Role) → RoleFits x owners j role → RoleFits x' owners j role
  others_fit_still x x' owners j n own made notes other Spent k = tt
  others_fit_still x x' owners j n own made notes other (Reader q o) k = (subst (λ z. q < z) (sym n) k.0, k.1, own q ∙ k.2, k.3, k.4)
  others_fit_still x x' owners j n own made notes other (Control d) k = absurd (other k.its_seat)
  others_fit_still x x' owners j n own made notes other (Note i v) k = (subst (λ z. i < z) (sym made) k.0, ap (λ (f : ℕ → Option ℕ). f i) notes ∙ k.1, k.2)

  -- a step of the control, by the event e, to the world x'
  pub control_step : (s : St) (h : Rule s) (e : Event) (x' : World) (b d : ControlOwn) (l : List Made) (words' : List ℕ) (homes' : Homes) (id : ℕ) → id ≡ h.owners.control_seat → PartFits (history K G h.world.readers h.events) (Control b) l → d.opened ≡ b.opened → d.ended ≡ b.ended
      → enabled K G h.world e ≡ true → effect K h.world e ≡ x' → is_of_control e ≡ true → ((r : ℕ) → is_of_reader r e ≡ false)
      → x'.readers ≡ h.world.readers → ((r : ℕ) → (x'.reader_at r).own ≡ (h.world.reader_at r).own) → x'.made ≡ h.world.made → x'.notes ≡ h.world.notes
      → Sound K G x' → x'.cur < 4294967296 → length words' ≡ 1040 + (G + 1) → length homes' ≡ 512 * K → get_or words' 0 0 ≡ x'.cur → ((r : ℕ) → r < x'.readers → get_or words' (announcement_word r) 0 ≡ (x'.reader_at r).ann)
      → ((i : ℕ) → i ≤ G → get_or words' (index_word i) 0 ≡ word_value (x'.word_at i)) → ((u : ℕ) → u ≤ x'.cur → x'.pairs_at u ≡ names key u)
      → ((r b : ℕ) → r < x'.readers → b < K → PlaceHas lawful key ((x'.reader_at r).spot b) ((x'.reader_at r).held b) (get_elem? homes' (slot_of b r)))
      → RoleFits x' h.owners id (Control d) → (v : View Q) → v ≡ view key (Control d) (l ++ made_of (now_at K G h.world.readers h.events) h.world e ∷ []) → (h' : Rule record { words = words'; homes = homes'; views = set s.views id v }) × (h'.world ≡ step K G h.world e) × (h'.events ≡ h.events ++ e ∷ [])
  control_step s h e x' b d l words' homes' id mine part opened ended on goes its not_reader readers own made notes sound low wide deep cur ann index_words named places fits v is =
      let x = h.world in
      let ms : List Made = history K G x.readers h.events in
      let m : Made = made_of (now_at K G x.readers h.events) x e in
      let ms' : List Made = history K G x'.readers (h.events ++ e ∷ []) in
      let grown : ms' ≡ ms ++ m ∷ [] = ap (λ n. history K G n (h.events ++ e ∷ [])) readers ∙ history_more K G x.readers h.events e x h.ran on in
      let leads : x' ≡ step K G x e = sym goes ∙ takes_effect K G x e on in (
        record {
          world = x';
          owners = h.owners;
          events = h.events ++ e ∷ [];
          ran = ap (λ n. run K G (opening n) (h.events ++ e ∷ [])) readers ∙ (run_more K G (opening x.readers) h.events e ∙ (ap (λ z. step K G z e) h.ran ∙ sym leads));
          sound = sound;
          few = subst (λ z. z ≤ 64) (sym readers) h.few;
          low = low;
          wide = wide;
          deep = deep;
          cur_is = cur;
          ann_is = ann;
          word_is = index_words;
          names_are = named;
          each_view = views_after K G two lawful names key (λ j u. Says key x' h.owners ms' j u) s.views id v
              (subst (λ (u : View Q). Says key x' h.owners ms' id u) (sym is) (refl, fits, subst (λ z. PartFits z (Control d) (l ++ m ∷ [])) (sym grown) (control_more ms m b d l opened ended its not_reader part)))
              (λ j u other at. let k = h.each_view j u at in
              let apart : j ≢ h.owners.control_seat = λ i. other (i ∙ sym mine) in
              (k.0, others_fit_still x x' h.owners j readers own made notes apart u.role k.1, subst (λ z. PartFits z u.role u.steps) (sym grown) (part_stays ms m u.role u.steps (not_by_beside x h.owners j e apart not_reader u.role k.1) k.2)));
          each_place = places;
        },
        leads,
        refl,
      )

  pub control_goes : (m m' : Mine Q C) (d : ControlOwn) (next : ControlOwn → ControlOwn) (also : ControlOwn → Type 0) → m.0.role ≡ Control d → m'.0 ≡ view m.0.key (Control (next d)) m'.0.steps → also d → ControlGoes m m' next also
  control_goes m m' d next also is now a u is' =
      let e : d ≡ u = cc in
      (subst (λ (z : ControlOwn). m'.0 ≡ view m.0.key (Control (next z)) m'.0.steps) e now, subst also e a)

  -- a scan of the reader d.passed, which becomes y', where the slots are then homes'
  scan_step : (s : St) (h : Rule s) (id : ℕ) (me : Mine Q C) (d : ControlOwn) (homes' : Homes) (passed' : ℕ) (y' : w.Reader) → me.0.key ≡ key → RoleFits h.world h.owners id (Control d) → PartFits (history K G h.world.readers h.events) (Control d) me.0.steps → d.passed < d.readers
      → scanned_reader K h.world.cur (h.world.reader_at d.passed) ≡ y' → y'.own ≡ (h.world.reader_at d.passed).own → y'.ann ≡ (h.world.reader_at d.passed).ann → length homes' ≡ length s.homes
      → ((b : ℕ) → b < K → PlaceHas lawful key (y'.spot b) (y'.held b) (get_elem? homes' (slot_of b d.passed)))
      → ((q b : ℕ) → q < 64 → q ≢ d.passed → get_elem? homes' (slot_of b q) ≡ get_elem? s.homes (slot_of b q))
      → y'.passed ≡ nat_lt d.passed passed' → ((q : ℕ) → q ≢ d.passed → nat_lt q d.passed ≡ nat_lt q passed')
      → (h' : Rule record { words = set s.words (announcement_word d.passed) (get_or s.words (announcement_word d.passed) 0); homes = homes'; views = set s.views id (view me.0.key (Control (record d { scans = d.scans + 1; found = (d.passed, get_or s.words (announcement_word d.passed) 0); passed = passed' })) (me.0.steps ++ made_of (now_at K G h.world.readers h.events) h.world (event.Scan d.passed) ∷ [])) })
      × (h'.world ≡ step K G h.world (event.Scan d.passed)) × (h'.events ≡ h.events ++ event.Scan d.passed ∷ [])
  scan_step s h id me d homes' passed' y' same k part more is own ann deep here else_ mark marks =
      let x = h.world in
      let r : ℕ = d.passed in
      let y = x.reader_at r in
      let n : ℕ = get_or s.words (announcement_word r) 0 in
      let words = set-get_or s.words (announcement_word r) 0 in
      let counts : d.readers ≡ x.readers = k.readers_are in
      let inside : r < x.readers = omega arith in
      let few = h.few in
      let x' : World = effect K x (event.Scan r) in
      let unpassed : y.passed ≡ false = k.passed_are r inside ∙ not_below r in
      let word : n ≡ y.ann = h.ann_is r inside in
      let owns : (j : ℕ) → (x'.reader_at j).own ≡ (x.reader_at j).own = replaced_at_all (λ j z. z.own ≡ (x.reader_at j).own) x.reader_at r (scanned_reader K x.cur y) (ap (λ (z : w.Reader). z.own) is ∙ own) (λ j _. refl) in
      let l : List Made = me.0.steps ++ made_of (now_at K G x.readers h.events) x (event.Scan r) ∷ [] in
      control_step s h (event.Scan r) x' d (record d { scans = d.scans + 1; found = (r, n); passed = passed' }) me.0.steps (set s.words (announcement_word r) n) homes' id k.its_seat part refl refl (may_scan K G x r inside unpassed) refl refl (λ q. refl) refl owns refl refl
      (effect_sound K G two x (event.Scan r) h.sound (may_scan K G x r inside unpassed))
      h.low (length-set s.words (announcement_word r) n ∙ h.wide) (deep ∙ h.deep) (ap (λ ws. get_or ws 0 0) words ∙ h.cur_is)
      (replaced_at_all (λ j z. j < x.readers → get_or (set s.words (announcement_word r) n) (announcement_word j) 0 ≡ z.ann) x.reader_at r (scanned_reader K x.cur y)
      (λ l. ap (λ ws. get_or ws (announcement_word r) 0) words ∙ (word ∙ (sym ann ∙ ap (λ (z : w.Reader). z.ann) (sym is)))) (λ j _ l. ap (λ ws. get_or ws (announcement_word j) 0) words ∙ h.ann_is j l))
      (λ i l. ap (λ ws. get_or ws (index_word i) 0) words ∙ h.word_is i l) h.names_are
      (λ q b l e. replaced_at_all (λ j z. j < x.readers → PlaceHas lawful key (z.spot b) (z.held b) (get_elem? homes' (slot_of b j))) x.reader_at r (scanned_reader K x.cur y)
      (λ _. subst (λ (z : w.Reader). PlaceHas lawful key (z.spot b) (z.held b) (get_elem? homes' (slot_of b r))) (sym is) (here b e))
      (λ j a u. subst (PlaceHas lawful key ((x.reader_at j).spot b) ((x.reader_at j).held b)) (sym (else_ j b (omega arith) a)) (h.each_place j b u e)) q l) record { its_seat = k.its_seat; readers_are = k.readers_are; version_is = k.version_is; passed_are = replaced_at_all (λ j z. j < x.readers → z.passed ≡ nat_lt j passed') x.reader_at r (scanned_reader K x.cur y) (λ _. ap (λ (z : w.Reader). z.passed) is ∙ mark) (λ j a l. k.passed_are j l ∙ marks j a); scans_are = ap (λ (c : ℕ). c + 1) k.scans_are; found_is = (λ i. (r, word i)); made_are = k.made_are; opened_are = k.opened_are; unopened = (λ q l. (owns q ∙ (k.unopened q l).0, (k.unopened q l).1)); ended_fit = ended_fit_still x x' h.owners owns d.ended k.ended_fit; once = k.once; done_is = k.done_is; booked_are = k.booked_are; numbers_low = k.numbers_low; tally_fits = k.tally_fits }
      _ (ap (λ q. view q (Control (record d { scans = d.scans + 1; found = (r, n); passed = passed' })) l) same)

  pub scanning : (slots id : ℕ) (me : Mine Q C) (d : ControlOwn) → me.0.role ≡ Control d → d.passed < d.readers → Follows K G lawful names key slots id me (announcement_word d.passed) (λ n. n) (scans lawful K me) (event.Scan d.passed)
  scanning slots id me d is more s h _ at _ =
      let x = h.world in
      let r : ℕ = d.passed in
      let y = x.reader_at r in
      let n : ℕ = get_or s.words (announcement_word r) 0 in
      let seen = fits_at K G two lawful names key s h id me.0 (Control d) is at in
      let k = seen.1 in
      let counts : d.readers ≡ x.readers = k.readers_are in
      let inside : r < x.readers = omega arith in
      let word : n ≡ y.ann = h.ann_is r inside in
      let sound = kept K x.cur y (h.sound.each_reader r inside) in
      let version : d.version ≡ x.cur = k.version_is in
      let few = h.few in let deep = h.deep in
      let t : ℕ = now_at K G x.readers h.events in
      let l : List Made = me.0.steps ++ made_of t x (event.Scan r) ∷ [] in
      let one : OneMore me.0.steps (event.Scan r) n l = (t + 1, λ i. me.0.steps ++ record { at = t + 1; event = event.Scan r; number = sym word i } ∷ []) in
      let b : ℕ = (x.cur + 1) % K in
      let i : ℕ = slot_of b r in
      let near : b < K = mod-lt (x.cur + 1) (omega arith) in
      let low : n ≤ d.version + 1 = let l = ann_low K x.cur y (h.sound.each_reader r inside) in omega arith in
      let test : may_pass K d.version n ≡ may_pass K x.cur y.ann = λ j. may_pass K (version j) (word j) in
      let unpassed : y.passed ≡ false = k.passed_are r inside ∙ not_below r in
      let go : (t : Bool) → may_pass K d.version n ≡ t → (v : View Q) × (a : Act (Option C)) × Valid s.homes me.1 a × ((h' : Rule (stepped s (announcement_word r) n id me.1 v a)) × (h'.world ≡ step K G x (event.Scan r)) × (h'.events ≡ h.events ++ event.Scan r ∷ [])) × scans lawful K me n (v, carried_after me.1 a) =
      λ t. elim t as (λ t. may_pass K d.version n ≡ t → (v : View Q) × (a : Act (Option C)) × Valid s.homes me.1 a × ((h' : Rule (stepped s (announcement_word r) n id me.1 v a)) × (h'.world ≡ step K G x (event.Scan r)) × (h'.events ≡ h.events ++ event.Scan r ∷ [])) × scans lawful K me n (v, carried_after me.1 a)) [
        | true ↦ λ e.
            let pass = sym test ∙ e in
            let free : y.spot b ≡ home = sound.at_home b near (λ z. not_next_bank K x.cur y two sound b y.own.phase (passed_phase_fits K x.cur y two sound y.own.phase refl pass) z refl) (λ z. true≢false (sym z.0 ∙ unpassed)) in
            let it : PlaceHas lawful key home (y.held b) (get_elem? s.homes i) = subst (λ z. PlaceHas lawful key z (y.held b) (get_elem? s.homes i)) free (h.each_place r b inside near) in
            let homes' : Homes = set s.homes i none in
            let stands : StandsNext lawful K me.0.key d.version it.0 = subst (λ (u : Q × ℕ). StandsNext lawful K u.0 u.1 it.0) (λ j. (sym seen.0 j, sym version j)) (y.held b, sound.versions b near, it.2) in
            let d' : ControlOwn = record d { scans = d.scans + 1; found = (r, n); passed = r + 1 } in
            let v : View Q = view me.0.key (Control d') l in
            let own_is : d' ≡ scanned_control K n d = ap (λ (t : Bool). let u : ControlOwn = record d { scans = d.scans + 1; found = (r, n); passed = if t then r + 1 else r } in u) (sym e) in (
              v,
              takes i it.0,
              it.1,
              scan_step s h id me d homes' (r + 1) (passed_reader K x.cur y) seen.0 k seen.2 more (ap (λ (t : Bool). if t then passed_reader K x.cur y else y) pass) refl refl (length-set s.homes i none)
                  (λ c m. replaced_at_all (λ j t. j < K → PlaceHas lawful key t (y.held j) (get_elem? homes' (slot_of j r))) y.spot b control (λ _. set_here s.homes i none (omega arith))
                  (λ j a l. subst (PlaceHas lawful key (y.spot j) (y.held j)) (sym (set_else s.homes i (slot_of j r) none (λ e. a (omega arith)))) (h.each_place r j inside l)) c m)
                  (λ q c l a. set_else s.homes i (slot_of c q) none (λ e. a (omega arith))) (lt_here r) (λ q a. lt_more q r a),
              control_goes me (v, (i, it.0) ∷ me.1) d (scanned_control K n) _ is (ap (λ (u : ControlOwn). view me.0.key (Control u) l) own_is)
                  (low, (λ _. (it.0, (λ t. (slot_of ((sym version t + 1) % K) r, it.0) ∷ me.1), stands)), (λ f. absurd (true≢false (sym e ∙ f))), one),
            )
        | false ↦ λ e.
            let pass = sym test ∙ e in
            let d' : ControlOwn = record d { scans = d.scans + 1; found = (r, n); passed = r } in
            let v : View Q = view me.0.key (Control d') l in
            let own_is : d' ≡ scanned_control K n d = ap (λ (t : Bool). let u : ControlOwn = record d { scans = d.scans + 1; found = (r, n); passed = if t then r + 1 else r } in u) (sym e) in (
              v,
              keeps,
              tt,
              scan_step s h id me d s.homes r y seen.0 k seen.2 more (ap (λ (t : Bool). if t then passed_reader K x.cur y else y) pass) refl refl refl (λ c m. h.each_place r c inside m) (λ q c l a. refl) (k.passed_are r inside) (λ q a. refl),
              control_goes me (v, me.1) d (scanned_control K n) _ is (ap (λ (u : ControlOwn). view me.0.key (Control u) l) own_is) (low, (λ f. absurd (true≢false (sym f ∙ e))), (λ _. refl), one),
            )
      ] in
      go (may_pass K d.version n) refl

  pub publishing : (slots id : ℕ) (me : Mine Q C) (d : ControlOwn) (cs : List C) → me.0.role ≡ Control d → d.passed ≡ d.readers → me.1 ≡ filled_places ((d.version + 1) % K) 0 cs → length cs ≡ d.readers
      → Each (lawful me.0.key (d.version + 1)) cs → d.version + 1 < 4294967296
      → are_distinct (names me.0.key (d.version + 1)) ≡ true → each_among (names me.0.key (d.version + 1)) (names me.0.key d.version) d.done ≡ true → Follows K G lawful names key slots id me 0 (λ _. d.version + 1) (λ _ m'. publishes names me m') (event.Publish (names me.0.key (d.version + 1)))
  publishing slots id me d cs is all hands count fair low distinct old s h _ at _ =
      let x = h.world in
      let n : ℕ = d.version + 1 in
      let seen = fits_at K G two lawful names key s h id me.0 (Control d) is at in
      let k = seen.1 in
      let counts : d.readers ≡ x.readers = k.readers_are in
      let version : d.version ≡ x.cur = k.version_is in
      let few = h.few in
      let deep = h.deep in
      let wide = h.wide in
      let b : ℕ = (d.version + 1) % K in
      let b' : ℕ = (x.cur + 1) % K in
      let same_bank : b' ≡ b = ap (λ (v : ℕ). (v + 1) % K) (sym version) in
      let near : b < K = mod-lt (d.version + 1) (omega arith) in
      let passed : (r : ℕ) → r < x.readers → (x.reader_at r).passed ≡ true = λ r l. k.passed_are r l ∙ lt_is r d.passed (omega arith) in
      let m : List (ℕ × ℕ) = names me.0.key n in
      let x' : World = effect K x (event.Publish m) in
      let named : x.pairs_at x.cur ≡ names me.0.key d.version = h.names_are x.cur (omega arith) ∙ (λ i. names (sym seen.0 i) (sym version i)) in
      let old' : each_among m (x.pairs_at x.cur) x.done ≡ true = subst (λ (z : List (ℕ × ℕ) × List (ℕ × ℕ)). each_among m z.0 z.1 ≡ true) (λ i. (sym named i, k.done_is i)) old in
      let on : enabled K G x (event.Publish m) ≡ true = may_publish K G x m (all_passed_is x.reader_at x.readers passed) distinct old' in
      let homes' : Homes = back s.homes b 0 cs in
      let t : ℕ = now_at K G x.readers h.events in
      let l : List Made = me.0.steps ++ made_of t x (event.Publish m) ∷ [] in
      let v : View Q = view me.0.key (Control (published_control d)) l in
      let fair' : Each (lawful key (x.cur + 1)) cs = subst (λ (u : Q × ℕ). Each (lawful u.0 u.1) cs) (λ i. (seen.0 i, version i + 1)) fair in
      let room : slot_of b (0 + length cs) ≤ length s.homes = omega arith in
      let done = control_step s h (event.Publish m) x' d (published_control d) me.0.steps (set s.words 0 n) homes' id k.its_seat seen.2 refl refl on refl refl (λ r. refl) refl (λ r. refl) refl refl (effect_sound K G two x (event.Publish m) h.sound on) (omega arith)
      (length-set s.words 0 n ∙ wide) (back_length s.homes b 0 cs ∙ deep) (get_or-set_same s.words 0 n 0 (omega arith) ∙ ap (λ (c : ℕ). c + 1) version)
      (λ r l. get_or-set_other s.words 0 (announcement_word r) n 0 (λ e. omega arith) ∙ h.ann_is r l)
      (λ i l. get_or-set_other s.words 0 (index_word i) n 0 (λ e. omega arith) ∙ h.word_is i l)
      (replaced_at_all (λ u cs. u ≤ x.cur + 1 → cs ≡ names key u) x.pairs_at (x.cur + 1) m (λ _ i. names (seen.0 i) (version i + 1)) (λ u a l. h.names_are u (omega arith)))
      (λ r c l m. let y = x.reader_at r in dite (ℕ_discrete c b')
      (λ e. subst (λ (u : Spot × Option ℕ). PlaceHas lawful key u.0 u.1 (get_elem? homes' (slot_of c r))) (λ i. (sym (replaced_at_here y.spot b' c home e) i, sym (replaced_at_here y.held b' c (Some (x.cur + 1)) e) i))
      (let got = back_here (lawful key (x.cur + 1)) s.homes b 0 cs r (omega arith) (omega arith) room fair' in
      (Some got.0, ap (λ (z : ℕ). get_elem? homes' (slot_of z r)) (e ∙ same_bank) ∙ got.1, (got.0, refl, got.2))))
      (λ e. subst (λ (u : Spot × Option ℕ). PlaceHas lawful key u.0 u.1 (get_elem? homes' (slot_of c r))) (λ i. (sym (replaced_at_else y.spot b' c home e) i, sym (replaced_at_else y.held b' c (Some (x.cur + 1)) e) i))
      (subst (PlaceHas lawful key (y.spot c) (y.held c)) (sym (back_else s.homes b 0 cs (slot_of c r) (λ q _ u z. e (omega arith)))) (h.each_place r c l m))))
      record { its_seat = k.its_seat; readers_are = k.readers_are; version_is = ap (λ (c : ℕ). c + 1) version; passed_are = (λ r l. lt_zero r); scans_are = k.scans_are; found_is = k.found_is; made_are = k.made_are; opened_are = k.opened_are; unopened = k.unopened; ended_fit = ended_fit_still x x' h.owners (λ r. refl) d.ended k.ended_fit; once = k.once; done_is = refl; booked_are = k.booked_are; numbers_low = k.numbers_low; tally_fits = k.tally_fits } v (ap (λ q. view q (Control (published_control d)) l) seen.0) in (
        v,
        gives_all cs,
        back_valid s.homes me.1 cs,
        subst (λ (ls : List (ℕ × Option C)). (h' : Rule (stepped s 0 n id ls v (gives_all cs))) × (h'.world ≡ step K G x (event.Publish m)) × (h'.events ≡ h.events ++ event.Publish m ∷ [])) (sym hands) done,
        (subst (λ (ls : List (ℕ × Option C)). carried_after ls (gives_all cs) ≡ []) (sym hands) (back_carried b 0 cs), control_goes me (v, carried_after me.1 (gives_all cs)) d published_control (λ u. OneMore me.0.steps (event.Publish (names me.0.key (u.version + 1))) (u.version + 1) l) is refl (t + 1, λ i. me.0.steps ++ record { at = t + 1; event = event.Publish m; number = sym version i + 1 } ∷ [])),
      )

  -- the steps, as the table asks for them, where the word and the operand are equal to those above
  pub scanning_at : (slots id i : ℕ) (me : Mine Q C) (d : ControlOwn) → me.0.role ≡ Control d → d.passed < d.readers → i ≡ announcement_word d.passed → Allows Rule slots id me i (λ n. n) (scans lawful K me)
  scanning_at slots id i me d is more e =
      subst (λ (u : ℕ). Allows Rule slots id me u (λ n. n) (scans lawful K me)) (sym e) (allows K G two lawful names key slots id me (announcement_word d.passed) (λ n. n) (scans lawful K me) (event.Scan d.passed) (scanning slots id me d is more))

  pub publishing_at : (slots id n : ℕ) (me : Mine Q C) (d : ControlOwn) (cs : List C) (b : ℕ) → me.0.role ≡ Control d → d.passed ≡ d.readers → me.1 ≡ filled_places b 0 cs → length cs ≡ d.readers
      → Each (lawful me.0.key n) cs → n < 4294967296 → are_distinct (names me.0.key n) ≡ true → each_among (names me.0.key n) (names me.0.key d.version) d.done ≡ true → n ≡ d.version + 1 → b ≡ n % K → Allows Rule slots id me 0 (λ _. n) (λ _ m'. publishes names me m')
  publishing_at slots id n me d cs b is all hands count fair low distinct old e f =
      subst (λ (u : ℕ). Allows Rule slots id me 0 (λ _. u) (λ _ m'. publishes names me m')) (sym e)
      (allows K G two lawful names key slots id me 0 (λ _. d.version + 1) (λ _ m'. publishes names me m') (event.Publish (names me.0.key (d.version + 1)))
      (publishing slots id me d cs is all (hands ∙ ap (λ (z : ℕ). filled_places z 0 cs) (f ∙ ap (λ (z : ℕ). z % K) e)) count (subst (λ (u : ℕ). Each (lawful me.0.key u) cs) e fair) (subst (λ (u : ℕ). u < 4294967296) e low) (subst (λ (u : ℕ). are_distinct (names me.0.key u) ≡ true) e distinct) (subst (λ (u : ℕ). each_among (names me.0.key u) (names me.0.key d.version) d.done ≡ true) e old)))
