-- Where each reader and the control have a seat, a step that one seat has more found what its word held.
use Rattle.std.proofs.Common.{◌≡◌, ◌≢◌, ◌⊎◌, ℕ, zero, suc, ◌+◌, ◌<◌, ◌≤◌, Bool, true, false, if◌then◌else◌, List, [], ◌∷◌, ◌++◌, length, set, get_or, Option, refl, sym, ap, ◌∙◌, subst, inl, inr, ⊎_elim, arith}
use Rattle.std.specs.Prelude.{◌==◌, filter}
use Rattle.std.proofs.lemmas.Bool.{cases_lt}
use mathlib.Core.Logic.{dite}
use mathlib.Core.Option.{some, some-injective, some-ne-none}
use native.Mathlib.Decide.{ℕ_discrete}
use lib.ListN.{get_elem?}
use Rattle.atomic_table.specs.Table.{State}
use Rattle.atomic_table.proofs.Lists.{set_here, set_else}
use Rattle.epoch_core.specs.declared.event.Event.{Event}
use Rattle.epoch_core.specs.declared.event.Event.TheVariants.{Look, Announce, Enter, Leave, Scan, Publish, Split, Join, Hit, Reassign}
use Rattle.epoch_core.specs.declared.view.ControlOwn.{ControlOwn}
use Rattle.epoch_core.specs.declared.view.Made.{Made}
use Rattle.epoch_core.specs.declared.view.Own.{Own}
use Rattle.epoch_core.specs.declared.view.Role.{Role}
use Rattle.epoch_core.specs.declared.view.Role.TheVariants.{Spent, Reader, Control, Note}
use Rattle.epoch_core.specs.declared.view.View.{View}
use Rattle.epoch_core.specs.World as w
use Rattle.epoch_core.specs.World.{World, opening, word_value}
use Rattle.epoch_core.specs.Step.{enabled, effect, step, may_pass, looked_reader, announced_reader, entered_reader, left_reader, passed_reader, scanned_reader, told_reader, hit_reader}
use Rattle.std.specs.Prelude.{unwrap_or}
use Rattle.epoch_core.specs.History.{number_of, place_of, made_of, made, counted, history, is_of_reader, is_of_control, readers_part, controls_part}
use Rattle.epoch_core.specs.Rule.{EpochRule, announcement_word, index_word}
use Rattle.epoch_core.specs.Running.{AllSeated}
use Rattle.epoch_core.proofs.FoundLemmas.{In, Rising, in_front, in_last, in_part, of_part, made_rises, is_last, last, runs, found_is, found_last}
use Rattle.epoch_core.proofs.FoundWordLemmas.{of_end, one_more_of_part, is_on_word, on_word, value_of, value_still, value_moves, index_low, same_readers, scan_low, scanned_before}
use Rattle.epoch_core.proofs.HistoryLemmas.{is_mine, is_not_mine}
use Rattle.epoch_core.proofs.ReaderLemmas.{replaced_at_all}
use Rattle.epoch_core.proofs.ReaderSteps.{fits_at}
use Rattle.epoch_core.proofs.WorldLemmas.{both_true, below, opening_sound}

-- a reader's word is what its last announcement or leave stored
abbrev ann_of : ℕ → Event → ℕ → ℕ
ann_of a (Look q) k = a
ann_of a (Announce q) k = k
ann_of a (Enter q) k = a
ann_of a (Leave q) k = k
ann_of a (Scan q) k = a
ann_of a (Publish m) k = a
ann_of a Split k = a
ann_of a (Join q n) k = a
ann_of a (Hit q i) k = a
ann_of a (Reassign i p) k = a

ann_still : (n a : ℕ) (e : Event) (k : ℕ) → place_of n e ≡ 0 → ann_of a e k ≡ a
ann_still n a (Look q) k z = refl
ann_still n a (Announce q) k z = absurd (omega arith)
ann_still n a (Enter q) k z = refl
ann_still n a (Leave q) k z = absurd (omega arith)
ann_still n a (Scan q) k z = refl
ann_still n a (Publish m) k z = refl
ann_still n a Split k z = refl
ann_still n a (Join q i) k z = refl
ann_still n a (Hit q i) k z = refl
ann_still n a (Reassign i p) k z = refl

same_either : (b : Bool) (a : ℕ) → a ≡ (if b then a else a)
same_either true a = refl
same_either false a = refl

scanned_ann : (t : Bool) (K cur : ℕ) (x : w.Reader) → (if t then passed_reader K cur x else x).ann ≡ x.ann
scanned_ann true K cur x = refl
scanned_ann false K cur x = refl

ann_moves : (K G r : ℕ) (w : World) (e : Event) → enabled K G w e ≡ true → ((effect K w e).reader_at r).ann ≡ (if is_of_reader r e then ann_of (w.reader_at r).ann e (number_of w e) else (w.reader_at r).ann)
ann_moves K G r w (Look q) on = replaced_at_all (λ j y. y.ann ≡ (if q == j then (w.reader_at j).ann else (w.reader_at j).ann)) w.reader_at q (looked_reader w.cur (w.reader_at q)) (same_either _ _) (λ j n. same_either _ _) r
ann_moves K G r w (Announce q) on = replaced_at_all (λ j y. y.ann ≡ (if q == j then (w.reader_at q).own.last + 1 else (w.reader_at j).ann)) w.reader_at q (announced_reader (w.reader_at q)) (rw (is_mine q) refl) (λ j n. rw (is_not_mine q j n) refl) r
ann_moves K G r w (Enter q) on = replaced_at_all (λ j y. y.ann ≡ (if q == j then (w.reader_at j).ann else (w.reader_at j).ann)) w.reader_at q (entered_reader K w.cur (w.reader_at q)) (same_either _ _) (λ j n. same_either _ _) r
ann_moves K G r w (Leave q) on = replaced_at_all (λ j y. y.ann ≡ (if q == j then 0 else (w.reader_at j).ann)) w.reader_at q (left_reader K (w.reader_at q)) (rw (is_mine q) refl) (λ j n. rw (is_not_mine q j n) refl) r
ann_moves K G r w (Scan q) on = replaced_at_all (λ j y. y.ann ≡ (w.reader_at j).ann) w.reader_at q (scanned_reader K w.cur (w.reader_at q)) (scanned_ann (may_pass K w.cur (w.reader_at q).ann) K w.cur (w.reader_at q)) (λ j n. refl) r
ann_moves K G r w (Publish m) on = refl
ann_moves K G r w Split on = refl
ann_moves K G r w (Join q k) on = replaced_at_all (λ j y. y.ann ≡ (if q == j then (w.reader_at j).ann else (w.reader_at j).ann)) w.reader_at q (told_reader (unwrap_or (w.notes k) 0) (w.reader_at q)) (same_either _ _) (λ j n. same_either _ _) r
ann_moves K G r w (Hit q i) on = replaced_at_all (λ j y. y.ann ≡ (if q == j then (w.reader_at j).ann else (w.reader_at j).ann)) w.reader_at q (hit_reader (w.word_at i).number (w.reader_at q)) (same_either _ _) (λ j n. same_either _ _) r
ann_moves K G r w (Reassign i p) on = refl

-- the published version is what the last publish stored
abbrev cur_of : ℕ → Event → ℕ → ℕ
cur_of a (Look q) k = a
cur_of a (Announce q) k = a
cur_of a (Enter q) k = a
cur_of a (Leave q) k = a
cur_of a (Scan q) k = a
cur_of a (Publish m) k = k
cur_of a Split k = a
cur_of a (Join q n) k = a
cur_of a (Hit q i) k = a
cur_of a (Reassign i p) k = a

cur_still : (n a : ℕ) (e : Event) (k : ℕ) → place_of n e ≡ 0 → cur_of a e k ≡ a
cur_still n a (Look q) k z = refl
cur_still n a (Announce q) k z = refl
cur_still n a (Enter q) k z = refl
cur_still n a (Leave q) k z = refl
cur_still n a (Scan q) k z = refl
cur_still n a (Publish m) k z = absurd (omega arith)
cur_still n a Split k z = refl
cur_still n a (Join q i) k z = refl
cur_still n a (Hit q i) k z = refl
cur_still n a (Reassign i p) k z = refl

cur_moves : (K G : ℕ) (w : World) (e : Event) → enabled K G w e ≡ true → (effect K w e).cur ≡ (if is_of_control e then cur_of w.cur e (number_of w e) else w.cur)
cur_moves K G w (Look q) on = refl
cur_moves K G w (Announce q) on = refl
cur_moves K G w (Enter q) on = refl
cur_moves K G w (Leave q) on = refl
cur_moves K G w (Scan q) on = refl
cur_moves K G w (Publish m) on = refl
cur_moves K G w Split on = refl
cur_moves K G w (Join q k) on = refl
cur_moves K G w (Hit q i) on = refl
cur_moves K G w (Reassign i p) on = refl

-- the steps that a seat of this role makes
abbrev steps_of : Role → Event → Bool
steps_of Spent e = false
steps_of (Reader r o) e = is_of_reader r e
steps_of (Control d) e = is_of_control e
steps_of (Note k v) e = false

-- each step is the control's or some reader's
abbrev Someones : ℕ → Event → Type 0
Someones n e = (is_of_control e ≡ true) ⊎ ((q : ℕ) × (q < n) × (is_of_reader q e ≡ true))

someones : (K G : ℕ) (w : World) (e : Event) → enabled K G w e ≡ true → Someones w.readers e
someones K G w (Look q) on = let b = both_true _ _ on in inr (q, below _ _ b.0, is_mine q)
someones K G w (Announce q) on = let b = both_true _ _ on in inr (q, below _ _ b.0, is_mine q)
someones K G w (Enter q) on = let b = both_true _ _ on in inr (q, below _ _ b.0, is_mine q)
someones K G w (Leave q) on = let b = both_true _ _ on in inr (q, below _ _ b.0, is_mine q)
someones K G w (Scan q) on = inl refl
someones K G w (Publish m) on = inl refl
someones K G w Split on = inl refl
someones K G w (Join q k) on = let b = both_true _ _ on in let c = both_true _ _ b.0 in let d = both_true _ _ c.0 in inr (q, below _ _ d.0, is_mine q)
someones K G w (Hit q i) on = let b = both_true _ _ on in let c = both_true _ _ b.0 in let d = both_true _ _ c.0 in inr (q, below _ _ d.0, is_mine q)
someones K G w (Reassign i p) on = inl refl

by_someone : (K G n : ℕ) (w : World) (es : List Event) (x : Made) → In x (made K G n w es) → Someones w.readers x.event
by_someone K G n w [] x has = absurd has
by_someone K G n w (e ∷ es) x has = go (enabled K G w e) refl has (λ h. by_someone K G (counted n e) (step K G w e) es x h) (λ h. by_someone K G n (step K G w e) es x h)
  where
    go : (t : Bool) → enabled K G w e ≡ t → In x (if t then made_of n w e ∷ made K G (counted n e) (step K G w e) es else made K G n (step K G w e) es)
        → (In x (made K G (counted n e) (step K G w e) es) → Someones (step K G w e).readers x.event) → (In x (made K G n (step K G w e) es) → Someones (step K G w e).readers x.event) → Someones w.readers x.event
    go true on (inl is) a b = subst (λ z. Someones w.readers z) (sym (ap (λ (z : Made). z.event) is)) (someones K G w e on)
    go true on (inr h) a b = subst (λ z. Someones z x.event) (same_readers K G w e) (a h)
    go false off h a b = subst (λ z. Someones z x.event) (same_readers K G w e) (b h)

placed : (n : ℕ) (ms : List Made) → Rising n ms → (x : Made) → In x ms → ((k : ℕ) → place_of k x.event ≡ k + 1) → x.at ≢ 0
placed n [] up x has on z = absurd has
placed n (m ∷ ms) up x (inl e) on z = let at : x.at ≡ m.at = ap (λ (y : Made). y.at) e in let place = up.0 in let word : place_of n m.event ≡ n + 1 = ap (λ (y : Made). place_of n y.event) (sym e) ∙ on n in absurd (omega arith)
placed n (m ∷ ms) up x (inr has) on z = placed (counted n m.event) ms up.1 x has on z

some_below : {A : Type 0} (xs : List A) (i : ℕ) (x : A) → get_elem? xs i ≡ some x → i < length xs
some_below [] i x e = absurd (some-ne-none x (sym e))
some_below (y ∷ ys) zero x e = omega arith
some_below (y ∷ ys) (suc i) x e = let l = some_below ys i x e in omega arith

module _ {Q C : Type 0} (K G : ℕ) (two : 2 ≤ K) (lawful : Q → ℕ → C → Type 0) (names : Q → ℕ → List (ℕ × ℕ)) (key : Q)
    (s s' : State (Option C) (View Q)) (h : EpochRule K G lawful names key s) (h' : EpochRule K G lawful names key s') (seated : AllSeated h.world.readers s.views)
    (id : ℕ) (v v' : View Q) (there : get_elem? s.views id ≡ some v) (now : s'.views ≡ set s.views id v') where
  abbrev ms : List Made
  ms = history K G h.world.readers h.events

  abbrev ms' : List Made
  ms' = history K G h'.world.readers h'.events

  here : get_elem? s'.views id ≡ some v'
  here = ap (λ (l : List (View Q)). get_elem? l id) now ∙ set_here s.views id v' (some_below s.views id v there)

  same_view : (j : ℕ) (u : View Q) → get_elem? s.views j ≡ some u → j ≡ id → u ≡ v
  same_view j u at e = some-injective u v (sym at ∙ (ap (λ k. get_elem? s.views k) e ∙ there))

  still_there : (j : ℕ) (u : View Q) → get_elem? s.views j ≡ some u → j ≢ id → get_elem? s'.views j ≡ some u
  still_there j u at n = ap (λ (l : List (View Q)). get_elem? l j) now ∙ (set_else s.views id j v' n ∙ at)

  module _ (p0 : Event → Bool) (X : Made) (before : v.steps ≡ filter (λ m. p0 m.event) ms) (after : v'.steps ≡ filter (λ m. p0 m.event) ms') (one : v'.steps ≡ v.steps ++ X ∷ []) where
    seat_keeps : (x : Made) (p : Event → Bool) (j : ℕ) (u : View Q) → get_elem? s.views j ≡ some u → u.steps ≡ filter (λ m. p m.event) ms → (get_elem? s'.views j ≡ some u → u.steps ≡ filter (λ m. p m.event) ms') → p x.event ≡ true → In x ms → In x ms'
    seat_keeps x p j u at fits fits' is has =
        let knows : In x u.steps = subst (λ l. In x l) (sym fits) (in_part p x ms is has) in
        dite (ℕ_discrete j id)
        (λ e. (of_part p0 x ms' (subst (λ l. In x l) (sym one ∙ after) (in_front x v.steps (X ∷ []) (subst (λ (z : View Q). In x z.steps) (same_view j u at e) knows)))).0)
        (λ n. (of_part p x ms' (subst (λ l. In x l) (fits' (still_there j u at n)) knows)).0)

    kept_in : (x : Made) → In x ms → In x ms'
    kept_in x has = ⊎_elim
        (λ is. let c = seated.control in
        seat_keeps x is_of_control c.0 c.1 c.3 (fits_at K G two lawful names key s h c.0 c.1 (Control c.2) c.4 c.3).2.0 (λ at. (fits_at K G two lawful names key s' h' c.0 c.1 (Control c.2) c.4 at).2.0) is has)
        (λ r. let c = seated.reader r.0 r.1 in
        seat_keeps x (is_of_reader r.0) c.0 c.1 c.3 (fits_at K G two lawful names key s h c.0 c.1 (Reader r.0 c.2) c.4 c.3).2 (λ at. (fits_at K G two lawful names key s' h' c.0 c.1 (Reader r.0 c.2) c.4 at).2) r.2 has)
        (by_someone K G 0 (opening h.world.readers) h.events x has)

    in_ms' : In X ms' × (p0 X.event ≡ true)
    in_ms' = of_part p0 X ms' (subst (λ l. In X l) (sym one ∙ after) (in_last X v.steps))

    grown : filter (λ m. p0 m.event) ms' ≡ filter (λ m. p0 m.event) ms ++ X ∷ []
    grown = sym after ∙ (one ∙ ap (λ (l : List Made). l ++ X ∷ []) before)

    seat_had : (x : Made) (p : Event → Bool) (j : ℕ) (u : View Q) → get_elem? s.views j ≡ some u → u.steps ≡ filter (λ m. p m.event) ms → (get_elem? s'.views j ≡ some u → u.steps ≡ filter (λ m. p m.event) ms')
        → (j ≡ id → p0 x.event ≡ true) → p x.event ≡ true → In x ms' → In x ms ⊎ (x ≡ X)
    seat_had x p j u at fits fits' mine is has =
        dite (ℕ_discrete j id)
        (λ e. ⊎_elim (λ h. inl (of_part p0 x ms (subst (λ l. In x l) before h)).0) (λ same. inr same) (of_end x v.steps X (subst (λ l. In x l) (sym after ∙ one) (in_part p0 x ms' (mine e) has))))
        (λ n. inl (of_part p x ms (subst (λ l. In x l) (sym (fits' (still_there j u at n)) ∙ fits) (in_part p x ms' is has))).0)

    -- a step that is there after X was there before it, where there are as many readers
    had_in : ((e : Event) → steps_of v.role e ≡ p0 e) → h'.world.readers ≡ h.world.readers → (x : Made) → In x ms' → In x ms ⊎ (x ≡ X)
    had_in mine same x has = ⊎_elim
        (λ is. let c = seated.control in
        seat_had x is_of_control c.0 c.1 c.3 (fits_at K G two lawful names key s h c.0 c.1 (Control c.2) c.4 c.3).2.0 (λ at. (fits_at K G two lawful names key s' h' c.0 c.1 (Control c.2) c.4 at).2.0)
        (λ e. sym (mine x.event) ∙ (ap (λ z. steps_of z x.event) (sym (ap (λ (z : View Q). z.role) (same_view c.0 c.1 c.3 e)) ∙ c.4) ∙ is)) is has)
        (λ r. let l : r.0 < h'.world.readers = r.1 in
        let c = seated.reader r.0 (omega arith) in
        seat_had x (is_of_reader r.0) c.0 c.1 c.3 (fits_at K G two lawful names key s h c.0 c.1 (Reader r.0 c.2) c.4 c.3).2 (λ at. (fits_at K G two lawful names key s' h' c.0 c.1 (Reader r.0 c.2) c.4 at).2)
        (λ e. sym (mine x.event) ∙ (ap (λ z. steps_of z x.event) (sym (ap (λ (z : View Q). z.role) (same_view c.0 c.1 c.3 e)) ∙ c.4) ∙ r.2)) r.2 has)
        (by_someone K G 0 (opening h'.world.readers) h'.events x has)

    -- X, a step on an index word, found what the word held
    found_word : (i : ℕ) → ((e : Event) → steps_of v.role e ≡ p0 e) → h'.world.readers ≡ h.world.readers → is_on_word i X.event ≡ true → ((z : World) → number_of z X.event ≡ word_value (z.word_at i)) → X.number ≡ get_or s.words (index_word i) 0
    found_word i mine same is reads =
        let up = made_rises K G 0 (opening h.world.readers) h.events in
        let up' = made_rises K G 0 (opening h'.world.readers) h'.events in
        let word = placed 0 ms' up' X in_ms'.0 (λ k. on_word i k X.event is) in
        let high = index_low K G two i 0 (opening h'.world.readers) (opening_sound K G two h'.world.readers) h'.events X in_ms'.0 is in
        let V : World → ℕ = λ z. word_value (z.word_at i) in
        let more = one_more_of_part (is_on_word i) (on_word i) ms ms' up up' X is in_ms'.0 word kept_in (had_in mine same)
        (λ y has on. is_last p0 ms ms' up up' X word in_ms'.1 grown kept_in y has (placed 0 ms up y has (λ k. on_word i k y.event on))) in
        let found = found_last K G V (is_on_word i) value_of (value_moves K G i) value_still 0 (opening h'.world.readers) h'.events (filter (λ m. is_on_word i m.event) ms) X more reads in
        let led = runs K G V (is_on_word i) value_of (value_moves K G i) value_still 0 (opening h.world.readers) h.events in
        found ∙ (led ∙ (ap V h.ran ∙ sym (h.word_is i high)))

    -- where X is a reassignment there are no more readers after it: it was made once each was scanned
    no_more_readers : (i p : ℕ) → X.event ≡ Reassign i p → ((e : Event) → is_of_control e ≡ p0 e) → h'.world.readers ≤ h.world.readers
    no_more_readers i p is mine =
        ⊎_elim
        (λ more.
        let q : ℕ = h.world.readers in
        let y = scanned_before K G q i p 0 (opening h'.world.readers) (omega arith) refl h'.events X in_ms'.0 is in
        let knows : In y.0 (v.steps ++ X ∷ []) = subst (λ l. In y.0 l) (sym after ∙ one) (in_part p0 y.0 ms' (sym (mine y.0.event) ∙ ap is_of_control y.2) y.1) in
        ⊎_elim
        (λ k. let l = scan_low K G q 0 (opening q) h.events y.0 (of_part p0 y.0 ms (subst (λ l. In y.0 l) before k)).0 y.2 in absurd (omega arith))
        (λ e. let bad : Scan q ≡ Reassign i p = sym y.2 ∙ (ap (λ (z : Made). z.event) e ∙ is) in cc)
        (of_end y.0 v.steps X knows))
        (λ most. most)
        (cases_lt h.world.readers h'.world.readers)

    -- where the part p is the same in both, its steps on words are before X
    late_enough : (p : Event → Bool) → ((k : ℕ) → place_of k X.event ≡ k + 1) → filter (λ m. p m.event) ms' ≡ filter (λ m. p m.event) ms → (y : Made) → In y ms' → p y.event ≡ true → y.at ≢ 0 → y.at < X.at
    late_enough p on same y has is word =
        let was = (of_part p y ms (subst (λ l. In y l) same (in_part p y ms' is has))).0 in
        is_last p0 ms ms' (made_rises K G 0 (opening h.world.readers) h.events) (made_rises K G 0 (opening h'.world.readers) h'.events) X
        (placed 0 ms' (made_rises K G 0 (opening h'.world.readers) h'.events) X in_ms'.0 on) in_ms'.1 grown kept_in y was word

  -- a scan found what its word held
  pub true_scan : (d d' : ControlOwn) (r t n : ℕ) → v.role ≡ Control d → v'.role ≡ Control d' → r < h.world.readers → v'.steps ≡ v.steps ++ record { at = t; event = Scan r; number = n } ∷ [] → n ≡ get_or s.words (announcement_word r) 0
  true_scan d d' r t n is is' l one =
      let X : Made = record { at = t; event = Scan r; number = n } in
      let before = (fits_at K G two lawful names key s h id v (Control d) is there).2.0 in
      let after = (fits_at K G two lawful names key s' h' id v' (Control d') is' here).2.0 in
      let c = seated.reader r l in
      let apart : c.0 ≢ id = λ e. let same = same_view c.0 c.1 c.3 e in let bad : Reader r c.2 ≡ Control d = sym c.4 ∙ (ap (λ (z : View Q). z.role) same ∙ is) in cc in
      let fits = (fits_at K G two lawful names key s h c.0 c.1 (Reader r c.2) c.4 c.3).2 in
      let fits' = (fits_at K G two lawful names key s' h' c.0 c.1 (Reader r c.2) c.4 (still_there c.0 c.1 c.3 apart)).2 in
      let same : readers_part r ms' ≡ readers_part r ms = sym fits' ∙ fits in
      let V : World → ℕ = λ z. (z.reader_at r).ann in
      let has = in_ms' is_of_control X before after one in
      let word = placed 0 ms' (made_rises K G 0 (opening h'.world.readers) h'.events) X has.0 (λ k. refl) in
      let found = found_is K G V (is_of_reader r) ann_of (ann_moves K G r) ann_still 0 (opening h'.world.readers) h'.events X has.0 (λ z. refl) refl word (late_enough is_of_control X before after one (is_of_reader r) (λ k. refl) same) in
      let led = runs K G V (is_of_reader r) ann_of (ann_moves K G r) ann_still 0 (opening h.world.readers) h.events in
      found ∙ (ap (λ l. last K G V (is_of_reader r) ann_of (ann_moves K G r) ann_still 0 l) same ∙ (led ∙ (ap V h.ran ∙ sym (h.ann_is r l))))

  -- a load of word 0 by a reader found what that held
  true_load : (e : Event) → ((k : ℕ) → place_of k e ≡ k + 1) → ((z : World) → number_of z e ≡ z.cur) → is_of_control e ≡ false
      → (q : ℕ) (o o' : Own) (t n : ℕ) → v.role ≡ Reader q o → v'.role ≡ Reader q o' → v'.steps ≡ v.steps ++ record { at = t; event = e; number = n } ∷ [] → n ≡ get_or s.words 0 0
  true_load e on reads other q o o' t n is is' one =
      let X : Made = record { at = t; event = e; number = n } in
      let before = (fits_at K G two lawful names key s h id v (Reader q o) is there).2 in
      let after = (fits_at K G two lawful names key s' h' id v' (Reader q o') is' here).2 in
      let c = seated.control in
      let apart : c.0 ≢ id = λ i. let same = same_view c.0 c.1 c.3 i in let bad : Control c.2 ≡ Reader q o = sym c.4 ∙ (ap (λ (z : View Q). z.role) same ∙ is) in cc in
      let fits = (fits_at K G two lawful names key s h c.0 c.1 (Control c.2) c.4 c.3).2.0 in
      let fits' = (fits_at K G two lawful names key s' h' c.0 c.1 (Control c.2) c.4 (still_there c.0 c.1 c.3 apart)).2.0 in
      let same : controls_part ms' ≡ controls_part ms = sym fits' ∙ fits in
      let V : World → ℕ = λ z. z.cur in
      let has = in_ms' (is_of_reader q) X before after one in
      let word = placed 0 ms' (made_rises K G 0 (opening h'.world.readers) h'.events) X has.0 on in
      let found = found_is K G V is_of_control cur_of (cur_moves K G) cur_still 0 (opening h'.world.readers) h'.events X has.0 reads other word (late_enough (is_of_reader q) X before after one is_of_control on same) in
      let led = runs K G V is_of_control cur_of (cur_moves K G) cur_still 0 (opening h.world.readers) h.events in
      found ∙ (ap (λ l. last K G V is_of_control cur_of (cur_moves K G) cur_still 0 l) same ∙ (led ∙ (ap V h.ran ∙ sym h.cur_is)))

  pub true_look : (q : ℕ) (o o' : Own) (t n : ℕ) → v.role ≡ Reader q o → v'.role ≡ Reader q o' → v'.steps ≡ v.steps ++ record { at = t; event = Look q; number = n } ∷ [] → n ≡ get_or s.words 0 0
  true_look q = true_load (Look q) (λ k. refl) (λ z. refl) refl q

  pub true_enter : (q : ℕ) (o o' : Own) (t n : ℕ) → v.role ≡ Reader q o → v'.role ≡ Reader q o' → v'.steps ≡ v.steps ++ record { at = t; event = Enter q; number = n } ∷ [] → n ≡ get_or s.words 0 0
  true_enter q = true_load (Enter q) (λ k. refl) (λ z. refl) refl q

  -- a hit found what its word held
  pub true_hit : (r i : ℕ) (o o' : Own) (t n : ℕ) → v.role ≡ Reader r o → v'.role ≡ Reader r o' → v'.steps ≡ v.steps ++ record { at = t; event = Hit r i; number = n } ∷ [] → n ≡ get_or s.words (index_word i) 0
  true_hit r i o o' t n is is' one =
      let X : Made = record { at = t; event = Hit r i; number = n } in
      let before = (fits_at K G two lawful names key s h id v (Reader r o) is there).2 in
      let after = (fits_at K G two lawful names key s' h' id v' (Reader r o') is' here).2 in
      let c = seated.control in
      let apart : c.0 ≢ id = λ e. let same = same_view c.0 c.1 c.3 e in let bad : Control c.2 ≡ Reader r o = sym c.4 ∙ (ap (λ (z : View Q). z.role) same ∙ is) in cc in
      let count = (fits_at K G two lawful names key s h c.0 c.1 (Control c.2) c.4 c.3).1.readers_are in
      let count' = (fits_at K G two lawful names key s' h' c.0 c.1 (Control c.2) c.4 (still_there c.0 c.1 c.3 apart)).1.readers_are in
      found_word (is_of_reader r) X before after one i (λ e. ap (λ z. steps_of z e) is) (sym count' ∙ count) (is_mine i) (λ z. refl)

  -- a reassignment found what its word held
  pub true_reassign : (d d' : ControlOwn) (i p t n : ℕ) → v.role ≡ Control d → v'.role ≡ Control d' → v'.steps ≡ v.steps ++ record { at = t; event = Reassign i p; number = n } ∷ [] → n ≡ get_or s.words (index_word i) 0
  true_reassign d d' i p t n is is' one =
      let X : Made = record { at = t; event = Reassign i p; number = n } in
      let before = (fits_at K G two lawful names key s h id v (Control d) is there).2.0 in
      let after = (fits_at K G two lawful names key s' h' id v' (Control d') is' here).2.0 in
      let most = no_more_readers is_of_control X before after one i p refl (λ e. refl) in
      let least : h.world.readers ≤ h'.world.readers =
      ⊎_elim
      (λ fewer.
      let q : ℕ = h'.world.readers in
      let c = seated.reader q (omega arith) in
      let apart : c.0 ≢ id = λ e. let same = same_view c.0 c.1 c.3 e in let bad : Reader q c.2 ≡ Control d = sym c.4 ∙ (ap (λ (z : View Q). z.role) same ∙ is) in cc in
      let l = (fits_at K G two lawful names key s' h' c.0 c.1 (Reader q c.2) c.4 (still_there c.0 c.1 c.3 apart)).1.0 in absurd (omega arith))
      (λ least. least)
      (cases_lt h'.world.readers h.world.readers) in
      found_word is_of_control X before after one i (λ e. ap (λ z. steps_of z e) is) (omega arith) (is_mine i) (λ z. refl)
