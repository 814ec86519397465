-- The steps on an index word, which readers and the control make: where a history has one step more than another, the last of
-- all, it has one more of them.
use Rattle.std.proofs.Common.{◌≡◌, ◌≢◌, ◌⊎◌, ℕ, ◌+◌, ◌*◌, ◌<◌, ◌≤◌, Bool, true, false, true≢false, if◌then◌else◌, eqb-true, List, [], ◌∷◌, ◌++◌, refl, sym, ap, ◌∙◌, subst, inl, inr, ⊎_elim, arith}
use Rattle.std.specs.Prelude.{◌==◌, filter, unwrap_or}
use mathlib.Core.Logic.{dite}
use native.Mathlib.Decide.{ℕ_discrete}
use Rattle.epoch_core.specs.declared.event.Event.{Event}
use Rattle.epoch_core.specs.declared.event.Event.TheVariants.{Look, Announce, Enter, Leave, Scan, Publish, Split, Join, Hit, Reassign}
use Rattle.epoch_core.specs.declared.view.Made.{Made}
use Rattle.epoch_core.specs.World.{Word, World, word_value}
use Rattle.epoch_core.specs.Step.{enabled, effect, step, looked_reader, announced_reader, entered_reader, left_reader, scanned_reader, told_reader, hit_reader, hit_word, given_word, version_in_hand}
use Rattle.epoch_core.specs.Sound.{Sound}
use Rattle.epoch_core.specs.History.{number_of, counted, place_of, made_of, made}
use Rattle.epoch_core.proofs.FoundLemmas.{In, Rising, in_front, in_last, in_part, of_part, places, above_0}
use Rattle.epoch_core.proofs.HistoryLemmas.{is_mine, is_not_mine}
use Rattle.epoch_core.proofs.ReaderLemmas.{replaced_at_else, replaced_at_all}
use Rattle.epoch_core.proofs.ReaderSteps.{takes_effect}
use Rattle.epoch_core.proofs.WordLemmas.{index_pair}
use Rattle.epoch_core.proofs.WorldLemmas.{both_true, below, up_to, each_passed, hand_phase, step_sound}

-- each step of the list is at a later place than those before it
abbrev Later : ℕ → List Made → Type 0
Later n [] = Unit {0}
Later n (m ∷ ms) = (n < m.at) × Later m.at ms

is_later : (n : ℕ) (ms : List Made) → Later n ms → (x : Made) → In x ms → n < x.at
is_later n [] up x has = absurd has
is_later n (m ∷ ms) up x (inl e) = let at : x.at ≡ m.at = ap (λ (z : Made). z.at) e in let l = up.0 in omega arith
is_later n (m ∷ ms) up x (inr has) = let k = is_later m.at ms up.1 x has in let l = up.0 in omega arith

later_than : (n k : ℕ) (ms : List Made) → n ≤ k → Later k ms → Later n ms
later_than n k [] l up = tt
later_than n k (m ∷ ms) l up = let a = up.0 in (omega arith, up.1)

later_end : (n : ℕ) (ms : List Made) (X : Made) → Later n ms → n < X.at → ((y : Made) → In y ms → y.at < X.at) → Later n (ms ++ X ∷ [])
later_end n [] X up l each = (l, tt)
later_end n (m ∷ ms) X up l each = (up.0, later_end m.at ms X up.1 (each m (inl refl)) (λ y h. each y (inr h)))

same_head : (x y : Made) (xs ys : List Made) → Later x.at xs → Later y.at ys → In x (y ∷ ys) → In y (x ∷ xs) → x ≡ y
same_head x y xs ys a b (inl e) f = e
same_head x y xs ys a b (inr h) (inl f) = sym f
same_head x y xs ys a b (inr h) (inr g) = let l = is_later y.at ys b x h in let k = is_later x.at xs a y g in absurd (omega arith)

-- two such lists of the same steps are one
same_steps : (n k : ℕ) (xs ys : List Made) → Later n xs → Later k ys → ((z : Made) → In z xs → In z ys) → ((z : Made) → In z ys → In z xs) → xs ≡ ys
same_steps n k [] [] a b to from = refl
same_steps n k [] (y ∷ ys) a b to from = absurd (from y (inl refl))
same_steps n k (x ∷ xs) [] a b to from = absurd (to x (inl refl))
same_steps n k (x ∷ xs) (y ∷ ys) a b to from =
    let first : x ≡ y = same_head x y xs ys a.1 b.1 (to x (inl refl)) (from y (inl refl)) in
    let one : x.at ≡ y.at = ap (λ (z : Made). z.at) first in
    let rest : xs ≡ ys = same_steps x.at y.at xs ys a.1 b.1
    (λ z h. ⊎_elim (λ e. let l = is_later x.at xs a.1 z h in let at : z.at ≡ y.at = ap (λ (m : Made). m.at) e in absurd (omega arith)) (λ i. i) (to z (inr h)))
    (λ z h. ⊎_elim (λ e. let l = is_later y.at ys b.1 z h in let at : z.at ≡ x.at = ap (λ (m : Made). m.at) e in absurd (omega arith)) (λ i. i) (from z (inr h))) in
    λ i. first i ∷ rest i

-- a step of a list with one more at its end is that one, or one of the list
pub of_end : (x : Made) (xs : List Made) (X : Made) → In x (xs ++ X ∷ []) → In x xs ⊎ (x ≡ X)
of_end x [] X (inl e) = inr e
of_end x [] X (inr h) = absurd h
of_end x (y ∷ ys) X (inl e) = inl (inl e)
of_end x (y ∷ ys) X (inr h) = ⊎_elim (λ i. inl (inr i)) (λ e. inr e) (of_end x ys X h)

module _ (p : Event → Bool) (on : (n : ℕ) (e : Event) → p e ≡ true → place_of n e ≡ n + 1) where
  abbrev part : List Made → List Made
  part ms = filter (λ m. p m.event) ms

  -- the steps of a part, all of them on words, are at later and later places
  part_later : (n : ℕ) (ms : List Made) → Rising n ms → Later n (part ms)
  part_later n [] up = tt
  part_later n (m ∷ ms) up = go (p m.event) refl (part_later (counted n m.event) ms up.1)
    where
      go : (t : Bool) → p m.event ≡ t → Later (counted n m.event) (part ms) → Later n (if t then m ∷ part ms else part ms)
      go true is rest =
          let place = up.0 in
          let here = on n m.event is in
          let next : counted n m.event ≡ m.at = ⊎_elim (λ t. let z = t.0 in absurd (omega arith)) (λ t. let z = t.1 in omega arith) (places n m.event) in
          (omega arith, subst (λ k. Later k (part ms)) next rest)
      go false is rest = later_than n (counted n m.event) (part ms) (⊎_elim (λ t. let z = t.1 in omega arith) (λ t. let z = t.1 in omega arith) (places n m.event)) rest

  -- where the second history has the steps of the first and X, which is later than each of the part, so it is with the part
  pub one_more_of_part : (ms ms' : List Made) → Rising 0 ms → Rising 0 ms' → (X : Made) → p X.event ≡ true → In X ms' → X.at ≢ 0
      → ((y : Made) → In y ms → In y ms') → ((y : Made) → In y ms' → In y ms ⊎ (y ≡ X)) → ((y : Made) → In y ms → p y.event ≡ true → y.at < X.at)
      → filter (λ m. p m.event) ms' ≡ filter (λ m. p m.event) ms ++ X ∷ []
  one_more_of_part ms ms' up up' X mine has word to from each =
      same_steps 0 0 (part ms') (part ms ++ X ∷ []) (part_later 0 ms' up')
      (later_end 0 (part ms) X (part_later 0 ms up) (above_0 X.at word) (λ y h. let o = of_part p y ms h in each y o.0 o.1))
      (λ z h. let o = of_part p z ms' h in
      ⊎_elim
      (λ i. in_front z (part ms) (X ∷ []) (in_part p z ms o.1 i))
      (λ e. subst (λ k. In k (part ms ++ X ∷ [])) (sym e) (in_last X (part ms)))
      (from z o.0))
      (λ z h.
      ⊎_elim
      (λ i. let o = of_part p z ms i in in_part p z ms' o.1 (to z o.0))
      (λ e. in_part p z ms' (ap (λ (m : Made). p m.event) e ∙ mine) (subst (λ k. In k ms') (sym e) has))
      (of_end z (part ms) X h))

-- whether a step is on the word of the index i
abbrev pub is_on_word : ℕ → Event → Bool
is_on_word i (Look q) = false
is_on_word i (Announce q) = false
is_on_word i (Enter q) = false
is_on_word i (Leave q) = false
is_on_word i (Scan q) = false
is_on_word i (Publish m) = false
is_on_word i Split = false
is_on_word i (Join q k) = false
is_on_word i (Hit q j) = j == i
is_on_word i (Reassign j p) = j == i

pub on_word : (i n : ℕ) (e : Event) → is_on_word i e ≡ true → place_of n e ≡ n + 1
on_word i n (Look q) is = refl
on_word i n (Announce q) is = refl
on_word i n (Enter q) is = refl
on_word i n (Leave q) is = refl
on_word i n (Scan q) is = refl
on_word i n (Publish m) is = refl
on_word i n Split is = absurd (true≢false (sym is))
on_word i n (Join q k) is = absurd (true≢false (sym is))
on_word i n (Hit q j) is = refl
on_word i n (Reassign j p) is = refl

-- an index word is what the hits since its last reassignment made of what that stored
abbrev pub value_of : ℕ → Event → ℕ → ℕ
value_of a (Look q) k = a
value_of a (Announce q) k = a
value_of a (Enter q) k = a
value_of a (Leave q) k = a
value_of a (Scan q) k = a
value_of a (Publish m) k = a
value_of a Split k = a
value_of a (Join q n) k = a
value_of a (Hit q j) k = a + 1
value_of a (Reassign j p) k = p * 4294967296

pub value_still : (n a : ℕ) (e : Event) (k : ℕ) → place_of n e ≡ 0 → value_of a e k ≡ a
value_still n a (Look q) k z = refl
value_still n a (Announce q) k z = refl
value_still n a (Enter q) k z = refl
value_still n a (Leave q) k z = refl
value_still n a (Scan q) k z = refl
value_still n a (Publish m) k z = refl
value_still n a Split k z = refl
value_still n a (Join q i) k z = refl
value_still n a (Hit q i) k z = absurd (omega arith)
value_still n a (Reassign i p) k z = absurd (omega arith)

hit_value : (x : Word) → word_value (hit_word x) ≡ word_value x + 1
hit_value x = omega arith

given_value : (p : ℕ) → word_value (given_word p) ≡ p * 4294967296
given_value p = omega arith

pub value_moves : (K G i : ℕ) (w : World) (e : Event) → enabled K G w e ≡ true → word_value ((effect K w e).word_at i) ≡ (if is_on_word i e then value_of (word_value (w.word_at i)) e (number_of w e) else word_value (w.word_at i))
value_moves K G i w (Look q) on = refl
value_moves K G i w (Announce q) on = refl
value_moves K G i w (Enter q) on = refl
value_moves K G i w (Leave q) on = refl
value_moves K G i w (Scan q) on = refl
value_moves K G i w (Publish m) on = refl
value_moves K G i w Split on = refl
value_moves K G i w (Join q k) on = refl
value_moves K G i w (Hit q j) on = replaced_at_all (λ k y. word_value y ≡ (if j == k then word_value (w.word_at k) + 1 else word_value (w.word_at k))) w.word_at j (hit_word (w.word_at j)) (rw (is_mine j) (hit_value (w.word_at j))) (λ k n. rw (is_not_mine j k n) refl) i
value_moves K G i w (Reassign j p) on = replaced_at_all (λ k y. word_value y ≡ (if j == k then p * 4294967296 else word_value (w.word_at k))) w.word_at j (given_word p) (rw (is_mine j) (given_value p)) (λ k n. rw (is_not_mine j k n) refl) i

-- a step on an index word is on that of an index
low_now : (K G i : ℕ) (w : World) → Sound K G w → (e : Event) → enabled K G w e ≡ true → is_on_word i e ≡ true → i ≤ G
low_now K G i w s (Look q) on is = absurd (true≢false (sym is))
low_now K G i w s (Announce q) on is = absurd (true≢false (sym is))
low_now K G i w s (Enter q) on is = absurd (true≢false (sym is))
low_now K G i w s (Leave q) on is = absurd (true≢false (sym is))
low_now K G i w s (Scan q) on is = absurd (true≢false (sym is))
low_now K G i w s (Publish m) on is = absurd (true≢false (sym is))
low_now K G i w s Split on is = absurd (true≢false (sym is))
low_now K G i w s (Join q k) on is = absurd (true≢false (sym is))
low_now K G i w s (Hit q j) on is =
    let b = both_true _ _ on in
    let c = both_true _ _ b.0 in
    let d = both_true _ _ c.0 in
    let h = (w.reader_at q).own.phase in
    let pair = index_pair j (w.pairs_at (version_in_hand h)) c.1 in
    let carried = s.index_words.in_hand q (version_in_hand h) (below _ _ d.0) (hand_phase h d.1) j pair.0 pair.1 in
    subst (λ k. k ≤ G) (eqb-true j i is) carried.1
low_now K G i w s (Reassign j p) on is =
    let b = both_true _ _ on in
    let c = both_true _ _ b.0 in
    let d = both_true _ _ c.0 in
    let e = both_true _ _ d.1 in
    subst (λ k. k ≤ G) (eqb-true j i is) (up_to _ _ e.1)

pub index_low : (K G : ℕ) → 2 ≤ K → (i n : ℕ) (w : World) → Sound K G w → (es : List Event) (x : Made) → In x (made K G n w es) → is_on_word i x.event ≡ true → i ≤ G
index_low K G two i n w s [] x has is = absurd has
index_low K G two i n w s (e ∷ es) x has is =
    go (enabled K G w e) refl has (λ h. index_low K G two i (counted n e) (step K G w e) (step_sound K G two w e s) es x h is) (λ h. index_low K G two i n (step K G w e) (step_sound K G two w e s) es x h is)
  where
    go : (t : Bool) → enabled K G w e ≡ t → In x (if t then made_of n w e ∷ made K G (counted n e) (step K G w e) es else made K G n (step K G w e) es)
        → (In x (made K G (counted n e) (step K G w e) es) → i ≤ G) → (In x (made K G n (step K G w e) es) → i ≤ G) → i ≤ G
    go true on (inl same) a b = low_now K G i w s e on (ap (λ (z : Made). is_on_word i z.event) (sym same) ∙ is)
    go true on (inr h) a b = a h
    go false off h a b = b h

pub same_readers : (K G : ℕ) (w : World) (e : Event) → (step K G w e).readers ≡ w.readers
same_readers K G w e = go (enabled K G w e) e
  where
    go : (t : Bool) (e : Event) → (if t then effect K w e else w).readers ≡ w.readers
    go false e = refl
    go true (Look q) = refl
    go true (Announce q) = refl
    go true (Enter q) = refl
    go true (Leave q) = refl
    go true (Scan q) = refl
    go true (Publish m) = refl
    go true Split = refl
    go true (Join q k) = refl
    go true (Hit q i) = refl
    go true (Reassign i p) = refl

-- a scan is one of a reader that there is
pub scan_low : (K G q n : ℕ) (w : World) (es : List Event) (y : Made) → In y (made K G n w es) → y.event ≡ Scan q → q < w.readers
scan_low K G q n w [] y has is = absurd has
scan_low K G q n w (e ∷ es) y has is =
    go (enabled K G w e) refl has (λ h. scan_low K G q (counted n e) (step K G w e) es y h is) (λ h. scan_low K G q n (step K G w e) es y h is)
  where
    go : (t : Bool) → enabled K G w e ≡ t → In y (if t then made_of n w e ∷ made K G (counted n e) (step K G w e) es else made K G n (step K G w e) es)
        → (In y (made K G (counted n e) (step K G w e) es) → q < (step K G w e).readers) → (In y (made K G n (step K G w e) es) → q < (step K G w e).readers) → q < w.readers
    go true on (inl same) a b =
        let event : e ≡ Scan q = ap (λ (z : Made). z.event) (sym same) ∙ is in
        let may : enabled K G w (Scan q) ≡ true = ap (λ z. enabled K G w z) (sym event) ∙ on in
        below _ _ (both_true _ _ may).0
    go true on (inr h) a b = subst (λ n. q < n) (same_readers K G w e) (a h)
    go false off h a b = subst (λ n. q < n) (same_readers K G w e) (b h)

-- a reader that isn't passed is passed by a scan of it alone
passed_by_scan : (K G q : ℕ) (w : World) (e : Event) → enabled K G w e ≡ true → (w.reader_at q).passed ≡ false → (e ≡ Scan q) ⊎ (((effect K w e).reader_at q).passed ≡ false)
passed_by_scan K G q w (Look r) on off = inr (replaced_at_all (λ j y. y.passed ≡ (w.reader_at j).passed) w.reader_at r (looked_reader w.cur (w.reader_at r)) refl (λ j n. refl) q ∙ off)
passed_by_scan K G q w (Announce r) on off = inr (replaced_at_all (λ j y. y.passed ≡ (w.reader_at j).passed) w.reader_at r (announced_reader (w.reader_at r)) refl (λ j n. refl) q ∙ off)
passed_by_scan K G q w (Enter r) on off = inr (replaced_at_all (λ j y. y.passed ≡ (w.reader_at j).passed) w.reader_at r (entered_reader K w.cur (w.reader_at r)) refl (λ j n. refl) q ∙ off)
passed_by_scan K G q w (Leave r) on off = inr (replaced_at_all (λ j y. y.passed ≡ (w.reader_at j).passed) w.reader_at r (left_reader K (w.reader_at r)) refl (λ j n. refl) q ∙ off)
passed_by_scan K G q w (Scan r) on off = dite (ℕ_discrete q r) (λ e. inl (ap Scan (sym e))) (λ n. inr (ap (λ y. y.passed) (replaced_at_else w.reader_at r q (scanned_reader K w.cur (w.reader_at r)) n) ∙ off))
passed_by_scan K G q w (Publish m) on off = inr refl
passed_by_scan K G q w Split on off = inr off
passed_by_scan K G q w (Join r k) on off = inr (replaced_at_all (λ j y. y.passed ≡ (w.reader_at j).passed) w.reader_at r (told_reader (unwrap_or (w.notes k) 0) (w.reader_at r)) refl (λ j n. refl) q ∙ off)
passed_by_scan K G q w (Hit r i) on off = inr (replaced_at_all (λ j y. y.passed ≡ (w.reader_at j).passed) w.reader_at r (hit_reader (w.word_at i).number (w.reader_at r)) refl (λ j n. refl) q ∙ off)
passed_by_scan K G q w (Reassign i p) on off = inr off

unmoved : (K G : ℕ) (w : World) (e : Event) → enabled K G w e ≡ false → w ≡ step K G w e
unmoved K G w e off = rw off refl

-- before a reassignment each reader that isn't passed yet is scanned
pub scanned_before : (K G q i p n : ℕ) (w : World) → q < w.readers → (w.reader_at q).passed ≡ false → (es : List Event) (X : Made) → In X (made K G n w es) → X.event ≡ Reassign i p
    → (y : Made) × In y (made K G n w es) × (y.event ≡ Scan q)
scanned_before K G q i p n w low off [] X has is = absurd has
scanned_before K G q i p n w low off (e ∷ es) X has is =
    go (enabled K G w e) refl has (λ off' h. scanned_before K G q i p (counted n e) (step K G w e) low' off' es X h is) (λ off' h. scanned_before K G q i p n (step K G w e) low' off' es X h is)
  where
    low' : q < (step K G w e).readers
    low' = let same = same_readers K G w e in omega arith

    go : (t : Bool) → enabled K G w e ≡ t → In X (if t then made_of n w e ∷ made K G (counted n e) (step K G w e) es else made K G n (step K G w e) es)
        → (((step K G w e).reader_at q).passed ≡ false → In X (made K G (counted n e) (step K G w e) es) → (y : Made) × In y (made K G (counted n e) (step K G w e) es) × (y.event ≡ Scan q))
        → (((step K G w e).reader_at q).passed ≡ false → In X (made K G n (step K G w e) es) → (y : Made) × In y (made K G n (step K G w e) es) × (y.event ≡ Scan q))
        → (y : Made) × In y (if t then made_of n w e ∷ made K G (counted n e) (step K G w e) es else made K G n (step K G w e) es) × (y.event ≡ Scan q)
    go true on (inl same) a b =
        let event : e ≡ Reassign i p = ap (λ (z : Made). z.event) (sym same) ∙ is in
        let may : enabled K G w (Reassign i p) ≡ true = ap (λ z. enabled K G w z) (sym event) ∙ on in
        let all = (both_true _ _ (both_true _ _ (both_true _ _ may).0).0).0 in
        absurd (true≢false (sym (each_passed w.reader_at w.readers all q low) ∙ off))
    go true on (inr h) a b = ⊎_elim
        (λ scan. (made_of n w e, inl refl, scan))
        (λ still. let r = a (ap (λ (z : World). (z.reader_at q).passed) (sym (takes_effect K G w e on)) ∙ still) h in (r.0, inr r.1, r.2))
        (passed_by_scan K G q w e on off)
    go false skipped h a b = b (ap (λ (z : World). (z.reader_at q).passed) (sym (unmoved K G w e skipped)) ∙ off) h
