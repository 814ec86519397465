-- Each step keeps the index words sound.
use Rattle.std.proofs.Common.{◌≡◌, ◌≢◌, ℕ, zero, suc, ◌+◌, ◌*◌, ◌<◌, ◌≤◌, Bool, true, false, not, ◌&&◌, ◌||◌, ltb, leb, eqb, true≢false, List, [], ◌∷◌, length, Option, refl, sym, ap, ◌∙◌, subst, ⊎_elim, arith, eq-eqb, eqb-true, if◌then◌else◌}
use Rattle.std.proofs.lemmas.Bool.{or_cases, and_parts, not-true}
use Rattle.std.proofs.lemmas.Bool.Decides.{nat_tests}
use mathlib.Core.Logic.{dite, ◌⊎◌}
use native.Mathlib.Decide.{ℕ_discrete}
use Rattle.epoch_core.specs.declared.event.Event.TheVariants.{Publish, Hit, Reassign}
use Rattle.epoch_core.specs.World.{Reader, Word, World, first_word, opening}
use Rattle.epoch_core.specs.Step.{replaced_at, published_reader, hit_reader, hit_word, given_word, has_pair, has_index, each_among, is_recent, is_unnamed, is_index, moved, effect}
use Rattle.epoch_core.specs.Sound.{HasInHand, Carries, AreCarried, IsRecent, WordsSound}
use Rattle.epoch_core.specs.Sums.{total, counted, times}
use Rattle.epoch_core.proofs.ReaderLemmas.{replaced_at_here, replaced_at_else, replaced_at_all}

-- sums of two functions that agree below n
pub total_same : (f g : ℕ → ℕ) (n : ℕ) → ((i : ℕ) → i < n → f i ≡ g i) → total f n ≡ total g n
total_same f g zero e = refl
total_same f g (suc n) e = let a = e n (omega arith) in let b = total_same f g n (λ i l. e i (omega arith)) in omega arith

-- of two that agree but at i
pub total_but : (f g : ℕ → ℕ) (i n : ℕ) → i < n → ((j : ℕ) → j ≢ i → f j ≡ g j) → total f n + g i ≡ total g n + f i
total_but f g i zero l e = absurd (omega arith)
total_but f g i (suc n) l e =
    dite (ℕ_discrete i n)
    (λ s. let same = total_same f g n (λ j k. e j (λ d. omega arith)) in let a : f n ≡ f i = ap f (sym s) in let b : g n ≡ g i = ap g (sym s) in omega arith)
    (λ d. let less = total_but f g i n (omega arith) e in let a : f n ≡ g n = e n (λ s. d (sym s)) in omega arith)

-- one summand is at most the sum
pub total_above : (f : ℕ → ℕ) (i n : ℕ) → i < n → f i ≤ total f n
total_above f i zero l = absurd (omega arith)
total_above f i (suc n) l =
    dite (ℕ_discrete i n)
    (λ s. let a : f i ≡ f n = ap f s in omega arith)
    (λ d. let less = total_above f i n (omega arith) in omega arith)

-- a sum of n summands of at most m
pub total_below : (f : ℕ → ℕ) (m n : ℕ) → ((i : ℕ) → i < n → f i ≤ m) → total f n ≤ n * m
total_below f m zero e = omega arith
total_below f m (suc n) e = let a = e n (omega arith) in let b = total_below f m n (λ i l. e i (omega arith)) in omega arith

pub times_below : (p : ℕ) (ns : List ℕ) → times p ns ≤ length ns
times_below p [] = omega arith
times_below p (n ∷ ns) = let b = times_below p ns in grind (arith, nat_tests)

or_end : (a : Bool) → (a || true) ≡ true
or_end true = refl
or_end false = refl

-- an index of a list is that of a pair in it, and the other way round
pub index_pair : (i : ℕ) (cs : List (ℕ × ℕ)) → has_index i cs ≡ true → (p : ℕ) × (has_pair i p cs ≡ true)
index_pair i [] h = cc
index_pair i (c ∷ cs) h =
    ⊎_elim
    (λ (e : eqb c.0 i ≡ true). (c.1, rw (e, eq-eqb c.1 c.1 refl) refl))
    (λ (e : has_index i cs ≡ true). let d = index_pair i cs e in (d.0, rw d.1 (or_end _)))
    (or_cases _ _ h)

pub pair_index : (i p : ℕ) (cs : List (ℕ × ℕ)) → has_pair i p cs ≡ true → has_index i cs ≡ true
pair_index i p [] h = cc
pair_index i p (c ∷ cs) h =
    ⊎_elim
    (λ (e : (eqb c.0 i && eqb c.1 p) ≡ true). let f : eqb c.0 i ≡ true = (and_parts _ _ e).0 in rw f refl)
    (λ (e : has_pair i p cs ≡ true). let f = pair_index i p cs e in rw f (or_end _))
    (or_cases _ _ h)

-- a pair of the first list is in one of the two others
pub among : (i p : ℕ) (m old fresh : List (ℕ × ℕ)) → each_among m old fresh ≡ true → has_pair i p m ≡ true → (has_pair i p old ≡ true) ⊎ (has_pair i p fresh ≡ true)
among i p [] old fresh e h = cc
among i p (c ∷ cs) old fresh e h =
    let b = and_parts _ _ e in
    ⊎_elim
    (λ (d : (eqb c.0 i && eqb c.1 p) ≡ true).
    let f = and_parts _ _ d in
    subst (λ (z : ℕ × ℕ). (has_pair z.0 z.1 old ≡ true) ⊎ (has_pair z.0 z.1 fresh ≡ true)) (λ k. (eqb-true c.0 i f.0 k, eqb-true c.1 p f.1 k)) (or_cases _ _ b.0))
    (λ (d : has_pair i p cs ≡ true). among i p cs old fresh b.1 d)
    (or_cases _ _ h)

module _ (K G : ℕ) where
  -- none of the recent versions names an index that is unnamed
  pub unnamed : (cur i n : ℕ) (pairs_at : ℕ → List (ℕ × ℕ)) → is_unnamed K cur pairs_at i n ≡ true → (x : ℕ) → x < n → cur + 1 < x + K → has_index i (pairs_at x) ≡ false
  unnamed cur i zero pairs_at u x l near = absurd (omega arith)
  unnamed cur i (suc n) pairs_at u x l near =
      let b = and_parts _ _ u in
      dite (ℕ_discrete x n)
      (λ e. subst (λ z. has_index i (pairs_at z) ≡ false) (sym e)
      (⊎_elim
      (λ (d : not (is_recent K cur n) ≡ true).
      let f : ltb (cur + 1) (n + K) ≡ false = not-true _ d in
      absurd (grind (arith, nat_tests)))
      (λ (d : not (has_index i (pairs_at n)) ≡ true). not-true _ d)
      (or_cases _ _ b.0)))
      (λ d. unnamed cur i n pairs_at b.1 x (omega arith) near)

  -- what is carried where each word has the number that it had
  pub carried_same : (x y : World) → ((j : ℕ) → (y.word_at j).number ≡ (x.word_at j).number) → (cs : List (ℕ × ℕ)) → AreCarried G x cs → AreCarried G y cs
  carried_same x y same cs k i p h = let c = k i p h in (c.0, c.1, same i ∙ c.2)

  -- and where all words but i have it, and no pair of the list is of i
  pub carried_but : (x y : World) (i : ℕ) → ((j : ℕ) → j ≢ i → (y.word_at j).number ≡ (x.word_at j).number) → (cs : List (ℕ × ℕ)) → has_index i cs ≡ false → AreCarried G x cs → AreCarried G y cs
  carried_but x y i same cs free k j p h =
      let c = k j p h in
      (c.0, c.1, same j (λ e. true≢false (sym (pair_index j p cs h) ∙ (ap (λ z. has_index z cs) e ∙ free))) ∙ c.2)

  -- a step of one reader that makes no hit
  pub moved_words : (w : World) (r : ℕ) (f : Reader → Reader) → WordsSound K G w → (f (w.reader_at r)).own.hits ≡ (w.reader_at r).own.hits
      → ((x : ℕ) → r < w.readers → HasInHand x (f (w.reader_at r)).own.phase → AreCarried G w (w.pairs_at x)) → WordsSound K G (moved w r f)
  moved_words w r f s same mine = record {
    recent = s.recent;
    in_hand = λ q x. replaced_at_all (λ q y. q < w.readers → HasInHand x y.own.phase → AreCarried G w (w.pairs_at x)) w.reader_at r (f (w.reader_at r)) (mine x) (λ q _. s.in_hand q x) q;
    each_done = s.each_done;
    done_free = s.done_free;
    sums = λ p. total_same (λ q. times p ((moved w r f).reader_at q).own.hits) (λ q. times p (w.reader_at q).own.hits) w.readers
        (λ q _. replaced_at_all (λ q y. times p y.own.hits ≡ times p (w.reader_at q).own.hits) w.reader_at r (f (w.reader_at r)) (ap (times p) same) (λ q _. refl) q)
        ∙ s.sums p;
    word_zero = s.word_zero;
  }

  -- scans and notes don't matter
  pub words_beside : (w : World) (scans : ℕ) (found : ℕ × ℕ) (made : ℕ) (notes : ℕ → Option ℕ) → WordsSound K G w → WordsSound K G (record w { scans = scans; found = found; made = made; notes = notes })
  words_beside w scans found made notes s = record {
    recent = s.recent;
    in_hand = s.in_hand;
    each_done = s.each_done;
    done_free = s.done_free;
    sums = s.sums;
    word_zero = s.word_zero;
  }

  -- a hit of reader r, which has the version v in hand, on the index word i
  pub hit_words : (w : World) (r i v : ℕ) → WordsSound K G w → r < w.readers → HasInHand v (w.reader_at r).own.phase → has_index i (w.pairs_at v) ≡ true → WordsSound K G (effect K w (Hit r i))
  hit_words w r i v s l hand named =
      let x = w.reader_at r in
      let c = w.word_at i in
      let n : ℕ = c.number in
      let w' : World = effect K w (Hit r i) in
      let named_pair = index_pair i (w.pairs_at v) named in
      let carried : Carries G w i named_pair.0 = s.in_hand r v l hand i named_pair.0 named_pair.1 in
      let low = carried.0 in
      let high = carried.1 in
      let same : (j : ℕ) → (w'.word_at j).number ≡ (w.word_at j).number = replaced_at_all (λ j y. y.number ≡ (w.word_at j).number) w.word_at i (hit_word c) refl (λ j _. refl) in
      let phases : (q : ℕ) → (w'.reader_at q).own.phase ≡ (w.reader_at q).own.phase = replaced_at_all (λ q y. y.own.phase ≡ (w.reader_at q).own.phase) w.reader_at r (hit_reader n x) refl (λ q _. refl) in
      record {
        recent = λ y m. carried_same w w' same (w.pairs_at y) (s.recent y m);
        in_hand = λ q y m h. carried_same w w' same (w.pairs_at y) (s.in_hand q y m (subst (HasInHand y) (phases q) h));
        each_done = carried_same w w' same w.done s.each_done;
        done_free = s.done_free;
        sums = λ p.
            let a = total_but (λ q. times p (w'.reader_at q).own.hits) (λ q. times p (w.reader_at q).own.hits) r w.readers l (λ q d. ap (λ (y : Reader). times p y.own.hits) (replaced_at_else w.reader_at r q (hit_reader n x) d)) in
            let b = total_but (λ j. counted p (w'.word_at j)) (λ j. counted p (w.word_at j)) i (G + 1) (omega arith) (λ j d. ap (counted p) (replaced_at_else w.word_at i j (hit_word c) d)) in
            let d : times p (w'.reader_at r).own.hits ≡ times p (n ∷ x.own.hits) = ap (λ (y : Reader). times p y.own.hits) (replaced_at_here w.reader_at r r (hit_reader n x) refl) in
            let e : counted p (w'.word_at i) ≡ counted p (hit_word c) = ap (counted p) (replaced_at_here w.word_at i i (hit_word c) refl) in
            let f : times p (n ∷ x.own.hits) + counted p c ≡ times p x.own.hits + counted p (hit_word c) = grind (arith, nat_tests) in
            let z = s.sums p in
            omega arith;
        word_zero = replaced_at_else w.word_at i 0 (hit_word c) (λ e. omega arith) ∙ s.word_zero;
      }

  -- the control gives the index word i, which no version names that is recent or in hand, to the number p
  pub reassign_words : (w : World) (i p : ℕ) → WordsSound K G w → 0 < i → i ≤ G
      → ((x : ℕ) → IsRecent K w.cur x → has_index i (w.pairs_at x) ≡ false) → ((r x : ℕ) → r < w.readers → HasInHand x (w.reader_at r).own.phase → IsRecent K w.cur x)
      → has_index i w.done ≡ false → WordsSound K G (effect K w (Reassign i p))
  reassign_words w i p s low high free held apart =
      let c = w.word_at i in
      let n : ℕ = c.number in
      let w' : World = effect K w (Reassign i p) in
      let others : (j : ℕ) → j ≢ i → (w'.word_at j).number ≡ (w.word_at j).number = λ j d. ap (λ (y : Word). y.number) (replaced_at_else w.word_at i j (given_word p) d) in
      record {
        recent = λ y m. carried_but w w' i others (w.pairs_at y) (free y m) (s.recent y m);
        in_hand = λ q y m h. carried_but w w' i others (w.pairs_at y) (free y (held q y m h)) (s.in_hand q y m h);
        each_done = λ j q h.
            ⊎_elim
            (λ (e : (eqb i j && eqb p q) ≡ true).
            let f = and_parts _ _ e in
            let here : i ≡ j = eqb-true i j f.0 in
            let number : p ≡ q = eqb-true p q f.1 in
            (omega arith, omega arith, ap (λ (y : Word). y.number) (replaced_at_here w.word_at i j (given_word p) (sym here)) ∙ number))
            (λ (e : has_pair j q w.done ≡ true). carried_but w w' i others w.done apart s.each_done j q e)
            (or_cases _ _ h);
        done_free = λ j y h m.
            ⊎_elim
            (λ (e : eqb i j ≡ true). subst (λ z. has_index z (w.pairs_at y) ≡ false) (eqb-true i j e) (free y m))
            (λ (e : has_index j w.done ≡ true). s.done_free j y e m)
            (or_cases _ _ h);
        sums = λ q.
            let b = total_but (λ j. counted q (w'.word_at j)) (λ j. counted q (w.word_at j)) i (G + 1) (omega arith) (λ j d. ap (counted q) (replaced_at_else w.word_at i j (given_word p) d)) in
            let d : counted q (w'.word_at i) ≡ counted q (given_word p) = ap (counted q) (replaced_at_here w.word_at i i (given_word p) refl) in
            let e : replaced_at w.booked n (w.booked n + c.count) q + counted q (given_word p) ≡ w.booked q + counted q c = grind (arith, nat_tests) in
            let z = s.sums q in
            omega arith;
        word_zero = replaced_at_else w.word_at i 0 (given_word p) (λ e. omega arith) ∙ s.word_zero;
      }

  -- the control publishes the pairs m
  pub publish_words : (w : World) (m : List (ℕ × ℕ)) → 2 ≤ K → WordsSound K G w
      → each_among m (w.pairs_at w.cur) w.done ≡ true → ((r x : ℕ) → r < w.readers → HasInHand x (w.reader_at r).own.phase → IsRecent K w.cur x)
      → WordsSound K G (effect K w (Publish m))
  publish_words w m two s old held =
      let w' : World = effect K w (Publish m) in
      record {
        recent = replaced_at_all (λ x cs. IsRecent K (w.cur + 1) x → AreCarried G w cs) w.pairs_at (w.cur + 1) m
            (λ _ i p h. ⊎_elim
            (λ (e : has_pair i p (w.pairs_at w.cur) ≡ true). s.recent w.cur (omega arith, omega arith) i p e)
            (λ (e : has_pair i p w.done ≡ true). s.each_done i p e)
            (among i p m (w.pairs_at w.cur) w.done old h))
            (λ x d n. s.recent x (let a = n.0 in omega arith, let a = n.1 in omega arith));
        in_hand = λ r x l h.
            let n = (held r x l h).0 in
            subst (AreCarried G w) (sym (replaced_at_else w.pairs_at (w.cur + 1) x m (λ e. omega arith))) (s.in_hand r x l h);
        each_done = λ i p h. cc;
        done_free = λ i x h n. cc;
        sums = s.sums;
        word_zero = s.word_zero;
      }

  pub opening_words : (n : ℕ) → WordsSound K G (opening n)
  opening_words n = record {
    recent = λ x l i p h. cc;
    in_hand = λ r x l h. absurd h;
    each_done = λ i p h. cc;
    done_free = λ i x h n. cc;
    sums = λ p. no_hits n ∙ sym (no_counts p (G + 1));
    word_zero = refl;
  }
    where
      no_hits : (n : ℕ) → total (λ r. 0) n ≡ 0
      no_hits zero = refl
      no_hits (suc n) = let z = no_hits n in omega arith

      no_counts : (p n : ℕ) → 0 + total (λ i. counted p first_word) n ≡ 0
      no_counts p zero = refl
      no_counts p (suc n) = let z = no_counts p n in grind (arith, nat_tests)
