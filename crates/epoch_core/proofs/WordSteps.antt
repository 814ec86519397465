-- The steps on index words: a hit of a reader's seat, and a reassignment of the control's.
use Rattle.std.proofs.Common.{◌≡◌, ◌≢◌, ℕ, zero, suc, ◌+◌, ◌*◌, ◌/◌, ◌%◌, ◌^◌, ◌<◌, ◌≤◌, Bool, true, false, true≢false, not, ◌&&◌, ◌||◌, ltb, leb, eqb, List, [], ◌∷◌, ◌++◌, length, get_or, set, Option, Some, None, refl, sym, ap, ◌∙◌, subst, arith, nat_lt, length-set, get_or-set_other, get_or-set_same}
use Rattle.std.proofs.lemmas.Bool.Decides.{nat_tests}
use mathlib.Core.Logic.{dite}
use mathlib.Core.Option.{none, some}
use mathlib.Core.Option as maybe
use native.Mathlib.Decide.{ℕ_discrete}
use lib.ListN.{get_elem?}
use lib.Seq.{set-get_or}
use Rattle.std.proofs.Math.Nat.{mod-lt, mod-eq_of_lt}
use Rattle.atomic_table.specs.Table.{State, keeps, Allows}
use Rattle.epoch_core.specs.declared.event.Event.TheVariants as event
use Rattle.epoch_core.specs.declared.view.ControlOwn.{ControlOwn}
use Rattle.epoch_core.specs.declared.view.Own.{Own}
use Rattle.epoch_core.specs.declared.view.Phase.TheVariants.{Idle, Standing, Holding}
use Rattle.epoch_core.specs.declared.view.Role.TheVariants.{Spent, Reader, Control, Note}
use Rattle.epoch_core.specs.declared.view.View.{View}
use Rattle.epoch_core.specs.World as w
use Rattle.epoch_core.specs.World.{World, Word, word_value}
use Rattle.epoch_core.specs.Step.{most_hits, has_pair, has_index, hit_own, hit_word, hit_reader, given_word, is_recent, is_unnamed, is_index, all_passed, version_in_hand, replaced_at, enabled, effect, step}
use Rattle.epoch_core.specs.Sound.{HasInHand, Carries, IsRecent}
use Rattle.epoch_core.specs.Rule.{TallyFits, RoleFits, booked_of, EpochRule, announcement_word, index_word}
use Rattle.epoch_core.specs.declared.view.Made.{Made}
use Rattle.epoch_core.specs.History.{OneMore, made_of, history}
use Rattle.epoch_core.proofs.HistoryLemmas.{now_at, Says, is_mine, is_not_mine}
use Rattle.epoch_core.specs.Follows.{Follows, StepFollows}
use Rattle.epoch_core.specs.Plays.{tallies, tallied_control, Mine, view, ReaderGoes, ControlGoes, hits, reassigns, reassigned_control}
use Rattle.epoch_core.proofs.ControlSteps.{control_step, control_goes, all_passed_is, ended_fit_still}
use Rattle.epoch_core.proofs.ReaderLemmas.{replaced_at_here, replaced_at_else, replaced_at_all, kept}
use Rattle.epoch_core.proofs.ReaderSteps.{views_after, reader_step, reader_goes, fits_at, lt_is, takes_effect, allows}
use Rattle.epoch_core.proofs.WordLemmas.{index_pair}
use Rattle.epoch_core.proofs.WorldLemmas.{effect_sound, count_is_small, booked_is_small, all_booked_small}

-- the number and the count of a word's value
pub word_parts : (n a c : ℕ) → n ≡ a * 4294967296 + c → c < 4294967296 → (n / 4294967296 ≡ a) × (n % 4294967296 ≡ c)
word_parts n a c e l = (omega arith, omega arith)

-- one more hit fits the word
pub no_wrap : (n a c : ℕ) → n ≡ a * 4294967296 + c → n < 18446744073709551616 → c ≤ 1073741824 → (n + 1) % 2 ^ 64 ≡ n + 1
no_wrap n a c e l m = mod-eq_of_lt (omega arith)

-- an index that no recent version names
unnamed_is : (K cur i n : ℕ) (pairs_at : ℕ → List (ℕ × ℕ)) → n ≤ cur + 1 → ((x : ℕ) → IsRecent K cur x → has_index i (pairs_at x) ≡ false) → is_unnamed K cur pairs_at i n ≡ true
unnamed_is K cur i zero pairs_at l free = refl
unnamed_is K cur i (suc x) pairs_at l free = let rest = unnamed_is K cur i x pairs_at (omega arith) free in go (is_recent K cur x) refl rest
  where
    go : (t : Bool) → is_recent K cur x ≡ t → is_unnamed K cur pairs_at i x ≡ true → ((not t || not (has_index i (pairs_at x))) && is_unnamed K cur pairs_at i x) ≡ true
    go true e rest = let near : cur + 1 < x + K = grind (arith, nat_tests) in rw (free x (omega arith, near), rest) refl
    go false e rest = rw rest refl

may_reassign : (K G : ℕ) (x : World) (i p : ℕ) → all_passed x.reader_at x.readers ≡ true → 0 < i → i ≤ G → is_unnamed K x.cur x.pairs_at i (x.cur + 1) ≡ true → has_index i x.done ≡ false → enabled K G x (event.Reassign i p) ≡ true
may_reassign K G x i p passed low high free apart = rw (passed, index, free, apart) refl
  where
    index : is_index G i ≡ true
    index = grind (arith, nat_tests)

-- the count of a word that is given away is booked
booked_more : (f : ℕ → ℕ) (l : List (ℕ × ℕ)) → ((q : ℕ) → f q ≡ booked_of q l) → (a c b d q : ℕ) → b ≡ a → d ≡ c → replaced_at f a (f a + c) q ≡ booked_of q ((b, d) ∷ l)
booked_more f l is a c b d q e g = let m = is q in let o = is a in grind (arith, nat_tests)

may_hit : (K G : ℕ) (x : World) (r i a v : ℕ) → r < x.readers → (x.reader_at r).own.phase ≡ Holding a v → has_index i (x.pairs_at v) ≡ true → length (x.reader_at r).own.hits < most_hits → enabled K G x (event.Hit r i) ≡ true
may_hit K G x r i a v l held named few = rw (lt_is r x.readers l, held, named, lt_is (length (x.reader_at r).own.hits) most_hits few) refl

module _ {Q C : Type 0} (K G : ℕ) (two : 2 ≤ K) (lawful : Q → ℕ → C → Type 0) (names : Q → ℕ → List (ℕ × ℕ)) (key : Q) where
  abbrev St : Type 0
  St = State (Option C) (View Q)

  abbrev Rule : St → Type 0
  Rule = EpochRule K G lawful names key

  pub hitting : (slots id : ℕ) (me : Mine Q C) (r i : ℕ) (o : Own) (a v : ℕ) → me.0.role ≡ Reader r o → o.phase ≡ Holding a v → has_index i (names me.0.key v) ≡ true → length o.hits < most_hits
      → Follows K G lawful names key slots id me (index_word i) (λ n. (n + 1) % 2 ^ 64) (hits names (index_word i) me) (event.Hit r i)
  hitting slots id me r i o a u is out named few_hits s h _ at small =
      let x = h.world in
      let y = x.reader_at r in
      let n : ℕ = get_or s.words (index_word i) 0 in
      let seen = fits_at K G two lawful names key s h id me.0 (Reader r o) is at in
      let k = seen.1 in
      let inside = k.0 in
      let same : y.own ≡ o = k.2 in
      let sound = kept K x.cur y (h.sound.each_reader r inside) in
      let held : y.own.phase ≡ Holding a u = ap (λ (z : Own). z.phase) same ∙ out in
      let phase = rw held at sound.phase in
      let order = sound.order in
      let pairs : x.pairs_at u ≡ names me.0.key u = h.names_are u (omega arith) ∙ (λ j. names (sym seen.0 j) u) in
      let named' : has_index i (x.pairs_at u) ≡ true = subst (λ (z : List (ℕ × ℕ)). has_index i z ≡ true) (sym pairs) named in
      let few' : length y.own.hits < most_hits = subst (λ (z : Own). length z.hits < most_hits) (sym same) few_hits in
      let hand : HasInHand u y.own.phase = rw held refl in
      let pair = index_pair i (x.pairs_at u) named' in
      let carried : Carries G x i pair.0 = h.sound.index_words.in_hand r u inside hand i pair.0 pair.1 in
      let high = carried.1 in
      let c : Word = x.word_at i in
      let word : n ≡ c.number * 4294967296 + c.count = h.word_is i high in
      let count : c.count ≤ 1073741824 = count_is_small K G x h.sound h.few i high in
      let parts = word_parts n c.number c.count word (omega arith) in
      let m : ℕ = (n + 1) % 2 ^ 64 in
      let next : m ≡ n + 1 = no_wrap n c.number c.count word small count in
      let on = may_hit K G x r i a u inside held named' few' in
      let word_at' : ℕ → Word = replaced_at x.word_at i (hit_word c) in
      let t : ℕ = now_at K G x.readers h.events in
      let l : List Made = me.0.steps ++ made_of t x (event.Hit r i) ∷ [] in
      let v : View Q = view me.0.key (Reader r (hit_own (n / 4294967296) o)) l in
      let own_is : hit_own c.number y.own ≡ hit_own (n / 4294967296) o = λ j. hit_own (sym parts.0 j) (same j) in
      let few = h.few in
      let wide = h.wide in
      let done = reader_step K G two lawful names key s h (event.Hit r i) r o (hit_own (n / 4294967296) o) me.0.steps (hit_reader c.number) word_at' (set s.words (index_word i) m) s.homes id k
      seen.2 on refl (is_mine r) (λ q n. is_not_mine r q n) refl
      (effect_sound K G two x (event.Hit r i) h.sound on)
      (replaced_at_all (λ j z. z.number ≡ (x.word_at j).number) x.word_at i (hit_word c) refl (λ j _. refl))
      own_is refl
      (length-set s.words (index_word i) m) (get_or-set_other s.words (index_word i) 0 m 0 (λ e. omega arith))
      (get_or-set_other s.words (index_word i) (announcement_word r) m 0 (λ e. omega arith) ∙ h.ann_is r inside)
      (λ q l d. get_or-set_other s.words (index_word i) (announcement_word q) m 0 (λ e. omega arith))
      (replaced_at_all (λ j z. j ≤ G → get_or (set s.words (index_word i) m) (index_word j) 0 ≡ word_value z) x.word_at i (hit_word c)
      (λ _. get_or-set_same s.words (index_word i) m 0 (omega arith) ∙ omega arith)
      (λ j d l. get_or-set_other s.words (index_word i) (index_word j) m 0 (λ e. d (omega arith)) ∙ h.word_is j l))
      refl (λ b l. h.each_place r b inside l) (λ q b _ _. refl) v (ap (λ q. view q (Reader r (hit_own (n / 4294967296) o)) l) seen.0) in (
        v,
        keeps,
        tt,
        done,
        (
          refl,
          λ j e.
              let here : i ≡ j = omega arith in
              reader_goes K G two lawful names key me (v, me.1) r o (hit_own (n / 4294967296) o) (λ z. event.Hit z j) (λ _. n)
              (λ _ z p. (p ≡ hit_own (n / 4294967296) z) × ((q : ℕ) → has_pair j q (names me.0.key (version_in_hand z.phase)) ≡ true → n / 4294967296 ≡ q)) is refl (
                refl,
                λ q has.
                    let same_version : version_in_hand o.phase ≡ u = ap version_in_hand out in
                    let has' : has_pair i q (x.pairs_at u) ≡ true = subst (λ (z : List (ℕ × ℕ)). has_pair i q z ≡ true) (sym pairs) (subst (λ (z : ℕ × ℕ). has_pair z.0 q (names me.0.key z.1) ≡ true) (λ t. (sym here t, same_version t)) has) in
                    parts.0 ∙ (h.sound.index_words.in_hand r u inside hand i q has').2,
              )
              (t + 1, λ a. me.0.steps ++ record { at = t + 1; event = event.Hit r (here a); number = sym word a } ∷ []),
        ),
      )

  pub hitting_at : (slots id word : ℕ) (me : Mine Q C) (r i : ℕ) (o : Own) (a v : ℕ) → me.0.role ≡ Reader r o → o.phase ≡ Holding a v → has_index i (names me.0.key v) ≡ true → length o.hits < most_hits
      → word ≡ index_word i → Allows Rule slots id me word (λ n. (n + 1) % 2 ^ 64) (hits names word me)
  hitting_at slots id word me r i o a v is out named few e =
      subst (λ (u : ℕ). Allows Rule slots id me u (λ n. (n + 1) % 2 ^ 64) (hits names u me)) (sym e) (allows K G two lawful names key slots id me (index_word i) (λ n. (n + 1) % 2 ^ 64) (hits names (index_word i) me) (event.Hit r i) (hitting slots id me r i o a v is out named few))

  pub reassigning : (slots id i p : ℕ) (me : Mine Q C) (d : ControlOwn) → me.0.role ≡ Control d → d.passed ≡ d.readers → 0 < i → i ≤ G → p ≤ d.numbers
      → ((u : ℕ) → IsRecent K d.version u → has_index i (names me.0.key u) ≡ false) → has_index i d.done ≡ false → d.tallied ≡ []
      → Follows K G lawful names key slots id me (index_word i) (λ _. p * 4294967296) (reassigns (index_word i) (p * 4294967296) me) (event.Reassign i p)
  reassigning slots id i p me d is all low high bound free apart untallied s h _ at small =
      let x = h.world in
      let n : ℕ = get_or s.words (index_word i) 0 in
      let m : ℕ = p * 4294967296 in
      let seen = fits_at K G two lawful names key s h id me.0 (Control d) is at in
      let k = seen.1 in
      let counts : d.readers ≡ x.readers = k.readers_are in
      let version : d.version ≡ x.cur = k.version_is in
      let few = h.few in
      let wide = h.wide in
      let passed : (r : ℕ) → r < x.readers → (x.reader_at r).passed ≡ true = λ r l. k.passed_are r l ∙ lt_is r d.passed (omega arith) in
      let free' : (u : ℕ) → IsRecent K x.cur u → has_index i (x.pairs_at u) ≡ false =
      λ u near. subst (λ (z : List (ℕ × ℕ)). has_index i z ≡ false) (sym (h.names_are u near.0 ∙ (λ j. names (sym seen.0 j) u))) (free u (subst (λ (c : ℕ). IsRecent K c u) (sym version) near)) in
      let apart' : has_index i x.done ≡ false = subst (λ (z : List (ℕ × ℕ)). has_index i z ≡ false) k.done_is apart in
      let on = may_reassign K G x i p (all_passed_is x.reader_at x.readers passed) low high (unnamed_is K x.cur i (x.cur + 1) x.pairs_at (omega arith) free') apart' in
      let c : Word = x.word_at i in
      let word : n ≡ c.number * 4294967296 + c.count = h.word_is i high in
      let count : c.count ≤ 1073741824 = count_is_small K G x h.sound h.few i high in
      let parts = word_parts n c.number c.count word (omega arith) in
      let booked = k.booked_are c.number in
      let small_sum = booked_is_small K G x h.sound h.few i high in
      let room : booked_of c.number d.booked + c.count ≤ 1073741824 = omega arith in
      let d' : ControlOwn = reassigned_control i p n d in
      let x' : World = effect K x (event.Reassign i p) in
      let t : ℕ = now_at K G x.readers h.events in
      let l : List Made = me.0.steps ++ made_of t x (event.Reassign i p) ∷ [] in
      let v : View Q = view me.0.key (Control d') l in
      let done = control_step K G two lawful names key s h (event.Reassign i p) x' d d' me.0.steps (set s.words (index_word i) m) s.homes id k.its_seat seen.2 refl refl on refl refl (λ q. refl) refl (λ r. refl) refl refl
      (effect_sound K G two x (event.Reassign i p) h.sound on) h.low
      (length-set s.words (index_word i) m ∙ wide) h.deep (get_or-set_other s.words (index_word i) 0 m 0 (λ e. omega arith) ∙ h.cur_is)
      (λ r l. get_or-set_other s.words (index_word i) (announcement_word r) m 0 (λ e. omega arith) ∙ h.ann_is r l)
      (replaced_at_all (λ j z. j ≤ G → get_or (set s.words (index_word i) m) (index_word j) 0 ≡ word_value z) x.word_at i (given_word p)
      (λ _. get_or-set_same s.words (index_word i) m 0 (omega arith) ∙ omega arith)
      (λ j a l. get_or-set_other s.words (index_word i) (index_word j) m 0 (λ e. a (omega arith)) ∙ h.word_is j l))
      h.names_are h.each_place record { its_seat = k.its_seat; readers_are = k.readers_are; version_is = k.version_is; passed_are = k.passed_are; scans_are = k.scans_are; found_is = k.found_is; made_are = k.made_are; opened_are = k.opened_are; unopened = k.unopened; ended_fit = ended_fit_still x x' h.owners (λ r. refl) d.ended k.ended_fit; once = k.once; done_is = ap (λ (z : List (ℕ × ℕ)). (i, p) ∷ z) k.done_is; booked_are = (λ q. booked_more x.booked d.booked k.booked_are c.number c.count (n / 4294967296) (n % 4294967296) q parts.0 parts.1); numbers_low = replaced_at_all (λ j z. z.number ≤ d.numbers) x.word_at i (given_word p) bound (λ j _. k.numbers_low j); tally_fits = subst (λ (cs : List (ℕ × ℕ)). TallyFits x'.word_at d.readers (length d.ended) cs) (sym untallied) tt } v (ap (λ q. view q (Control d') l) seen.0) in (
        v,
        keeps,
        tt,
        done,
        (
          refl,
          λ j q e f.
              let here : i ≡ j = omega arith in
              let number : p ≡ q = omega arith in
              let low_number = k.numbers_low i in
              control_goes K G two lawful names key me (v, me.1) d (reassigned_control j q n) (λ u. (n / 4294967296 ≤ u.numbers) × (booked_of (n / 4294967296) u.booked + n % 4294967296 ≤ 1073741824) × OneMore me.0.steps (event.Reassign j q) n l) is
              (λ a. view me.0.key (Control (reassigned_control (here a) (number a) n d)) l) (
                subst (λ z. z ≤ d.numbers) (sym parts.0) low_number,
                subst (λ (z : ℕ × ℕ). booked_of z.0 d.booked + z.1 ≤ 1073741824) (λ a. (sym parts.0 a, sym parts.1 a)) room,
                (t + 1, λ a. me.0.steps ++ record { at = t + 1; event = event.Reassign (here a) (number a); number = sym word a } ∷ []),
              ),
        ),
      )

  pub reassigning_at : (slots id word new i p : ℕ) (me : Mine Q C) (d : ControlOwn) → me.0.role ≡ Control d → d.passed ≡ d.readers → 0 < i → i ≤ G → p ≤ d.numbers
      → ((u : ℕ) → IsRecent K d.version u → has_index i (names me.0.key u) ≡ false) → has_index i d.done ≡ false → d.tallied ≡ [] → word ≡ index_word i → new ≡ p * 4294967296
      → Allows Rule slots id me word (λ _. new) (reassigns word new me)
  reassigning_at slots id word new i p me d is all low high bound free apart untallied e f =
      subst (λ (u : ℕ × ℕ). Allows Rule slots id me u.0 (λ _. u.1) (reassigns u.0 u.1 me)) (λ j. (sym e j, sym f j)) (allows K G two lawful names key slots id me (index_word i) (λ _. p * 4294967296) (reassigns (index_word i) (p * 4294967296) me) (event.Reassign i p) (reassigning slots id i p me d is all low high bound free apart untallied))

  -- the control tallies a word, once it has taken in as many seats as there are readers: the world stays
  pub tallying : (slots id i : ℕ) (me : Mine Q C) (d : ControlOwn) → me.0.role ≡ Control d → d.readers ≤ length d.ended → i ≤ G
      → StepFollows K G lawful names key slots id me (index_word i) (λ n. n) (tallies (index_word i) me) (λ x. x) (λ es. es)
  tallying slots id i me d is many high s h _ at small =
      let x = h.world in
      let n : ℕ = get_or s.words (index_word i) 0 in
      let seen = fits_at K G two lawful names key s h id me.0 (Control d) is at in
      let k = seen.1 in
      let ms : List Made = history K G x.readers h.events in
      let words = set-get_or s.words (index_word i) 0 in
      let c : Word = x.word_at i in
      let word : n ≡ c.number * 4294967296 + c.count = h.word_is i high in
      let count : c.count ≤ 1073741824 = count_is_small K G x h.sound h.few i high in
      let parts = word_parts n c.number c.count word (omega arith) in
      let low_number = k.numbers_low i in
      let v : View Q = view me.0.key (Control (tallied_control i n d)) me.0.steps in
      let says : Says key x h.owners ms id v = (seen.0, record { its_seat = k.its_seat; readers_are = k.readers_are; version_is = k.version_is; passed_are = k.passed_are; scans_are = k.scans_are; found_is = k.found_is; made_are = k.made_are; opened_are = k.opened_are; unopened = k.unopened; ended_fit = k.ended_fit; once = k.once; done_is = k.done_is; booked_are = k.booked_are; numbers_low = k.numbers_low; tally_fits = (many, sym word, k.tally_fits) }, seen.2) in
      let done : (h' : Rule record { words = set s.words (index_word i) n; homes = s.homes; views = set s.views id v }) × (h'.world ≡ x) × (h'.events ≡ h.events) =
      subst (λ (ws : List ℕ). (h' : Rule record { words = ws; homes = s.homes; views = set s.views id v }) × (h'.world ≡ x) × (h'.events ≡ h.events)) (sym words) (
        record {
          world = x;
          owners = h.owners;
          events = h.events;
          ran = h.ran;
          sound = h.sound;
          few = h.few;
          low = h.low;
          wide = h.wide;
          deep = h.deep;
          cur_is = h.cur_is;
          ann_is = h.ann_is;
          word_is = h.word_is;
          names_are = h.names_are;
          each_view = views_after K G two lawful names key (λ j u. Says key x h.owners ms j u) s.views id v says (λ j u _ there. h.each_view j u there);
          each_place = h.each_place;
        },
        refl,
        refl,
      ) in (
        v,
        keeps,
        tt,
        done,
        (
          refl,
          λ j e.
              let here : i ≡ j = omega arith in
              control_goes K G two lawful names key me (v, me.1) d (tallied_control j n) (λ u. (n / 4294967296 ≤ u.numbers) × (n % 4294967296 ≤ 1073741824) × ((p : ℕ) → booked_of p u.booked ≤ 1073741824) × (me.0.steps ≡ me.0.steps)) is
              (λ a. view me.0.key (Control (tallied_control (here a) n d)) me.0.steps)
              (subst (λ z. z ≤ d.numbers) (sym parts.0) low_number, subst (λ z. z ≤ 1073741824) (sym parts.1) count, (λ p. subst (λ z. z ≤ 1073741824) (k.booked_are p) (all_booked_small K G x h.sound h.few p)), refl),
        ),
      )

  pub tallying_at : (slots id word i : ℕ) (me : Mine Q C) (d : ControlOwn) → me.0.role ≡ Control d → d.readers ≤ length d.ended → i ≤ G → word ≡ index_word i
      → Allows Rule slots id me word (λ n. n) (tallies word me)
  tallying_at slots id word i me d is many high e =
      subst (λ (u : ℕ). Allows Rule slots id me u (λ n. n) (tallies u me)) (sym e) (λ s h deep at small. let r = tallying slots id i me d is many high s h deep at small in (r.0, r.1, r.2, r.3.0, r.4))

  -- what is tallied of a word is what the word holds
  pub tallied_true : (s : St) (h : Rule s) (id : ℕ) (v : View Q) (d : ControlOwn) → get_elem? s.views id ≡ some v → v.role ≡ Control d
      → (i n : ℕ) → i ≤ G → has_pair i n d.tallied ≡ true → n ≡ get_or s.words (index_word i) 0
  tallied_true s h id v d at is i n high has =
      let k = (fits_at K G two lawful names key s h id v (Control d) is at).1 in
      go d.readers (length d.ended) d.tallied k.tally_fits has ∙ sym (h.word_is i high)
    where
      go : (readers ended : ℕ) (cs : List (ℕ × ℕ)) → TallyFits h.world.word_at readers ended cs → has_pair i n cs ≡ true → n ≡ word_value (h.world.word_at i)
      go readers ended [] t has = absurd (true≢false (sym has))
      go readers ended (c ∷ cs) t has = here (eqb c.0 i) refl (eqb c.1 n) refl has (go readers ended cs t.2)
        where
          here : (a : Bool) → eqb c.0 i ≡ a → (b : Bool) → eqb c.1 n ≡ b → ((a && b) || has_pair i n cs) ≡ true → (has_pair i n cs ≡ true → n ≡ word_value (h.world.word_at i)) → n ≡ word_value (h.world.word_at i)
          here true e true f has rest =
              let index : c.0 ≡ i = grind (arith, nat_tests) in
              let number : c.1 ≡ n = grind (arith, nat_tests) in
              sym number ∙ (sym t.1 ∙ ap (λ (j : ℕ). word_value (h.world.word_at j)) index)
          here true e false f has rest = rest has
          here false e true f has rest = rest has
          here false e false f has rest = rest has
