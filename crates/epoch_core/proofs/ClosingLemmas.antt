-- The end of the readers' seats: those that the control has taken in are each another's, and where they are as many as
-- the readers, none is left.
use Rattle.std.proofs.Common.{◌≡◌, ℕ, zero, suc, ◌+◌, ◌<◌, ◌≤◌, Bool, true, false, true≢false, cond, eqb, ◌||◌, List, [], ◌∷◌, ◌++◌, map, length, set, get_or, Option, length-append, append-nil, refl, sym, ap, ◌∙◌, subst, ⊎_elim, arith}
use Rattle.std.specs.Prelude.{◌==◌, All, count_by}
use Rattle.std.specs.List.{AllByRecursion, IsDistinct, list_any}
use Rattle.std.proofs.lemmas.Bool.{cases_Bool}
use Rattle.std.proofs.lemmas.Bool.Decides.{nat_tests}
use Rattle.std.proofs.lemmas.List.Sums.{sum_by-cons}
use Rattle.std.proofs.lemmas.Map.Steps.{length-le_from_distinct_below}
use mathlib.Core.Option.{some, some-injective}
use lib.ListN.{get_elem?, length-map}
use lib.Seq.{set-get_or}
use Rattle.atomic_table.specs.Table.{State, keeps, stepped, Allows}
use Rattle.epoch_core.specs.declared.view.ControlOwn.{ControlOwn}
use Rattle.epoch_core.specs.declared.view.Own.{Own}
use Rattle.epoch_core.specs.declared.view.Phase.{Phase}
use Rattle.epoch_core.specs.declared.view.Phase.TheVariants.{Idle}
use Rattle.epoch_core.specs.declared.view.Role.TheVariants.{Reader, Control}
use Rattle.epoch_core.specs.declared.view.View.{View}
use Rattle.epoch_core.specs.World.{World}
use Rattle.epoch_core.specs.Sound.{HoldsBank, PhaseFits, Sound}
use Rattle.epoch_core.specs.Rule.{Ended, Owners, EndedFit, is_among, AreOnce, EpochRule}
use Rattle.epoch_core.specs.Follows.{StepFollows}
use Rattle.epoch_core.specs.Plays.{Mine, HaveSeen, closes, IsOneHistory}
use Rattle.epoch_core.specs.Running.{NoneIsLeft}
use Rattle.epoch_core.specs.Closing.{readers_of, IsOneOfEach}
use Rattle.epoch_core.specs.SeatViews.{ReaderView, ControlView}
use Rattle.epoch_core.proofs.ReaderSteps.{fits_at}
use Rattle.epoch_core.proofs.CountLemmas.{all_tallied}
use Rattle.epoch_core.proofs.EndedLemmas.{few_at_once, all_at_once, ended_at}

have_seen : (K G : ℕ) (x : World) (owners : Owners) (ps : List Ended) → Sound K G x → AreOnce x.readers ps → EndedFit x owners ps → HaveSeen x.cur ps
have_seen K G x owners [] sound a k = tt
have_seen K G x owners (p ∷ ps) sound a k = (
  k.2,
  subst (λ (o : Own). o.seen ≤ x.cur) k.1 (sound.each_reader p.0 a.0).order.1,
  have_seen K G x owners ps sound a.2 k.3,
)

set_same : {A : Type 0} (xs : List A) (i : ℕ) (x : A) → get_elem? xs i ≡ some x → set xs i x ≡ xs
set_same [] i x e = refl
set_same (y ∷ ys) zero x e = ap (λ z. z ∷ ys) (sym (some-injective y x e))
set_same (y ∷ ys) (suc i) x e = ap (λ zs. y ∷ zs) (set_same ys i x e)

module _ {Q C : Type 0} (K G : ℕ) (two : 2 ≤ K) (lawful : Q → ℕ → C → Type 0) (names : Q → ℕ → List (ℕ × ℕ)) (key : Q) where
  abbrev St : Type 0
  St = State (Option C) (View Q)

  abbrev Rule : St → Type 0
  Rule = EpochRule K G lawful names key

  -- the control looks at the version published last
  pub closing : (slots id : ℕ) (me : Mine Q C) (d : ControlOwn) → me.0.role ≡ Control d → StepFollows K G lawful names key slots id me 0 (λ n. n) (closes K G me) (λ x. x) (λ es. es)
  closing slots id me own role s h _ at _ =
      let x = h.world in
      let n : ℕ = get_or s.words 0 0 in
      let words = set-get_or s.words 0 0 in
      let views = set_same s.views id me.0 at in
      let still : s ≡ stepped s 0 n id me.1 me.0 keeps = λ i. record { words = sym words i; homes = s.homes; views = sym views i } in (
        me.0,
        keeps,
        tt,
        subst (λ (t : St). (h' : Rule t) × (h'.world ≡ x) × (h'.events ≡ h.events)) still (h, refl, refl),
        (
          refl,
          (λ d is. let say = fits_at K G two lawful names key s h id me.0 (Control d) is at in let k = say.1 in (
            h.cur_is ∙ sym k.version_is,
            subst (λ (c : ℕ). AreOnce c d.ended) (sym k.readers_are) k.once,
            subst (λ (c : ℕ). HaveSeen c d.ended) (sym k.version_is) (have_seen K G x h.owners d.ended h.sound k.once k.ended_fit),
            subst (λ (n : ℕ). IsOneHistory K G n d.version me.0.steps d.ended) (sym k.readers_are)
                (record { events = h.events; leads = ap (λ (w : World). w.cur) h.ran ∙ sym k.version_is; control = say.2.0; readers = say.2.2 }),
            all_tallied K G two lawful names key s h id me.0 d at is,
          )),
        ),
      )

  pub closing_at : (slots id : ℕ) (me : Mine Q C) (d : ControlOwn) → me.0.role ≡ Control d → Allows Rule slots id me 0 (λ n. n) (closes K G me)
  closing_at slots id me own role s h deep at small = let r = closing slots id me own role s h deep at small in (r.0, r.1, r.2, r.3.0, r.4)

  -- once the control has taken in as many seats as there are readers, none is left
  pub none_left : (s : St) (h : Rule s) (id : ℕ) (v : View Q) (d : ControlOwn) → get_elem? s.views id ≡ some v → v.role ≡ Control d → d.readers ≤ length d.ended → NoneIsLeft K h.world s.views
  none_left s h id v d at is many =
      let x = h.world in
      let k = (fits_at K G two lawful names key s h id v (Control d) is at).1 in
      let ended : (r : ℕ) → r < x.readers → (h.owners.ended r ≡ true) × ((x.reader_at r).own.phase ≡ Idle) =
      λ r l. ended_at x h.owners r d.ended k.ended_fit (all_at_once x.readers d.ended k.once (let e = k.readers_are in omega arith) r l) in record {
        no_seat = λ j r u o there reads. let f = (fits_at K G two lawful names key s h j u (Reader r o) reads there).1 in true≢false (sym (ended r f.0).0 ∙ f.4);
        outside = λ r l. (ended r l).1;
        silent = λ r l. let y = x.reader_at r in subst (λ (p : Phase). PhaseFits K x.cur y.ann y.own.seen y.passed p) (ended r l).1 (h.sound.each_reader r l).phase;
        free = λ r bank l near with_reader. let y = x.reader_at r in subst (λ (p : Phase). HoldsBank K bank p) (ended r l).1 (((h.sound.each_reader r l).places bank near).with_reader.0 with_reader);
      }

module _ {Q : Type 0} where
  count_at_once : (n r : ℕ) (seats : List (ReaderView Q)) → AreOnce n (readers_of seats) → count_by (λ s. s.number == r) seats ≡ cond (is_among r (readers_of seats)) 1 0
  count_at_once n r [] a = refl
  count_at_once n r (s ∷ seats) a =
      let first = sum_by-cons (λ (s : ReaderView Q). cond (s.number == r) 1 0) s seats in
      first ∙ one_more (s.number == r) (is_among r (readers_of seats)) (count_by (λ s. s.number == r) seats) (count_at_once n r seats a.2)
      (λ t. let e : s.number ≡ r = grind (arith, nat_tests) in subst (λ (q : ℕ). is_among q (readers_of seats) ≡ false) e a.1)
    where
      one_more : (b c : Bool) (n : ℕ) → n ≡ cond c 1 0 → (b ≡ true → c ≡ false) → cond b 1 0 + n ≡ cond (b || c) 1 0
      one_more true c n e f = let none : n ≡ 0 = e ∙ ap (λ (x : Bool). cond x 1 0) (f refl) in omega arith
      one_more false c n e f = let same : cond {A = ℕ} false 1 0 + n ≡ n = omega arith in same ∙ e

  -- the readers below n that have ended, as many as these seats and some others, are those of these seats alone
  pub one_of_each : (n : ℕ) (seats : List (ReaderView Q)) (others : List Ended) → AreOnce n (readers_of seats ++ others) → n ≤ length seats → IsOneOfEach n seats × (readers_of seats ++ others ≡ readers_of seats)
  one_of_each n seats [] a long =
      let whole : readers_of seats ++ [] ≡ readers_of seats = append-nil (readers_of seats) in
      let once : AreOnce n (readers_of seats) = subst (AreOnce n) whole a in
      let same : length (readers_of seats) ≡ length seats = length-map seats (λ (s : ReaderView Q). (s.number, s.own, s.steps)) in
      let few = few_at_once n (readers_of seats) once in (
        record {
          count = omega arith;
          each = λ r l. count_at_once n r seats once ∙ ap (λ (b : Bool). cond b 1 0) (all_at_once n (readers_of seats) once (omega arith) r l);
        },
        whole,
      )
  one_of_each n seats (p ∷ ps) a long =
      let few = few_at_once n (readers_of seats ++ p ∷ ps) a in
      let same : length (readers_of seats) ≡ length seats = length-map seats (λ (s : ReaderView Q). (s.number, s.own, s.steps)) in
      absurd (omega (arith, length-append (readers_of seats) (p ∷ ps)))

  pub have_all_seen : (version : ℕ) (seats : List (ReaderView Q)) → HaveSeen version (readers_of seats) → All (λ s. s.own.seen ≤ version) seats × All (λ s. s.own.phase ≡ Idle) seats
  have_all_seen version [] h = ((λ k d l. absurd (omega arith)), (λ k d l. absurd (omega arith)))
  have_all_seen version (s ∷ seats) h = let rest = have_all_seen version seats h.2 in ((λ k d l. seen rest k d l), (λ k d l. out rest k d l))
    where
      seen : All (λ s. s.own.seen ≤ version) seats × All (λ s. s.own.phase ≡ Idle) seats → All (λ s. s.own.seen ≤ version) (s ∷ seats)
      seen rest zero d l = h.1
      seen rest (suc k) d l = rest.0 k d (omega arith)

      out : All (λ s. s.own.seen ≤ version) seats × All (λ s. s.own.phase ≡ Idle) seats → All (λ s. s.own.phase ≡ Idle) (s ∷ seats)
      out rest zero d l = h.0
      out rest (suc k) d l = rest.1 k d (omega arith)

  -- only the seats taken in change, twice in turn
  pub taken_on : (a b c : ControlView Q) (l : List Ended) → b ≡ record a { own = record a.own { ended = b.own.ended } } → c ≡ record b { own = record b.own { ended = l } } → c ≡ record a { own = record a.own { ended = c.own.ended } }
  taken_on a b c l before now =
      let with : ControlView Q → List Ended → ControlView Q = λ v l. record v { own = record v.own { ended = l } } in
      now ∙ (ap (λ (v : ControlView Q). with v l) before ∙ ap (λ (k : List Ended). with a k) (sym (ap (λ (v : ControlView Q). v.own.ended) now)))

  -- one more seat is taken in
  pub readers_more : (seats : List (ReaderView Q)) (s : ReaderView Q) (others : List Ended) → readers_of seats ++ (s.number, s.own, s.steps) ∷ others ≡ readers_of (seats ++ s ∷ []) ++ others
  readers_more [] s others = refl
  readers_more (x ∷ seats) s others = ap (λ (ps : List Ended). (x.number, x.own, x.steps) ∷ ps) (readers_more seats s others)

-- what holds of all seats holds of those before the last
pub all_popped : {A : Type 0} (P : A → Type 0) (whole xs : List A) (x : A) → whole ≡ xs ++ x ∷ [] → All P whole → All P xs
all_popped P whole xs x e all = go xs x (subst (λ (l : List _). All P l) e all)
  where
    go : (xs : List _) (x : _) → All P (xs ++ x ∷ []) → All P xs
    go [] x all k d l = absurd (omega arith)
    go (y ∷ ys) x all zero d l = all 0 d (omega arith)
    go (y ∷ ys) x all (suc k) d l = go ys x (λ j e m. all (suc j) e (omega arith)) k d (omega arith)
