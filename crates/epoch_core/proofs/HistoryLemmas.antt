-- A history grows by one event at its end, and with it the part of the seat that makes the step, and no other's.
use Rattle.std.proofs.Common.{◌≡◌, ◌≢◌, ℕ, ◌≤◌, ◌<◌, Bool, true, false, true≢false, if◌then◌else◌, List, [], ◌∷◌, ◌++◌, append-nil, refl, sym, ap, ◌∙◌, subst, arith, eqb, eq-eqb, ne_eqb}
use Rattle.std.specs.Prelude.{filter}
use Rattle.std.proofs.lemmas.List.Elements.{filter-append}
use Rattle.epoch_core.specs.declared.event.Event.{Event}
use Rattle.epoch_core.specs.declared.view.ControlOwn.{ControlOwn}
use Rattle.epoch_core.specs.declared.view.Made.{Made}
use Rattle.epoch_core.specs.declared.view.Role.{Role}
use Rattle.epoch_core.specs.declared.view.Role.TheVariants.{Spent, Reader, Control, Note}
use Rattle.epoch_core.specs.declared.view.View.{View}
use Rattle.epoch_core.specs.World.{World, opening}
use Rattle.epoch_core.specs.Step.{enabled, step, run}
use Rattle.epoch_core.specs.History.{counted, made_of, made, history, is_of_reader, is_of_control, readers_part}
use Rattle.epoch_core.specs.Rule.{Ended, Owners, EndedFit, EndedParts, RoleFits, KeyFits, PartFits}

pub run_more : (K G : ℕ) (w : World) (es : List Event) (e : Event) → run K G w (es ++ e ∷ []) ≡ step K G (run K G w es) e
run_more K G w [] e = refl
run_more K G w (x ∷ es) e = run_more K G (step K G w x) es e

-- how many steps on words a list of events makes
abbrev pub clock : ℕ → ℕ → ℕ → World → List Event → ℕ
clock K G n w [] = n
clock K G n w (e ∷ es) = if enabled K G w e then clock K G (counted n e) (step K G w e) es else clock K G n (step K G w e) es

abbrev pub now_at : ℕ → ℕ → ℕ → List Event → ℕ
now_at K G n es = clock K G 0 (opening n) es

made_more : (K G n : ℕ) (w : World) (es : List Event) (e : Event) → enabled K G (run K G w es) e ≡ true → made K G n w (es ++ e ∷ []) ≡ made K G n w es ++ made_of (clock K G n w es) (run K G w es) e ∷ []
made_more K G n w [] e on = rw on refl
made_more K G n w (x ∷ es) e on = go (enabled K G w x) (made_more K G (counted n x) (step K G w x) es e on) (made_more K G n (step K G w x) es e on)
  where
    go : (t : Bool) (made_here : made K G (counted n x) (step K G w x) (es ++ e ∷ []) ≡ made K G (counted n x) (step K G w x) es ++ made_of (clock K G (counted n x) (step K G w x) es) (run K G (step K G w x) es) e ∷ [])
        (made_none : made K G n (step K G w x) (es ++ e ∷ []) ≡ made K G n (step K G w x) es ++ made_of (clock K G n (step K G w x) es) (run K G (step K G w x) es) e ∷ [])
        → (if t then made_of n w x ∷ made K G (counted n x) (step K G w x) (es ++ e ∷ []) else made K G n (step K G w x) (es ++ e ∷ []))
        ≡ (if t then made_of n w x ∷ made K G (counted n x) (step K G w x) es else made K G n (step K G w x) es) ++ made_of (if t then clock K G (counted n x) (step K G w x) es else clock K G n (step K G w x) es) (run K G (step K G w x) es) e ∷ []
    go true here none = ap (λ l. made_of n w x ∷ l) here
    go false here none = none

-- the history, when its world is x
pub history_more : (K G n : ℕ) (es : List Event) (e : Event) (x : World) → run K G (opening n) es ≡ x → enabled K G x e ≡ true → history K G n (es ++ e ∷ []) ≡ history K G n es ++ made_of (now_at K G n es) x e ∷ []
history_more K G n es e x ran on =
    made_more K G 0 (opening n) es e (ap (λ z. enabled K G z e) ran ∙ on)
    ∙ ap (λ z. history K G n es ++ made_of (now_at K G n es) z e ∷ []) ran

module _ (ms : List Made) (m : Made) where
  kept_of : (p : Made → Bool) → p m ≡ true → filter p (ms ++ m ∷ []) ≡ filter p ms ++ m ∷ []
  kept_of p is = filter-append p ms (m ∷ []) ∙ ap (λ l. filter p ms ++ l) (rw is refl)

  left_of : (p : Made → Bool) → p m ≡ false → filter p (ms ++ m ∷ []) ≡ filter p ms
  left_of p is = filter-append p ms (m ∷ []) ∙ (ap (λ l. filter p ms ++ l) (rw is refl) ∙ append-nil (filter p ms))

  pub reader_more : (r : ℕ) (l : List Made) → is_of_reader r m.event ≡ true → l ≡ readers_part r ms → l ++ m ∷ [] ≡ readers_part r (ms ++ m ∷ [])
  reader_more r l is fits = ap (λ k. k ++ m ∷ []) fits ∙ sym (kept_of (λ n. is_of_reader r n.event) is)

  reader_stays : (r : ℕ) (l : List Made) → is_of_reader r m.event ≡ false → l ≡ readers_part r ms → l ≡ readers_part r (ms ++ m ∷ [])
  reader_stays r l is fits = fits ∙ sym (left_of (λ n. is_of_reader r n.event) is)

-- the event is none of this reader's for each reader of the list
abbrev pub NotByEnded : List Ended → Event → Type 0
NotByEnded [] e = Unit {0}
NotByEnded (p ∷ ps) e = (is_of_reader p.0 e ≡ false) × NotByEnded ps e

-- the event is none of those whose steps a seat of this role knows
abbrev pub NotBy : Role → Event → Type 0
NotBy Spent e = Unit {0}
NotBy (Reader r o) e = is_of_reader r e ≡ false
NotBy (Control d) e = (is_of_control e ≡ false) × ((r : ℕ) → d.opened ≤ r → is_of_reader r e ≡ false) × NotByEnded d.ended e
NotBy (Note k v) e = Unit {0}

ended_parts : (ms : List Made) (m : Made) (ps : List Ended) → NotByEnded ps m.event → EndedParts ms ps → EndedParts (ms ++ m ∷ []) ps
ended_parts ms m [] other k = tt
ended_parts ms m (p ∷ ps) other k = (reader_stays ms m p.0 p.2 other.0 k.0, ended_parts ms m ps other.1 k.1)

pub part_stays : (ms : List Made) (m : Made) (role : Role) (l : List Made) → NotBy role m.event → PartFits ms role l → PartFits (ms ++ m ∷ []) role l
part_stays ms m Spent l other k = tt
part_stays ms m (Reader r o) l other k = reader_stays ms m r l other k
part_stays ms m (Control d) l other k = (
  k.0 ∙ sym (left_of ms m (λ n. is_of_control n.event) other.0),
  (λ r far. left_of ms m (λ n. is_of_reader r n.event) (other.1 r far) ∙ k.1 r far),
  ended_parts ms m d.ended other.2 k.2,
)
part_stays ms m (Note i v) l other k = tt

none_by_ended : (e : Event) → ((r : ℕ) → is_of_reader r e ≡ false) → (ps : List Ended) → NotByEnded ps e
none_by_ended e none [] = tt
none_by_ended e none (p ∷ ps) = (none p.0, none_by_ended e none ps)

pub control_more : (ms : List Made) (m : Made) (d d' : ControlOwn) (l : List Made) → d'.opened ≡ d.opened → d'.ended ≡ d.ended → is_of_control m.event ≡ true → ((r : ℕ) → is_of_reader r m.event ≡ false)
    → PartFits ms (Control d) l → PartFits (ms ++ m ∷ []) (Control d') (l ++ m ∷ [])
control_more ms m d d' l opened ended mine none k = (
  ap (λ n. n ++ m ∷ []) k.0 ∙ sym (kept_of ms m (λ n. is_of_control n.event) mine),
  (λ r far. left_of ms m (λ n. is_of_reader r n.event) (none r) ∙ k.1 r (subst (λ z. z ≤ r) opened far)),
  subst (λ ps. EndedParts (ms ++ m ∷ []) ps) (sym ended) (ended_parts ms m d.ended (none_by_ended m.event none d.ended) k.2),
)

-- what the rule says of a seat
abbrev pub Says : {Q : Type 0} → Q → World → Owners → List Made → ℕ → View Q → Type 0
Says key x owners ms j v = KeyFits v.role (v.key ≡ key) × RoleFits x owners j v.role × PartFits ms v.role v.steps

-- a step of one reader's seat is none of another seat's
not_by_ended : (x : World) (owners : Owners) (r : ℕ) (e : Event) → owners.ended r ≡ false → ((q : ℕ) → q ≢ r → is_of_reader q e ≡ false) → (ps : List Ended) → EndedFit x owners ps → NotByEnded ps e
not_by_ended x owners r e goes_on alone [] k = tt
not_by_ended x owners r e goes_on alone (p ∷ ps) k =
    let apart : p.0 ≢ r = λ i. true≢false (sym k.0 ∙ (ap owners.ended i ∙ goes_on)) in
    (alone p.0 apart, not_by_ended x owners r e goes_on alone ps k.3)

pub not_by_others : (x : World) (owners : Owners) (me j r : ℕ) (e : Event) → owners.reader_seat r ≡ me → r < owners.opened → owners.ended r ≡ false → j ≢ me → ((q : ℕ) → q ≢ r → is_of_reader q e ≡ false) → is_of_control e ≡ false
    → (role : Role) → RoleFits x owners j role → NotBy role e
not_by_others x owners me j r e mine low goes_on other alone free Spent k = tt
not_by_others x owners me j r e mine low goes_on other alone free (Reader q o) k =
    alone q (λ i. other (sym k.1 ∙ (ap owners.reader_seat i ∙ mine)))
not_by_others x owners me j r e mine low goes_on other alone free (Control d) k = (
  free,
  (λ q far. let begun : d.opened ≡ owners.opened = k.opened_are in alone q (λ i. omega arith)),
  not_by_ended x owners r e goes_on alone d.ended k.ended_fit,
)
not_by_others x owners me j r e mine low goes_on other alone free (Note i v) k = tt

-- a step of the control's seat is none of another seat's
pub not_by_beside : (x : World) (owners : Owners) (j : ℕ) (e : Event) → j ≢ owners.control_seat → ((q : ℕ) → is_of_reader q e ≡ false) → (role : Role) → RoleFits x owners j role → NotBy role e
not_by_beside x owners j e other none Spent k = tt
not_by_beside x owners j e other none (Reader q o) k = none q
not_by_beside x owners j e other none (Control d) k = absurd (other k.its_seat)
not_by_beside x owners j e other none (Note i v) k = tt

-- a step that is the reader's and no other's
pub is_mine : (r : ℕ) → eqb r r ≡ true
is_mine r = eq-eqb r r refl

pub is_not_mine : (r q : ℕ) → q ≢ r → eqb r q ≡ false
is_not_mine r q n = ne_eqb r q (λ e. n (sym e))
