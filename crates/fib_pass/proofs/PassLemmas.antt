-- What a pass and the publisher keep.
use Rattle.std.proofs.Common.{◌≡◌, ℕ, zero, suc, ◌+◌, ◌<◌, ◌≤◌, Option, Some, None, List, [], ◌∷◌, ◌++◌, append_assoc, length, map, refl, sym, ◌∙◌, ap, subst, arith, get_or}
use Rattle.std.specs.Prelude.{All, slice_get, slice_index_or}
use Rattle.std.proofs.lemmas.List.Elements.{All-nil, All-cons, All-tail}
use Rattle.std.proofs.lemmas.Option.{slice_get_within}
use Rattle.atomic_table.specs.Seated.{TableId}
use Rattle.prefix_width.specs.Nexthop.{Hop}
use Rattle.rib_store.specs.Limits.{plan_max}
use Rattle.prefix_width.specs.Limits.{AreBanks, last_index}
use Rattle.rib_store.specs.Plan.{Planned, firsts, named}
use Rattle.rib_store.specs.Weights.{IsWeighted}
use Rattle.plan_cut.specs.PlanCourse.{course_of, versions_of}
use Rattle.plan_cut.specs.Versions.{versions}
use Rattle.plan_cut.proofs.ListingLemmas.{final_number, length-versions}
use Rattle.engine_set.specs.Image.{Picture}
use Rattle.fib_sync.specs.Lawful.{IsLawful, Names}
use Rattle.fib_sync.specs.VersionNames.{fresh_at, names_at, pairs_at}
use Rattle.epoch_core.specs.declared.event.Event.TheVariants.{Leave}
use Rattle.epoch_core.specs.declared.view.Made.{Made}
use Rattle.epoch_core.specs.Fresh.{AreFresh, NamesFit}
use Rattle.epoch_core.specs.History.{EnterSteps, OneMore, PublishedThen}
use Rattle.epoch_core.specs.SeatViews.{AreFirstSeats, ControlView, ReaderView}
use Rattle.epoch_core.specs.World.{first_own}
use Rattle.fib_pass.proofs.FreshLemmas.{fresh_pairs_are_free, names_are_fit}
use Rattle.fib_pass.specs.Lookups.{AreReads, HitStep, HitsAnswer, LookupSteps}
use Rattle.fib_pass.specs.Views.{AreNewPasses, IsFresh, IsNumber, IsPass, PassView, new_pass, seat_or_none}

all_first : {X : Type 0} (P : X → Type 0) (xs : List X) → 1 ≤ length xs → All P xs → (x : X) × P x
all_first P [] some all = absurd (omega arith)
all_first P (x ∷ xs) some all = (x, all 0 x (omega arith))

module _ {w : ℕ} where
  pub pass_at : (plan : Planned w) (o : Option (ReaderView (Planned w))) (s : ReaderView (Planned w)) (n : ℕ) → o ≡ Some s → IsPass plan (seat_or_none plan o) n → IsPass plan s n
  pass_at plan o s n e is = subst (λ (x : Option (ReaderView (Planned w))). IsPass plan (seat_or_none plan x) n) e is

  -- a step that makes no hit
  pub pass_moved : (plan : Planned w) (seat new : ReaderView (Planned w)) (n : ℕ) → new.key ≡ seat.key → new.own.hits ≡ seat.own.hits → IsPass plan seat n → IsPass plan new n
  pass_moved plan seat new n key hits is = record {
    keyed = key ∙ is.keyed;
    weighted = is.weighted;
    most = is.most;
    few = let l = is.few in let e : length new.own.hits ≡ length seat.own.hits = ap length hits in omega arith;
    numbered = subst (All (IsNumber plan)) (sym hits) is.numbered;
  }

  -- a lookup
  pub pass_counted : (plan same : Planned w) (seat new : ReaderView (Planned w)) (n : ℕ) (o : Option Hop) → same ≡ plan → (n ≡ 16777216 → ⊥) → new.key ≡ seat.key → HitsAnswer same o seat.own.hits new.own.hits → IsPass plan seat n → IsPass plan new (n + 1)
  pass_counted plan same seat new n None e left key hits is = record {
    keyed = key ∙ is.keyed;
    weighted = is.weighted;
    most = let m = is.most in omega arith;
    few = let l = is.few in let k : length new.own.hits ≡ length seat.own.hits = ap length hits in omega arith;
    numbered = subst (All (IsNumber plan)) (sym hits) is.numbered;
  }
  pass_counted plan same seat new n (Some h) e left key hits is =
      let at : HitsAnswer plan (Some h) seat.own.hits new.own.hits = subst (λ x. HitsAnswer x (Some h) seat.own.hits new.own.hits) e hits in
      record {
        keyed = key ∙ is.keyed;
        weighted = is.weighted;
        most = let m = is.most in omega arith;
        few = let l = is.few in let k : length new.own.hits ≡ length (at.0 ∷ seat.own.hits) = ap length at.2 in omega arith;
        numbered = subst (All (IsNumber plan)) (sym at.2) (All-cons (IsNumber plan) at.0 seat.own.hits (h, at.1) is.numbered);
      }

  pub lookup_steps : (names : Names w) (r a_number b_number : ℕ) (before a b after : List Made) (found found' version version' : ℕ) (answer : Option Hop)
      → EnterSteps r before found version a → found' ≡ found → version' ≡ version → HitStep names a_number answer a b → a_number ≡ r → OneMore b (Leave b_number) 0 after → b_number ≡ r
      → LookupSteps names r before found' version' answer after
  lookup_steps names r a_number b_number before a b after found found' version version' answer enters ef ev hits ea leaves eb = (
    a,
    b,
    subst (λ f. EnterSteps r before f version' a) (sym ef) (subst (λ v. EnterSteps r before found v a) (sym ev) enters),
    subst (λ n. HitStep names n answer a b) ea hits,
    subst (λ n. OneMore b (Leave n) 0 after) eb leaves,
  )

  pub steps_moved : (K most : ℕ) (plan key : Planned w) (s seat : ReaderView (Planned w)) (found v : ℕ) (answer : Option Hop) (after : List Made) → plan ≡ key → s ≡ seat
      → LookupSteps (names_at K most plan v) s.number s.steps found v answer after → LookupSteps (names_at K most key v) seat.number seat.steps found v answer after
  steps_moved K most plan key s seat found v answer after e f h =
      subst (λ x. LookupSteps (names_at K most x v) seat.number seat.steps found v answer after) e
      (subst (λ (x : ReaderView (Planned w)). LookupSteps (names_at K most plan v) x.number x.steps found v answer after) f h)

  -- the seat that is at hand is the one that contracts see
  pub seat_seen : (plan : Planned w) (o : Option (ReaderView (Planned w))) (s : ReaderView (Planned w)) (view : PassView w) (n : ℕ) → o ≡ Some s → record { seat = seat_or_none plan o; lookups = n } ≡ view → s ≡ view.seat
  seat_seen plan o s view n e f = sym (ap (seat_or_none plan) e) ∙ (λ i. (f i).seat)

  pub reads_moved : (K most : ℕ) (plan key : Planned w) (v n : ℕ) → plan ≡ key → AreReads K most key v n → AreReads K most plan v n
  reads_moved K most plan key v n e reads = subst (λ x. AreReads K most x v n) (sym e) reads

  -- ---- the publisher

  -- there are fewer versions than 2 ^ 32
  pub version_room : (K most : ℕ) (plan : Planned w) (v : ℕ) (images : List (Picture w)) → 1 ≤ length images → length plan.commands ≤ plan_max
      → All (IsLawful most plan (names_at K most plan (v + 1)) (v + 1)) images → v < 4294967295
  version_room K most plan v images some few all =
      let one = all_first (IsLawful most plan (names_at K most plan (v + 1)) (v + 1)) images some all in
      let within : v + 1 < length (versions (course_of most plan)) = slice_get_within (versions_of most plan) (v + 1) _ one.1.listed in
      let long = length-versions (course_of most plan) in
      let last = final_number (course_of most plan) in
      omega arith

  pub lawful_moved : (K most : ℕ) (s seat : ControlView (Planned w)) (xs images : List (Picture w)) → s ≡ seat → xs ≡ images
      → All (IsLawful most seat.key (names_at K most seat.key (seat.own.version + 1)) (seat.own.version + 1)) images
      → All (IsLawful most s.key (names_at K most s.key (s.own.version + 1)) (s.own.version + 1)) xs
  lawful_moved K most s seat xs images e f all =
      subst (λ (x : ControlView (Planned w)). All (IsLawful most x.key (names_at K most x.key (x.own.version + 1)) (x.own.version + 1)) xs) (sym e)
      (subst (λ (ys : List (Picture w)). All (IsLawful most seat.key (names_at K most seat.key (seat.own.version + 1)) (seat.own.version + 1)) ys) (sym f) all)

  pub fresh_moved : (K most : ℕ) (s seat : ControlView (Planned w)) (f fresh : List (ℕ × ℕ)) → AreBanks K → s ≡ seat → f ≡ fresh → fresh ≡ fresh_at K most seat.key (seat.own.version + 1)
      → AreFresh K (λ u. pairs_at K most s.key u) s.own.version f
  fresh_moved K most s seat f fresh banks e g h =
      let same : f ≡ fresh_at K most s.key (s.own.version + 1) = g ∙ h ∙ ap (λ (x : ControlView (Planned w)). fresh_at K most x.key (x.own.version + 1)) (sym e) in
      subst (λ (x : List (ℕ × ℕ)). AreFresh K (λ u. pairs_at K most s.key u) s.own.version x) (sym same) (fresh_pairs_are_free w K most s.key s.own.version banks)

  pub few_commands : (key plan : Planned w) → key ≡ plan → length plan.commands ≤ plan_max → length key.commands ≤ plan_max
  few_commands key plan e few = subst (λ (x : Planned w). length x.commands ≤ plan_max) (sym e) few

  pub published_moved : (K most : ℕ) (s seat : ControlView (Planned w)) (f fresh : List (ℕ × ℕ)) (after : List Made) (found : ℕ × ℕ) → s ≡ seat → f ≡ fresh
      → PublishedThen K s.own.version s.own.passed s.own.readers s.steps s.own.found f (pairs_at K most s.key (s.own.version + 1)) after found
      → PublishedThen K seat.own.version seat.own.passed seat.own.readers seat.steps seat.own.found fresh (pairs_at K most seat.key (seat.own.version + 1)) after found
  published_moved K most s seat f fresh after found e g h =
      subst (λ (x : List (ℕ × ℕ)). PublishedThen K seat.own.version seat.own.passed seat.own.readers seat.steps seat.own.found x (pairs_at K most seat.key (seat.own.version + 1)) after found) g
      (subst (λ (x : ControlView (Planned w)). PublishedThen K x.own.version x.own.passed x.own.readers x.steps x.own.found f (pairs_at K most x.key (x.own.version + 1)) after found) e h)

  -- ---- the start

  at_map : (seats : List (ReaderView (Planned w))) (i : ℕ) (d : PassView w) (s : ReaderView (Planned w)) → i < length seats → slice_index_or seats i s ≡ s → slice_index_or (map new_pass seats) i d ≡ new_pass s
  at_map [] i d s low at = absurd (omega arith)
  at_map (x ∷ seats) zero d s low at = ap new_pass at
  at_map (x ∷ seats) (suc i) d s low at = at_map seats i d s (omega arith) at

  length-new : (seats : List (ReaderView (Planned w))) → length (map new_pass seats) ≡ length seats
  length-new [] = refl
  length-new (s ∷ seats) = let ih = length-new seats in omega arith

  pub new_passes : (table : TableId) (plan : Planned w) (n : ℕ) (seats : List (ReaderView (Planned w))) → AreFirstSeats table plan n seats → AreNewPasses table plan n (map new_pass seats)
  new_passes table plan n seats first = record {
    count = length-new seats ∙ first.0;
    new = λ i d low.
        let s : ReaderView (Planned w) = record { table = table; key = plan; number = i; own = first_own; steps = [] } in
        let long = first.0 in
        at_map seats i d s (omega arith) (first.1 i s low);
  }

  pub fresh_seats : (table : TableId) (plan : Planned w) (n : ℕ) (seats : List (ReaderView (Planned w))) → AreFirstSeats table plan n seats → All (IsFresh plan) seats
  fresh_seats table plan n seats first = λ i d low.
      let long = first.0 in
      let e = first.1 i d (omega arith) in
      ((λ k. (e k).key), (λ k. (e k).own.hits))

  pub fresh_pass : (plan : Planned w) (seat : ReaderView (Planned w)) → All IsWeighted plan.commands → IsFresh plan seat → IsPass plan seat 0
  fresh_pass plan seat weighted is = record {
    keyed = is.0;
    weighted = weighted;
    most = omega arith;
    few = let e : length seat.own.hits ≡ 0 = ap length is.1 in omega arith;
    numbered = subst (All (IsNumber plan)) (sym is.1) (All-nil (IsNumber plan));
  }

  pub start_fits : (K most : ℕ) (plan key : Planned w) (numbers : ℕ) → AreBanks K → key ≡ plan → numbers ≡ length (firsts (named plan)) → numbers ≤ plan_max → NamesFit (last_index K most) numbers (λ v. pairs_at K most key v)
  start_fits K most plan key numbers banks e n few =
      let m : numbers ≡ length (firsts (named key)) = n ∙ ap (λ (x : Planned w). length (firsts (named x))) (sym e) in
      let low : length (firsts (named key)) ≤ plan_max = omega arith in
      subst (λ k. NamesFit (last_index K most) k (λ v. pairs_at K most key v)) (sym m) (names_are_fit w K most key banks low)

  pub start_lawful : (K most : ℕ) (plan key : Planned w) (image : Picture w) → key ≡ plan → IsLawful most plan (names_at K most plan 0) 0 image → IsLawful most key (names_at K most key 0) 0 image
  start_lawful K most plan key image e is = subst (λ x. IsLawful most x (names_at K most x 0) 0 image) (sym e) is

  pub first_seats : (table named : TableId) (key plan : Planned w) (n : ℕ) (seats : List (ReaderView (Planned w))) → named ≡ table → key ≡ plan → AreFirstSeats table key n seats → AreFirstSeats named plan n seats
  first_seats table named key plan n seats t e first = subst (λ x. AreFirstSeats x plan n seats) (sym t) (subst (λ x. AreFirstSeats table x n seats) e first)

  -- one pass more
  pub passes_pushed : (plan : Planned w) (done whole next : List (PassView w)) (s : ReaderView (Planned w)) (pass : PassView w) (rest left : List (ReaderView (Planned w))) → rest ≡ s ∷ left → pass ≡ new_pass s → next ≡ done ++ pass ∷ []
      → done ++ map new_pass rest ≡ whole → All (IsFresh plan) rest → (next ++ map new_pass left ≡ whole) × All (IsFresh plan) left
  passes_pushed plan done whole next s pass rest left split is items so all = (
    ap (λ (x : List (PassView w)). x ++ map new_pass left) items
        ∙ append_assoc done (pass ∷ []) (map new_pass left)
        ∙ ap (λ (x : PassView w). done ++ x ∷ map new_pass left) is
        ∙ ap (λ (x : List (ReaderView (Planned w))). done ++ map new_pass x) (sym split)
        ∙ so,
    All-tail (IsFresh plan) s left (subst (All (IsFresh plan)) split all),
  )
