-- What is published when the control has run so many commands.
use Rattle.std.proofs.Common.{◌≡◌, ◌∙◌, inl, inr, ℕ, ◌+◌, ◌-◌, ◌<◌, ◌≤◌, Bool, true, false, List, length, refl, sym, ap, subst, arith}
use Rattle.std.specs.List.{All}
use Rattle.std.proofs.lemmas.Bool.{cases_Bool}
use Rattle.std.proofs.lemmas.Option.{slice_get_within}
use Rattle.atomic_table.specs.Seated.{TableId}
use Rattle.rib_store.specs.Plan.{Planned}
use Rattle.plan_cut.specs.Course.{Course}
use Rattle.plan_cut.specs.Versions.{latest, final, makes_at_end}
use Rattle.plan_cut.specs.PlanCourse.{course_of, last_version, version_before, versions_of}
use Rattle.plan_cut.proofs.ListingLemmas.{length-versions, number_rises}
use Rattle.epoch_core.specs.SeatViews.{ControlView}
use Rattle.engine_set.specs.Image.{Picture}
use Rattle.fib_sync.specs.Control.{Controlled, GivesNext, HasFinished, IsControl, IsImage}
use Rattle.fib_sync.specs.Lawful.{IsLawful}
use Rattle.fib_sync.specs.VersionNames.{fresh_at, names_at}
use Rattle.threaded_replay.specs.Producing.{GoesOn, IsAbreast, IsThrough}

-- the first commands make no later version than more of them
rises : (course : Course) (m n : ℕ) → m ≤ n → (latest course m).number ≤ (latest course n).number
rises course m n below =
    let e : m + (n - m) ≡ n = omega arith in
    rw e at (number_rises course m (n - m))

-- the commands make no later version than the plan's last
at_most_final : (course : Course) (m : ℕ) → m ≤ course.len → (latest course m).number ≤ (final course).number
at_most_final course m within =
    let up = rises course m course.len within in
    elim (cases_Bool (makes_at_end course)) [ inl y ↦ rw y (omega arith) | inr n ↦ rw n up ]

module _ {w : ℕ} (K most : ℕ) (table : TableId) (plan : Planned w) (readers : ℕ) (control : Controlled w) (publisher : ControlView (Planned w)) where
  -- the last image is one of the plan's versions
  pub image_listed : IsControl K most control → control.plan ≡ plan → control.image.version < length (versions_of most plan)
  image_listed is same =
      let listed : control.image.version < length (versions_of most control.plan) = slice_get_within (versions_of most control.plan) control.image.version _ is.image.lawful.listed in
      let here : length (versions_of most control.plan) ≡ length (versions_of most plan) = ap (λ p. length (versions_of most p)) same in
      omega (arith, listed, here)

  -- the control has run those commands, and what they make is published
  pub caught_up : (synced : ℕ) → IsAbreast K most table plan readers control publisher → synced ≤ length plan.commands → synced ≤ control.commands
      → version_before most plan synced ≤ publisher.own.version
  caught_up synced is within run = elim is.ran [
    | inl e ↦ by_end control.ended refl e
    | inr e ↦ (let up = at_most_final (course_of most plan) synced within in omega (arith, length-versions (course_of most plan), e, is.version))
  ]
    where
      by_end : (t : Bool) → control.ended ≡ t → control.commands ≡ control.image.count → version_before most plan synced ≤ publisher.own.version
      by_end false by_command e =
          let made : version_before most plan control.image.count ≡ control.image.version = subst (λ p. version_before most p control.image.count ≡ control.image.version) is.of_plan (is.is_control.by_command by_command) in
          let up = rises (course_of most plan) synced control.image.count (omega (arith, e, run)) in
          omega (arith, made, up, is.version)
      by_end true at_end e =
          let made : version_before most plan (length plan.commands) + 1 ≡ control.image.version = subst (λ (p : Planned w). version_before most p (length p.commands) + 1 ≡ control.image.version) is.of_plan (is.is_control.by_end at_end) in
          let up = rises (course_of most plan) synced (length plan.commands) within in
          omega (arith, made, up, is.version)

  -- where all versions are published, so are those that any commands make
  pub all_published : (synced : ℕ) → IsThrough K most table plan readers control publisher → synced ≤ length plan.commands → version_before most plan synced ≤ publisher.own.version
  all_published synced is within = caught_up synced is.abreast within (omega (arith, is.all))

  -- the version that is published is the last
  pub last_published : IsThrough K most table plan readers control publisher → publisher.own.version ≡ (last_version most plan).number
  last_published is = omega (arith, is.last, is.abreast.version, length-versions (course_of most plan))

-- the image that the control gives is what is published next
pub gives_image : {w : ℕ} (K most : ℕ) (table : TableId) (plan : Planned w) (readers : ℕ) (old new : Controlled w) (publisher : ControlView (Planned w)) (image : Picture w)
    → IsAbreast K most table plan readers old publisher → new.plan ≡ old.plan → IsControl K most new → GivesNext K most old new image
    → IsImage K most publisher.key (publisher.own.version + 1) image
gives_image K most table plan readers old new publisher image is same control next =
    let key : new.plan ≡ publisher.key = same ∙ is.of_plan ∙ sym is.keyed in
    let version : new.image.version ≡ publisher.own.version + 1 = ap (λ (i : Picture _). i.version) next.given ∙ next.next ∙ ap (λ n. n + 1) (sym is.version) in
    subst (λ p. IsImage K most p (publisher.own.version + 1) image) key
    (subst (λ v. IsImage K most new.plan v image) version
    (subst (λ i. IsImage K most new.plan new.image.version i) next.given control.image))

-- it is published then
pub is_published : {w : ℕ} (K most : ℕ) (table : TableId) (plan : Planned w) (readers : ℕ) (old new : Controlled w) (before after : ControlView (Planned w)) (image : Picture w)
    → IsAbreast K most table plan readers old before → new.plan ≡ old.plan → IsControl K most new → GivesNext K most old new image
    → (after.table ≡ before.table) × (after.key ≡ before.key) × (after.own.readers ≡ before.own.readers) → after.own.version ≡ before.own.version + 1
    → IsAbreast K most table plan readers new after × (new.image.version ≡ old.image.version + 1)
is_published K most table plan readers old new before after image is same control next seat version =
    let given : new.image.version ≡ old.image.version + 1 = ap (λ (i : Picture _). i.version) next.given ∙ next.next in (
      record {
        of_plan = same ∙ is.of_plan;
        is_control = control;
        at_table = seat.0 ∙ is.at_table;
        keyed = seat.1 ∙ is.keyed;
        counted = seat.2 ∙ is.counted;
        version = version ∙ ap (λ n. n + 1) is.version ∙ sym given;
        ran = inl (next.counted ∙ ap (λ (i : Picture _). i.count) (sym next.given));
      },
      given,
    )

-- the control has given the last image
pub is_through : {w : ℕ} (K most : ℕ) (table : TableId) (plan : Planned w) (readers : ℕ) (old new : Controlled w) (publisher : ControlView (Planned w))
    → IsAbreast K most table plan readers old publisher → new.plan ≡ old.plan → IsControl K most new → HasFinished most old new
    → IsThrough K most table plan readers new publisher
is_through K most table plan readers old new publisher is same control finished =
    let version : new.image.version ≡ old.image.version = ap (λ (i : Picture _). i.version) finished.same in
    let last : length (versions_of most plan) ≡ new.image.version + 1 =
    ap (λ p. length (versions_of most p)) (sym is.of_plan) ∙ finished.last ∙ ap (λ n. n + 1) (sym version) in
    record {
      abreast = record {
        of_plan = same ∙ is.of_plan;
        is_control = control;
        at_table = is.at_table;
        keyed = is.keyed;
        counted = is.counted;
        version = is.version ∙ sym version;
        ran = inr last;
      };
      all = finished.all ∙ ap (λ (p : Planned _). length p.commands) is.of_plan;
      last = last;
    }

-- where its images are made ready, each is lawful for the version that is published next
pub ready_lawful : {w : ℕ} (K most : ℕ) (plan plan' : Planned w) (v v' : ℕ) (image : Picture w) (images : List (Picture w)) → plan' ≡ plan → v' ≡ v → IsImage K most plan (v + 1) image → All (λ i. i ≡ image) images
    → All (λ i. IsLawful most plan' (names_at K most plan' (v' + 1)) (v' + 1) i) images
ready_lawful {w} K most plan plan' v v' image images same at is all =
    let lawful : IsLawful most plan' (names_at K most plan' (v' + 1)) (v' + 1) image =
    subst (λ (p : Planned w). IsLawful most p (names_at K most p (v' + 1)) (v' + 1) image) (sym same)
    (subst (λ n. IsLawful most plan (names_at K most plan (n + 1)) (n + 1) image) (sym at) is.lawful) in
    λ k d lt. subst (λ i. IsLawful most plan' (names_at K most plan' (v' + 1)) (v' + 1) i) (sym (all k d lt)) lawful

-- and their new pairs are that version's
pub ready_fresh : {w : ℕ} (K most : ℕ) (plan plan' : Planned w) (v v' : ℕ) (image : Picture w) (fresh : List (ℕ × ℕ)) → plan' ≡ plan → v' ≡ v → IsImage K most plan (v + 1) image → fresh ≡ image.fresh
    → fresh ≡ fresh_at K most plan' (v' + 1)
ready_fresh {w} K most plan plan' v v' image fresh same at is from =
    from ∙ is.fresh ∙ ap (λ n. fresh_at K most plan (n + 1)) (sym at) ∙ ap (λ (p : Planned w). fresh_at K most p (v' + 1)) (sym same)

-- what going on comes to
pub went_on : {w : ℕ} (K most : ℕ) (table : TableId) (plan : Planned w) (readers : ℕ) (old new : Controlled w) (publisher : ControlView (Planned w)) (goes : Bool) → goes ≡ true
    → GoesOn K most table plan readers old new publisher goes → IsAbreast K most table plan readers new publisher × (new.image.version ≡ old.image.version + 1)
went_on K most table plan readers old new publisher true is went = went
went_on K most table plan readers old new publisher false is went = cc

pub went_through : {w : ℕ} (K most : ℕ) (table : TableId) (plan : Planned w) (readers : ℕ) (old new : Controlled w) (publisher : ControlView (Planned w)) (goes : Bool) → goes ≡ false
    → GoesOn K most table plan readers old new publisher goes → IsThrough K most table plan readers new publisher
went_through K most table plan readers old new publisher true is went = cc
went_through K most table plan readers old new publisher false is went = went
