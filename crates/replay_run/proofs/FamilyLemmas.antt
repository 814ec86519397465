-- A family takes the commands of its plan one by one, and knows the last version that they have made.
use Rattle.std.proofs.Common.{◌≡◌, ◌≢◌, ◌∙◌, ◌⊎◌, inl, inr, ℕ, zero, suc, ◌+◌, ◌-◌, ◌<◌, ◌≤◌, Bool, true, false, not, List, Some, length, nat_eq, ◌&&◌, refl, sym, ap, subst, arith, add-one}
use Rattle.std.specs.Arc.{arc_value}
use Rattle.std.specs.List.{slice_get}
use Rattle.std.specs.declared.alloc.Global.{Global}
use Rattle.std.specs.declared.sync.Arc.{Arc}
use Rattle.std.proofs.lemmas.Bool.{and_parts, cases_Bool, cases_lt, eq-eqb, eqb-true, false≢true, not-true}
use Rattle.std.proofs.lemmas.Option.{same_Some, slice_get_within}
use Rattle.nhgrp_slots.specs.declared.target.Target.{Target}
use Rattle.rib_store.specs.Plan.{Planned}
use Rattle.rib_store.specs.Table.{table_after}
use Rattle.plan_cut.specs.Course.{Course}
use Rattle.plan_cut.specs.Versions.{Version, latest, final, following, makes, makes_at_end, versions}
use Rattle.plan_cut.specs.PlanCourse.{course_of, last_version, version_before, versions_of}
use Rattle.plan_cut.specs.VersionTable.{commands_of}
use Rattle.plan_cut.proofs.ListingLemmas.{get-versions-final, get-versions-latest, latest_on, latest-zero, length-versions, number_rises}
use Rattle.engine_set.specs.Engine.{kind_of}
use Rattle.engine_set.specs.Image.{Picture}
use Rattle.fib_sync.specs.Control.{Controlled, GivesNext, HasFinished, IsControl, IsImage}
use Rattle.fib_sync.specs.VersionNames.{naming_at}
use Rattle.replay_run.specs.Family.{HasNoneAhead, IsAhead, IsFamily, IsGivenAhead, IsLast, is_asked, is_made_by, known_of}
use Rattle.replay_run.specs.declared.family.Ahead.{Ahead}
use Rattle.replay_run.specs.declared.family.Ahead.TheVariants.{Unasked, Given, Finished}

-- ---- versions and the commands that make them

-- a version that counts so many commands is another one than one that counts more
made_apart : (last : Version) (number v count : ℕ) (x : Version) (all : List Version) → last.number ≡ suc number → last.count ≡ count
    → slice_get all last.number ≡ Some last → slice_get all v ≡ Some x → count < x.count → number < v → last.number < v
made_apart last number v count x all numbered counted listed here before below =
    let apart : last.number ≢ v = λ same.
    let is : x ≡ last = same_Some x last (sym here ∙ subst (λ n. slice_get all n ≡ Some last) same listed) in
    let equal : x.count ≡ count = ap (λ (y : Version). y.count) is ∙ counted in
    absurd (omega arith) in
    omega arith

-- a version is made by none of the commands before the last of those that it counts
pub not_before : (course : Course) (m v : ℕ) (x : Version) → m ≤ course.len → slice_get (versions course) v ≡ Some x → m < x.count → (latest course m).number < v
not_before course zero zero x within here before =
    let first = latest-zero course in
    let number : (latest course 0).number ≡ 0 = ap (λ (y : Version). y.number) first in
    let listed : slice_get (versions course) 0 ≡ Some (latest course 0) = subst (λ n. slice_get (versions course) n ≡ Some (latest course 0)) number (get-versions-latest course 0 within) in
    let same : x ≡ latest course 0 = same_Some _ _ (sym here ∙ listed) in
    absurd (omega (arith, ap (λ (y : Version). y.count) same, ap (λ (y : Version). y.count) first))
not_before course zero (suc v) x within here before = omega (arith, ap (λ (y : Version). y.number) (latest-zero course))
not_before course (suc m) v x within here before =
    let ih : (latest course m).number < v = not_before course m v x (omega arith) here (omega arith) in
    by_case (makes course (m + 1)) refl ih
  where
    by_case : (t : Bool) → makes course (m + 1) ≡ t → (latest course m).number < v → (latest course (suc m)).number < v
    by_case false e ih =
        let stays : latest course (m + 1) ≡ latest course m = latest_on course m false e in
        omega (arith, ap (λ (y : Version). y.number) (rw add-one at stays))
    by_case true e ih =
        let on : latest course (suc m) ≡ following course (suc m) (latest course m) = rw add-one at (latest_on course m true e) in
        made_apart (latest course (suc m)) (latest course m).number v (suc m) x (versions course) (ap (λ (y : Version). y.number) on) (ap (λ (y : Version). y.count) on)
        (get-versions-latest course (suc m) within) here before ih

-- where the next version counts more commands than one more, that one makes no version
made_later : (course : Course) (n : ℕ) (x : Version) → n + 1 ≤ course.len → slice_get (versions course) ((latest course n).number + 1) ≡ Some x → n + 1 < x.count
    → (latest course (n + 1)).number ≡ (latest course n).number
made_later course n x within here later =
    let below = not_before course (n + 1) ((latest course n).number + 1) x within here later in
    let up = number_rises course n 1 in
    omega arith

-- where all commands make no later version, neither does the next one
made_none : (course : Course) (n : ℕ) → n + 1 ≤ course.len → (latest course course.len).number ≤ (latest course n).number → (latest course (n + 1)).number ≡ (latest course n).number
made_none course n within none =
    let up = number_rises course n 1 in
    let same : (n + 1) + (course.len - (n + 1)) ≡ course.len = omega arith in
    let further : (latest course (n + 1)).number ≤ (latest course course.len).number = rw same at (number_rises course (n + 1) (course.len - (n + 1))) in
    omega arith

-- the plan's last version is the last that its commands make, or the one behind it
final_is : (course : Course) → (latest course course.len).number ≤ (final course).number
final_is course = elim (cases_Bool (makes_at_end course)) [ inl y ↦ rw y (omega arith) | inr n ↦ rw n (omega arith) ]

-- a version behind those that the commands make is the plan's last
behind_all : (course : Course) (x : Version) → slice_get (versions course) ((latest course course.len).number + 1) ≡ Some x → (x ≡ final course) × (x.count ≡ course.len)
behind_all course x here = elim (cases_Bool (makes_at_end course)) [
  | inl y ↦
      let is : final course ≡ following course course.len (latest course course.len) = rw y refl in
      let number : (final course).number ≡ (latest course course.len).number + 1 = ap (λ (v : Version). v.number) is ∙ sym (add-one (latest course course.len).number) in
      let same : x ≡ final course = same_Some x (final course) (sym here ∙ subst (λ n. slice_get (versions course) n ≡ Some (final course)) number (get-versions-final course)) in
      (same, ap (λ (v : Version). v.count) (same ∙ is))
  | inr n ↦
      let is : final course ≡ latest course course.len = rw n refl in
      let few = slice_get_within (versions course) ((latest course course.len).number + 1) x here in
      absurd (omega (arith, few, length-versions course, ap (λ (v : Version). v.number) is))
]

-- ---- what the control gives next

module _ {w : ℕ} (K most : ℕ) (old new : Controlled w) (n : ℕ) where
  -- the version behind the last one made
  pub next_given : (image : Picture w) → IsControl K most new → new.plan ≡ old.plan → GivesNext K most old new image → old.image.version ≡ version_before most old.plan n → IsGivenAhead most new n image
  next_given image control plan gives last = record {
    same = sym gives.given;
    next = next;
    counted = gives.counted;
    later = by_end new.ended refl;
  }
    where
      next : image.version ≡ version_before most new.plan n + 1
      next = gives.next ∙ ap (λ v. v + 1) (last ∙ ap (λ (p : Planned w). version_before most p n) (sym plan))

      made : new.ended ≡ false → version_before most new.plan image.count ≡ version_before most new.plan n + 1
      made e = subst (λ (i : Picture w). version_before most new.plan i.count ≡ i.version) gives.given (control.by_command e) ∙ next

      before : new.ended ≡ false → n < image.count
      before e = elim (cases_lt n image.count) [
        | inl lt ↦ lt
        | inr ge ↦
            let same : image.count + (n - image.count) ≡ n = omega (arith, ge) in
            let up : version_before most new.plan image.count ≤ version_before most new.plan n = rw same at (number_rises (course_of most new.plan) image.count (n - image.count)) in
            absurd (omega (arith, up, made e))
      ]

      by_end : (t : Bool) → new.ended ≡ t → (n < image.count) ⊎ (new.ended ≡ true)
      by_end true e = inr e
      by_end false e = inl (before e)

  -- no further version
  pub none_given : new.plan ≡ old.plan → HasFinished most old new → old.image.version ≡ version_before most old.plan n → HasNoneAhead most new n
  none_given plan done last = record {
    last = ap (λ (i : Picture w). i.version) done.same ∙ last ∙ ap (λ (p : Planned w). version_before most p n) (sym plan);
    all = done.all ∙ ap (λ (p : Planned w). length p.commands) (sym plan);
    none = ap (λ (p : Planned w). length (versions_of most p)) plan ∙ done.last ∙ ap (λ (i : Picture w). i.version + 1) (sym done.same);
  }

module _ {w : ℕ} (K most : ℕ) (c : Controlled w) (control : IsControl K most c) where
  abbrev course : Course
  course = course_of most c.plan

  -- the version of the last image
  abbrev x : Version
  x = record { number = c.image.version; count = c.image.count; kind = kind_of c.image.engine }

  listed : slice_get (versions course) c.image.version ≡ Some x
  listed = control.image.lawful.listed

  -- the plan's end makes its version of all commands
  ended_is : c.ended ≡ true → (x ≡ final course) × (c.image.count ≡ course.len)
  ended_is ended = behind_all course x (subst (λ v. slice_get (versions course) v ≡ Some x) (sym (control.by_end ended)) listed)

  -- what is known beyond the commands taken, once the control was asked
  pub known_more : (n : ℕ) (ahead : Ahead w) → IsAhead most c n ahead → is_asked ahead ≡ true → n < length c.plan.commands → n < known_of c n ahead
  known_more n Unasked is asked more = absurd (false≢true asked)
  known_more n (Given image) is asked more = elim is.later [
    | inl lt ↦ omega (arith, lt, is.counted)
    | inr ended ↦ omega (arith, (ended_is ended).1, ap (λ (i : Picture w). i.count) is.same, is.counted, more)
  ]
  known_more n Finished is asked more = omega (arith, is.all, more)

  -- it is known of commands that are run
  pub known_run : (n : ℕ) (ahead : Ahead w) → n < known_of c n ahead → n < c.commands
  known_run n Unasked more = absurd (omega (arith, more))
  known_run n (Given image) more = more
  known_run n Finished more = more

  -- where the control was not asked, or has finished, its image is that of the last version made
  pub ahead_last : (n : ℕ) (ahead : Ahead w) → IsAhead most c n ahead → is_asked ahead ≡ false → c.image.version ≡ version_before most c.plan n
  ahead_last n Unasked is asked = is
  ahead_last n (Given image) is asked = absurd (false≢true (sym asked))
  ahead_last n Finished is asked = absurd (false≢true (sym asked))

-- ---- a family begins

-- the empty table is version 0, which no command made
pub begun : {w : ℕ} (K most : ℕ) (c : Controlled w) (plan : Planned w) (image : Picture w) (names : List (Target w × ℕ)) → IsControl K most c → c.plan ≡ plan → c.image ≡ image → image.version ≡ 0
    → IsImage K most plan 0 image → names ≡ naming_at K most c.plan c.image.version → IsFamily K most c 0 image names Unasked
begun {w} K most c plan image names control of_plan same first is named = record {
  control = control;
  within = omega arith;
  image = subst (λ v. IsImage K most c.plan v image) (sym none) (subst (λ (p : Planned w). IsImage K most p 0 image) (sym of_plan) is);
  naming = named ∙ ap (naming_at K most c.plan) (version ∙ sym none);
  ahead = version ∙ sym none;
}
  where
    none : version_before most c.plan 0 ≡ 0
    none = ap (λ (v : Version). v.number) (latest-zero (course_of most c.plan))

    version : c.image.version ≡ 0
    version = ap (λ (i : Picture w). i.version) same ∙ first

-- ---- a family goes on

-- a command that the image ahead waited for makes its version
pub made_on : {w : ℕ} (K most : ℕ) (c : Controlled w) (n : ℕ) (image : Picture w) (a : Arc (Picture w) Global) (naming new : List (Target w × ℕ))
    → IsFamily K most c n image naming (Given a) → is_made_by c (n + 1) (Given a) ≡ true → new ≡ naming_at K most c.plan c.image.version
    → IsFamily K most c (n + 1) (arc_value {X = Picture w} a) new Unasked
made_on {w} K most c n image a naming new h made named =
    let p : Picture w = arc_value {X = Picture w} a in
    let parts = and_parts _ _ made in
    let count : p.count ≡ n + 1 = eqb-true _ _ parts.0 in
    let by_command : c.ended ≡ false = not-true c.ended parts.1 in
    let version : version_before most c.plan (n + 1) ≡ c.image.version =
    ap (version_before most c.plan) (sym count ∙ ap (λ (i : Picture w). i.count) h.ahead.same) ∙ h.control.by_command by_command in
    record {
      control = h.control;
      within = omega (arith, h.ahead.counted, count);
      image = subst (λ v. IsImage K most c.plan v p) (sym version) (subst (IsImage K most c.plan c.image.version) (sym h.ahead.same) h.control.image);
      naming = named ∙ ap (naming_at K most c.plan) (sym version);
      ahead = sym version;
    }

-- where the plan's end made the image ahead, no command is left that makes a version
ended_none : {w : ℕ} (K most : ℕ) (c : Controlled w) (n : ℕ) (a : Picture w) → IsControl K most c → IsGivenAhead most c n a → c.ended ≡ true
    → version_before most c.plan (length c.plan.commands) ≤ version_before most c.plan n
ended_none K most c n a control h ended = omega (arith, control.by_end ended, ap (λ (i : Picture _). i.version) h.same, h.next)

-- a command that the image ahead doesn't wait for makes no version
pub stays_on : {w : ℕ} (K most : ℕ) (c : Controlled w) (n : ℕ) (image : Picture w) (naming : List (Target w × ℕ)) (ahead : Ahead w)
    → IsFamily K most c n image naming ahead → n < known_of c n ahead → is_made_by c (n + 1) ahead ≡ false
    → IsFamily K most c (n + 1) image naming ahead
stays_on {w} K most c n image naming ahead h before made =
    with_version (same ahead h.ahead before made)
  where
    course : Course
    course = course_of most c.plan

    run : n < c.commands
    run = known_run K most c h.control n ahead before

    none_left : version_before most c.plan (length c.plan.commands) ≤ version_before most c.plan n → version_before most c.plan (n + 1) ≡ version_before most c.plan n
    none_left none = made_none course n (omega (arith, h.control.within, run)) none

    same_given : (a : Picture w) → IsGivenAhead most c n a → (nat_eq a.count (n + 1) && not c.ended) ≡ false
        → (version_before most c.plan (n + 1) ≡ version_before most c.plan n) × ((n + 1 < a.count) ⊎ (c.ended ≡ true))
    same_given a given not_made = by_end c.ended refl
      where
        by_end : (t : Bool) → c.ended ≡ t → (version_before most c.plan (n + 1) ≡ version_before most c.plan n) × ((n + 1 < a.count) ⊎ (c.ended ≡ true))
        by_end true e = (none_left (ended_none K most c n a h.control given e), inr e)
        by_end false e =
            let below : n < a.count = elim given.later [ inl lt ↦ lt | inr t ↦ absurd (false≢true (sym e ∙ t)) ] in
            let apart : a.count ≢ n + 1 = λ is. false≢true (sym not_made ∙ ap (λ b. b && not c.ended) (eq-eqb _ _ is) ∙ ap not e) in
            let more : n + 1 < a.count = omega (arith, below, apart) in
            let more_there : n + 1 < c.image.count = subst (λ (i : Picture w). n + 1 < i.count) given.same more in
            let numbered : c.image.version ≡ (latest course n).number + 1 = ap (λ (i : Picture w). i.version) (sym given.same) ∙ given.next in
            let x : Version = record { number = c.image.version; count = c.image.count; kind = kind_of c.image.engine } in
            let here = subst (λ v. slice_get (versions course) v ≡ Some x) numbered h.control.image.lawful.listed in
            (made_later course n x (omega (arith, h.control.within, run)) here more_there, inl more)

    same : (o : Ahead w) → IsAhead most c n o → n < known_of c n o → is_made_by c (n + 1) o ≡ false → (version_before most c.plan (n + 1) ≡ version_before most c.plan n) × IsAhead most c (n + 1) o
    same Unasked is known m = absurd (omega (arith, known))
    same Finished none known m =
        let stays = none_left (omega (arith, none.none, none.last, length-versions course, final_is course)) in
        (stays, record { last = none.last ∙ sym stays; all = none.all; none = none.none })
    same (Given a) given known m =
        let p = same_given (arc_value {X = Picture w} a) given m in
        (p.0, record { same = given.same; next = given.next ∙ ap (λ v. v + 1) (sym p.0); counted = given.counted; later = p.1 })

    with_version : (version_before most c.plan (n + 1) ≡ version_before most c.plan n) × IsAhead most c (n + 1) ahead → IsFamily K most c (n + 1) image naming ahead
    with_version p = record {
      control = h.control;
      within = omega (arith, run);
      image = subst (λ v. IsImage K most c.plan v image) (sym p.0) h.image;
      naming = h.naming ∙ ap (naming_at K most c.plan) (sym p.0);
      ahead = p.1;
    }

-- ---- a family ends

-- the image of the plan's last version
last_of : {w : ℕ} (K most : ℕ) (plan : Planned w) (v : ℕ) (p : Picture w) → IsImage K most plan v p → v ≡ (last_version most plan).number
    → IsLast most plan (record { version = p.version; routes = p.routes; kind = kind_of p.engine })
last_of {w} K most plan v p is number =
    let course : Course = course_of most plan in
    let x : Version = record { number = p.version; count = p.count; kind = kind_of p.engine } in
    let there = subst (λ n. slice_get (versions course) n ≡ Some (final course)) (sym number) (get-versions-final course) in
    let same : x ≡ final course = same_Some x (final course) (sym is.lawful.listed ∙ there) in
    record {
      version = ap (λ (y : Version). y.number) same;
      routes = is.lawful.routes ∙ ap (λ o. length (table_after most plan (commands_of o))) there;
      kind = ap (λ (y : Version). y.kind) same;
    }

module _ {w : ℕ} (K most : ℕ) (c : Controlled w) (control : IsControl K most c) where
  -- the version ahead of all commands is the plan's last
  pub last_ahead : (n : ℕ) (a : Picture w) → n ≡ length c.plan.commands → IsGivenAhead most c n a → IsLast most c.plan (record { version = a.version; routes = a.routes; kind = kind_of a.engine })
  last_ahead n a all given =
      let ended : c.ended ≡ true = elim given.later [ inl lt ↦ absurd (omega (arith, lt, all, given.counted, control.within)) | inr e ↦ e ] in
      let number : c.image.version ≡ (last_version most c.plan).number = ap (λ (y : Version). y.number) (ended_is K most c control ended).0 in
      subst (λ (i : Picture w). IsLast most c.plan (record { version = i.version; routes = i.routes; kind = kind_of i.engine })) (sym given.same) (last_of K most c.plan c.image.version c.image control.image number)

  -- where there is none ahead, that of the last version made is
  pub last_made : (n : ℕ) (image : Picture w) → HasNoneAhead most c n → IsImage K most c.plan (version_before most c.plan n) image → IsLast most c.plan (record { version = image.version; routes = image.routes; kind = kind_of image.engine })
  last_made n image none is =
      last_of K most c.plan (version_before most c.plan n) image is (sym none.last ∙ omega (arith, none.none, length-versions (course_of most c.plan)))
