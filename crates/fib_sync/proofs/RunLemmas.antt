-- A runner goes on by a command of its plan, and asks the plan's end.
use Rattle.std.proofs.Common.{◌≡◌, ◌∙◌, ℕ, suc, ◌+◌, ◌^◌, ◌<◌, ◌≤◌, Bool, true, false, List, [], ◌∷◌, ◌++◌, Some, length, inl, inr, refl, sym, ap, subst, arith, add-one}
use Rattle.std.specs.Prelude.{not, option_map, option_to_list}
use Rattle.std.specs.List.{slice_get}
use Rattle.prefix_width.specs.declared.module.Kind.{Kind}
use Rattle.prefix_width.specs.declared.module.Kind.TheVariants.{Range}
use Rattle.prefix_width.specs.declared.module.Setting.{Setting}
use Rattle.prefix_width.specs.declared.module.Setting.TheVariants.{Auto}
use Rattle.prefix_width.specs.Choice.{Suits, SettingSuits, choose, is_kind}
use Rattle.rib_store.specs.declared.command.Command.{Command}
use Rattle.rib_store.specs.declared.command.Reply.{Reply}
use Rattle.rib_store.specs.Plan.{Planned}
use Rattle.rib_store.specs.Table.{Table, apply, table_after}
use Rattle.plan_cut.specs.Counters.{Counters}
use Rattle.plan_cut.specs.Course.{Course}
use Rattle.plan_cut.specs.declared.cutter.Cut.{Cut}
use Rattle.plan_cut.specs.declared.cutter.Cut.TheVariants.{Stay, Now}
use Rattle.plan_cut.specs.PlanCourse.{course_of, last_version, set_by, setting_after, version_at, version_before}
use Rattle.plan_cut.specs.Standing.{StandsAt, cut_of}
use Rattle.plan_cut.specs.Versions.{Version, differs_at, following, latest, makes, makes_at_end}
use Rattle.plan_cut.proofs.ListingLemmas.{latest_on, latest-count, latest-zero}
use Rattle.plan_cut.proofs.StandingLemmas.{stands_new}
use Rattle.plan_cut.proofs.PlanCourseLemmas.{table_on, setting_on, choice_on, differs_on, version_before_bound}
use Rattle.fib_sync.specs.declared.runner.Made.{Made}
use Rattle.fib_sync.specs.Replies.{reply_at, replies_to}
use Rattle.fib_sync.specs.Running.{Ran, IsRun, IsRunner, IsMade, kept_by, last_made}

abbrev pub version_of : Made → Version
version_of m = record { number = m.number; count = m.count; kind = m.kind }

abbrev pub ran : {w : ℕ} → Planned w → ℕ → Table → List Reply → Made → Bool → Ran w
ran plan n rows replies m ended =
    record { plan = plan; commands = n; rib = rows; replies = replies; made = version_of m; at_end = m.at_end; ended = ended }

-- ---- before the first command
pub begun : {w : ℕ} (live : ℕ) (plan : Planned w) (rows : Table) (replies : List Reply) (now : Counters)
    → rows ≡ [] → replies ≡ [] → now ≡ record { moment = 0; start = 0; count = 0; pending = 0 }
    → IsRunner live (ran plan 0 rows replies (record { number = 0; count = 0; kind = Range; at_end = false }) false) Auto now
unfolding replies_to
begun {w} live plan rows replies now none empty zero = record {
  run = record {
    within = omega arith;
    rib = none;
    replies = empty;
    made = sym (latest-zero (course_of live plan));
    all = λ e. cc;
    by_command = λ _. ap (λ (v : Version). v.number) (latest-zero (course_of live plan));
    by_end = λ e. cc;
  };
  set = refl;
  stands = λ _. subst (StandsAt (course_of live plan) 0) (sym zero) (stands_new (course_of live plan));
  suits = tt;
  suits_setting = tt;
  early = rw zero (omega arith);
  few = rw zero (omega arith);
  waiting = rw zero (omega arith);
}

-- ---- a command
-- what is known once a command was run: the second of each pair is what it left
pub record HasRun {w : ℕ} (live : ℕ) (plan : Planned w) (n : ℕ) (c : Command w) (rows rows' : Table) (replies replies' : List Reply) (m m' : Made) (setting setting' : Setting) (now now' : Counters) (kind : Kind) (cut : Cut) : Type 0 where
  pub here : slice_get plan.commands n ≡ Some c
  pub inside : n < length plan.commands
  pub rib : rows' ≡ (apply plan.profile live rows c).table
  pub reply : Reply
  pub replied : reply ≡ (apply plan.profile live rows c).reply
  pub put : replies' ≡ replies ++ reply ∷ []
  pub set : setting' ≡ set_by setting c
  pub suits_setting : SettingSuits w setting'
  pub choice : kind ≡ choose w (Some m.kind) setting' (length rows')
  pub suits : Suits w kind
  pub stands : StandsAt (course_of live plan) (n + 1) now'
  pub cuts : cut ≡ cut_of (makes (course_of live plan) (n + 1))
  pub moment : now'.moment < now.moment + 2 ^ 32
  pub count : now'.count ≤ now.count + 1
  pub pending : now'.pending ≤ now.pending + 1
  pub made : m' ≡ kept_by cut (record { number = m.number + 1; count = n + 1; kind = kind; at_end = false }) m

module _ {w : ℕ} (live : ℕ) (plan : Planned w) (n : ℕ) (c : Command w) (here : slice_get plan.commands n ≡ Some c) where
  replies_on : (replies : List Reply) (rows : Table) (reply : Reply) → replies ≡ replies_to live plan n → rows ≡ table_after live plan n → reply ≡ (apply plan.profile live rows c).reply
      → replies ++ reply ∷ [] ≡ replies_to live plan (n + 1)
  unfolding replies_to
  replies_on replies rows reply rs ts e =
      let at : reply_at live plan n ≡ Some reply = ap (option_map (λ d. (apply plan.profile live (table_after live plan n) d).reply)) here ∙ ap Some (sym (e ∙ ap (λ t. (apply plan.profile live t c).reply) ts)) in
      rw add-one (ap (λ l. l ++ reply ∷ []) rs ∙ ap (λ o. replies_to live plan n ++ option_to_list o) (sym at))

pub runs_on : {w : ℕ} (live : ℕ) (plan : Planned w) (n : ℕ) (c : Command w) (rows rows' : Table) (replies replies' : List Reply) (m m' : Made) (setting setting' : Setting) (now now' : Counters) (kind : Kind) (cut : Cut) (ended : Bool)
    → ended ≡ false → IsRunner live (ran plan n rows replies m ended) setting now
    → HasRun live plan n c rows rows' replies replies' m m' setting setting' now now' kind cut
    → IsRunner live (ran plan (n + 1) rows' replies' m' ended) setting' now'
runs_on {w} live plan n c rows rows' replies replies' m m' setting setting' now now' kind cut ended running h run = by_cut (makes course (n + 1)) refl
  where
    course : Course
    course = course_of live plan

    last : Version
    last = latest course n

    was : version_of m ≡ last
    was = h.run.made ∙ ap (λ b. last_made b live plan n) running

    rib : rows' ≡ (apply plan.profile live (table_after live plan n) c).table
    rib = run.rib ∙ ap (λ (t : Table). (apply plan.profile live t c).table) h.run.rib

    set : setting' ≡ set_by (setting_after plan n) c
    set = run.set ∙ ap (λ s. set_by s c) h.set

    choice : kind ≡ course.choice (n + 1) last.kind
    choice =
        run.choice ∙ ap (λ (v : Version). choose w (Some v.kind) setting' (length rows')) was
        ∙ sym (choice_on live plan n c run.here last.kind setting' rows' set rib)

    by_count : version_of m' ≡ version_at live plan (n + 1) → version_before live plan m'.count ≡ m'.number
    by_count made =
        ap (λ (v : Version). (latest course v.count).number) made
        ∙ ap (λ (v : Version). v.number) (latest-count course (n + 1)) ∙ ap (λ (v : Version). v.number) (sym made)

    with_made : version_of m' ≡ version_at live plan (n + 1) → Suits w m'.kind → (m'.at_end ≡ true → version_before live plan (length plan.commands) + 1 ≡ m'.number) → IsRunner live (ran plan (n + 1) rows' replies' m' ended) setting' now'
    with_made made suits by_end = record {
      run = record {
        within = omega (arith, run.inside);
        rib = rib ∙ sym (table_on live plan n c run.here);
        replies = run.put ∙ replies_on live plan n c run.here replies rows run.reply h.run.replies h.run.rib run.replied;
        made = made ∙ ap (λ b. last_made b live plan (n + 1)) (sym running);
        all = λ e. (let no = sym running ∙ e in cc);
        by_command = λ _. by_count made;
        by_end = by_end;
      };
      set = set ∙ sym (setting_on live plan n c run.here);
      stands = λ _. run.stands;
      suits = suits;
      suits_setting = run.suits_setting;
      early = omega (arith, run.moment, h.early);
      few = omega (arith, run.count, h.few);
      waiting = omega (arith, run.pending, h.waiting);
    }

    by_cut : (t : Bool) → makes course (n + 1) ≡ t → IsRunner live (ran plan (n + 1) rows' replies' m' ended) setting' now'
    by_cut true y =
        let cut_now : cut ≡ Now = run.cuts ∙ ap cut_of y in
        let later : latest course (n + 1) ≡ following course (n + 1) last = latest_on course n true y in
        let new : m' ≡ record { number = m.number + 1; count = n + 1; kind = kind; at_end = false } = run.made ∙ ap (λ k. kept_by k (let v : Made = record { number = m.number + 1; count = n + 1; kind = kind; at_end = false } in v) m) cut_now in
        let number : m.number + 1 ≡ suc last.number = ap (λ (v : Version). v.number + 1) was ∙ add-one last.number in
        with_made
        (ap version_of new ∙ ap (λ x. let v : Version = record { number = x; count = n + 1; kind = kind } in v) number
        ∙ ap (λ k. let v : Version = record { number = suc last.number; count = n + 1; kind = k } in v) choice ∙ sym later)
        (subst (λ (v : Made). Suits w v.kind) (sym new) run.suits)
        (λ e. (let no = sym (ap (λ (v : Made). v.at_end) new) ∙ e in cc))
    by_cut false y =
        let stay : cut ≡ Stay = run.cuts ∙ ap cut_of y in
        let later : latest course (n + 1) ≡ last = latest_on course n false y in
        let same : m' ≡ m = run.made ∙ ap (λ k. kept_by k (let v : Made = record { number = m.number + 1; count = n + 1; kind = kind; at_end = false } in v) m) stay in
        with_made (ap version_of same ∙ was ∙ sym later) (subst (λ (v : Made). Suits w v.kind) (sym same) h.suits)
        (λ e. h.run.by_end (ap (λ (v : Made). v.at_end) (sym same) ∙ e) ∙ ap (λ (v : Made). v.number) (sym same))

-- whether the module that is chosen behind a command differs from that of the last version
pub differs_is : {w : ℕ} (live : ℕ) (plan : Planned w) (n : ℕ) (c : Command w) (rows rows' : Table) (replies : List Reply) (m : Made) (setting setting' : Setting) (now : Counters) (kind : Kind) (ended differs : Bool)
    → ended ≡ false → IsRunner live (ran plan n rows replies m ended) setting now → slice_get plan.commands n ≡ Some c
    → rows' ≡ (apply plan.profile live rows c).table → setting' ≡ set_by setting c
    → kind ≡ choose w (Some m.kind) setting' (length rows') → differs ≡ not (is_kind kind m.kind)
    → differs ≡ differs_at (course_of live plan) (n + 1) (latest (course_of live plan) n)
differs_is {w} live plan n c rows rows' replies m setting setting' now kind ended differs running h here rib set choice is =
    let was : version_of m ≡ version_at live plan n = h.run.made ∙ ap (λ b. last_made b live plan n) running in
    is ∙ ap (λ k. not (is_kind k m.kind)) choice
    ∙ ap (λ (v : Version). not (is_kind (choose w (Some v.kind) setting' (length rows')) v.kind)) was
    ∙ sym (differs_on live plan n c here (version_at live plan n) setting' rows'
    (set ∙ ap (λ s. set_by s c) h.set) (rib ∙ ap (λ (t : Table). (apply plan.profile live t c).table) h.run.rib))

-- no more versions were made than commands were run
pub number_bound : {w : ℕ} (live : ℕ) (r : Ran w) → r.ended ≡ false → IsRun live r → r.made.number ≤ r.commands
number_bound live r running is =
    let e : r.made.number ≡ version_before live r.plan r.commands = ap (λ (v : Version). v.number) (is.made ∙ ap (λ b. last_made b live r.plan r.commands) running) in
    omega (arith, e, version_before_bound live r.plan r.commands)

-- the version that is kept is the last one, or one that counts these commands
pub made_is : (cut : Cut) (m m' : Made) (n : ℕ) (kind : Kind) (at_end : Bool) → m' ≡ kept_by cut (record { number = m.number + 1; count = n; kind = kind; at_end = at_end }) m → IsMade (version_of m) (version_of m') n
made_is Now m m' n kind at_end e = inr (ap (λ (v : Made). v.number) e, ap (λ (v : Made). v.count) e)
made_is Stay m m' n kind at_end e = inl (ap version_of e)

-- ---- the end of the plan
pub ends_on : {w : ℕ} (live : ℕ) (plan : Planned w) (n : ℕ) (rows : Table) (replies : List Reply) (m m' : Made) (setting : Setting) (now now' : Counters) (kind : Kind) (cut : Cut) (ended : Bool)
    → ended ≡ false → IsRunner live (ran plan n rows replies m ended) setting now → n ≡ length plan.commands
    → cut ≡ cut_of (makes_at_end (course_of live plan))
    → kind ≡ choose w (Some m.kind) setting (length rows) → Suits w kind
    → m' ≡ kept_by cut (record { number = m.number + 1; count = n; kind = kind; at_end = true }) m
    → now' ≡ record now { pending = 0 }
    → IsRunner live (ran plan n rows replies m' true) setting now'
ends_on {w} live plan n rows replies m m' setting now now' kind cut ended running h all cuts choice suits made spent = record {
  run = record {
    within = h.run.within;
    rib = h.run.rib;
    replies = h.run.replies;
    made = (by_cut (makes_at_end course) refl).0;
    all = λ _. all;
    by_command = (by_cut (makes_at_end course) refl).2;
    by_end = (by_cut (makes_at_end course) refl).3;
  };
  set = h.set;
  stands = λ e. cc;
  suits = (by_cut (makes_at_end course) refl).1;
  suits_setting = h.suits_setting;
  early = rw spent h.early;
  few = rw spent h.few;
  waiting = rw spent (omega arith);
}
  where
    course : Course
    course = course_of live plan

    last : Version
    last = version_at live plan (length plan.commands)

    was : version_of m ≡ last
    was = h.run.made ∙ ap (λ b. last_made b live plan n) running ∙ ap (version_at live plan) all

    chosen : kind ≡ choose w (Some last.kind) (setting_after plan (length plan.commands)) (length (table_after live plan (length plan.commands)))
    chosen =
        choice ∙ ap (λ (v : Version). choose w (Some v.kind) setting (length rows)) was
        ∙ ap (λ s. choose w (Some last.kind) s (length rows)) (h.set ∙ ap (setting_after plan) all)
        ∙ ap (λ (t : Table). choose w (Some last.kind) (setting_after plan (length plan.commands)) (length t)) (h.run.rib ∙ ap (table_after live plan) all)

    by_cut : (t : Bool) → makes_at_end course ≡ t → (version_of m' ≡ last_version live plan) × Suits w m'.kind
        × (m'.at_end ≡ false → version_before live plan m'.count ≡ m'.number)
        × (m'.at_end ≡ true → version_before live plan (length plan.commands) + 1 ≡ m'.number)
    by_cut true y =
        let cut_now : cut ≡ Now = cuts ∙ ap cut_of y in
        let new : m' ≡ record { number = m.number + 1; count = n; kind = kind; at_end = true } = made ∙ ap (λ k. kept_by k (let v : Made = record { number = m.number + 1; count = n; kind = kind; at_end = true } in v) m) cut_now in
        let number : m.number + 1 ≡ suc last.number = ap (λ (v : Version). v.number + 1) was ∙ add-one last.number in
        let is : version_of m' ≡ following course (length plan.commands) last =
        ap version_of new ∙ ap (λ x. let v : Version = record { number = x; count = n; kind = kind } in v) number
        ∙ ap (λ x. let v : Version = record { number = suc last.number; count = x; kind = kind } in v) all
        ∙ ap (λ k. let v : Version = record { number = suc last.number; count = length plan.commands; kind = k } in v) chosen in (
          rw y is,
          subst (λ (v : Made). Suits w v.kind) (sym new) suits,
          (λ e. (let no = sym (ap (λ (v : Made). v.at_end) new) ∙ e in cc)),
          (λ _. ap (λ (v : Version). v.number + 1) (sym was) ∙ sym (ap (λ (v : Made). v.number) new)),
        )
    by_cut false y =
        let stay : cut ≡ Stay = cuts ∙ ap cut_of y in
        let same : m' ≡ m = made ∙ ap (λ k. kept_by k (let v : Made = record { number = m.number + 1; count = n; kind = kind; at_end = true } in v) m) stay in (
          rw y (ap version_of same ∙ was),
          subst (λ (v : Made). Suits w v.kind) (sym same) h.suits,
          (λ e. ap (λ (v : Made). version_before live plan v.count) same ∙ h.run.by_command (ap (λ (v : Made). v.at_end) (sym same) ∙ e) ∙ ap (λ (v : Made). v.number) (sym same)),
          (λ e. h.run.by_end (ap (λ (v : Made). v.at_end) (sym same) ∙ e) ∙ ap (λ (v : Made). v.number) (sym same)),
        )
