-- What the parts of a control come to at its next version.
use Rattle.std.proofs.Common.{◌≡◌, ◌∙◌, ℕ, ◌+◌, ◌<◌, ◌≤◌, Bool, false, true, not, List, [], Option, Some, None, length, inl, inr, refl, sym, ap, subst, arith, add-one}
use Rattle.std.specs.Prelude.{is_some, slice_get}
use Rattle.std.specs.Arc.{arc_value}
use Rattle.prefix_width.specs.Prefix.{Block}
use Rattle.prefix_width.specs.declared.module.Kind.TheVariants.{Range}
use Rattle.nhop_index.specs.Book.{Naming}
use Rattle.nhop_index.specs.Indexes.{by_index, named, target_at}
use Rattle.nhgrp_slots.specs.Target.{target_cmp}
use Rattle.rib_store.specs.Targets.{live}
use Rattle.std.specs.List.{filter_map}
use Rattle.std.proofs.lemmas.Bool.{false≢true}
use Rattle.nhgrp_slots.specs.declared.target.Target.{Target}
use Rattle.rib_store.specs.Plan.{Planned}
use Rattle.rib_store.specs.Table.{Table, table_after}
use Rattle.plan_cut.specs.Course.{Course}
use Rattle.plan_cut.specs.PlanCourse.{course_of, last_version, version_at, version_before, versions_of}
use Rattle.plan_cut.specs.VersionTable.{commands_of, table_at}
use Rattle.plan_cut.specs.Versions.{Version, latest}
use Rattle.plan_cut.proofs.ListingLemmas.{get-versions-final, get-versions-latest, latest-zero, length-versions}
use Rattle.engine_set.specs.declared.engine.Engine.{Engine}
use Rattle.engine_set.specs.declared.entry.Entry.{Entry}
use Rattle.engine_set.specs.Engine.{SameNodes, Stands, kind_of}
use Rattle.engine_set.specs.Image.{Picture}
use Rattle.fib_edits.specs.Edits.{AreEdits}
use Rattle.fib_edits.specs.Named.{AreNamed, Keeps, indexed, number_in}
use Rattle.fib_edits.specs.Touching.{SameBut}
use Rattle.fib_edits.proofs.TouchLemmas.{touched_none}
use Rattle.fib_sync.specs.declared.working.Working.{Working}
use Rattle.fib_sync.specs.declared.numbering.Numbering.{Numbering}
use Rattle.fib_sync.specs.declared.next_version.NextVersion.{NextVersion}
use Rattle.fib_sync.specs.Control.{CameByEdits, Controlled, IsControl, IsImage, rows_at}
use Rattle.fib_sync.specs.Fresh.{new_pairs}
use Rattle.fib_sync.specs.Lawful.{AreEntriesOf, AreIndexed, IsEntryOf, IsLawful}
use Rattle.fib_sync.specs.Naming.{AreNamesAt}
use Rattle.fib_sync.specs.Running.{Ran, IsRun, last_made}
use Rattle.fib_sync.specs.Standing.{IsAhead, IsAt, IsByEnd, IsNextVersion, IsReady, MayWork, WorksFor}
use Rattle.fib_sync.specs.VersionNames.{fresh_at, names_at, naming_at, pair_of}
use Rattle.fib_sync.specs.Working.{CameBy, IsCopy, MayMove, WorksAt}
use Rattle.fib_sync.proofs.NamingLemmas.{first_names, first_table, indexed_at, keeps_at, named_rows_at}
use Rattle.fib_sync.proofs.WorkLemmas.{others_left, others_right}

-- ---- the version that is due
module _ {w : ℕ} (most : ℕ) (r : Ran w) (run : IsRun most r) where
  -- the version that was made last is listed at its number
  listed : slice_get (versions_of most r.plan) r.made.number ≡ Some r.made
  listed = go r.ended refl
    where
      course : Course
      course = course_of most r.plan

      at : (v : Version) → r.made ≡ v → slice_get (versions_of most r.plan) v.number ≡ Some v → slice_get (versions_of most r.plan) r.made.number ≡ Some r.made
      at v e h = subst (λ (x : Version). slice_get (versions_of most r.plan) x.number ≡ Some x) (sym e) h

      go : (b : Bool) → r.ended ≡ b → slice_get (versions_of most r.plan) r.made.number ≡ Some r.made
      go false e = at (version_at most r.plan r.commands) (run.made ∙ ap (λ b. last_made b most r.plan r.commands) e) (get-versions-latest course r.commands run.within)
      go true e = at (last_version most r.plan) (run.made ∙ ap (λ b. last_made b most r.plan r.commands) e) (get-versions-final course)

  listed_at : (v : ℕ) → r.made.number ≡ v → slice_get (versions_of most r.plan) v ≡ Some r.made
  listed_at v e = subst (λ n. slice_get (versions_of most r.plan) n ≡ Some r.made) e listed

  -- its table is that after all commands run
  pub table_is : (v : ℕ) → r.made.number ≡ v → r.made.count ≡ r.commands → r.rib ≡ table_at most r.plan v
  table_is v number count =
      run.rib ∙ ap (table_after most r.plan) (sym count)
      ∙ ap (λ o. table_after most r.plan (commands_of o)) (sym (listed_at v number))

  -- where the plan's end was asked, it is the plan's last
  pub last_is : (v : ℕ) → r.made.number ≡ v → r.ended ≡ true → length (versions_of most r.plan) ≡ v + 1
  last_is v number ended =
      length-versions (course_of most r.plan)
      ∙ ap (λ (x : Version). x.number + 1) (sym (run.made ∙ ap (λ b. last_made b most r.plan r.commands) ended))
      ∙ ap (λ n. n + 1) number

  -- the parts of its image are lawful
  pub lawful_is : (K v number count routes : ℕ) (engine : Engine w) (entries : List Entry) (fresh : List (ℕ × ℕ)) → 2 ≤ K → r.made.number ≡ v → r.made.count ≡ r.commands
      → number ≡ r.made.number → count ≡ r.made.count → routes ≡ length r.rib → kind_of engine ≡ r.made.kind → Stands engine (rows_at K most r.plan v) → AreEntriesOf (names_at K most r.plan v) entries
      → IsLawful most r.plan (names_at K most r.plan v) v (record { version = number; count = count; routes = routes; engine = engine; entries = entries; fresh = fresh })
  lawful_is K v number count routes engine entries fresh two is_v is_count n c routes_are kind stands are =
      let table = table_is v is_v is_count in
      let same : r.made ≡ record { number = number; count = count; kind = kind_of engine } =
      ap (λ x. let y : Version = record { number = x; count = r.made.count; kind = r.made.kind } in y) (sym n)
      ∙ ap (λ x. let y : Version = record { number = number; count = x; kind = r.made.kind } in y) (sym c)
      ∙ ap (λ x. let y : Version = record { number = number; count = count; kind = x } in y) (sym kind) in
      record {
        listed = listed_at v is_v ∙ ap Some same;
        version = n ∙ is_v;
        routes = routes_are ∙ ap length table;
        engine = record { rows = rows_at K most r.plan v; indexed = indexed_at K most r.plan two v; stands = stands };
        entries = are;
      }

-- ---- the pairs that are new
module _ {w : ℕ} (K most : ℕ) (plan : Planned w) where
  pub fresh_next : (v : ℕ) → new_pairs plan (naming_at K most plan v) (naming_at K most plan (v + 1)) ≡ fresh_at K most plan (v + 1)
  unfolding fresh_at
  fresh_next v = rw add-one refl

  -- ---- the first image
  no_names : naming_at K most plan 0 ≡ []
  no_names =
      let after = first_names K most plan in
      after.names ∙ ap (λ (t : Table). named (target_cmp {w = w}) [] (live t) after.used) (first_table K most plan)

  pub first_is : (engine : Engine w) → Stands engine [] → kind_of engine ≡ Range → IsImage K most plan 0 (record { version = 0; count = 0; routes = 0; engine = engine; entries = []; fresh = [] })
  unfolding fresh_at
  first_is engine stands kind =
      let course : Course = course_of most plan in
      let zero_at : latest course 0 ≡ record { number = 0; count = 0; kind = Range } = latest-zero course in
      let at : slice_get (versions_of most plan) 0 ≡ Some (latest course 0) = subst (λ n. slice_get (versions_of most plan) n ≡ Some (latest course 0)) (ap (λ (v : Version). v.number) zero_at) (get-versions-latest course 0 (omega arith)) in
      let same : latest course 0 ≡ record { number = 0; count = 0; kind = kind_of engine } = zero_at ∙ ap (λ k. let v : Version = record { number = 0; count = 0; kind = k } in v) (sym kind) in
      record {
        lawful = record {
          listed = at ∙ ap Some same;
          version = refl;
          routes = sym (ap length (first_table K most plan));
          engine = record { rows = []; indexed = subst (λ t. AreIndexed (names_at K most plan 0) t []) (sym (first_table K most plan)) tt; stands = stands };
          entries = λ i. subst (λ ns. IsEntryOf (names_at K most plan 0) i (target_at ns i) None) (sym no_names) refl;
        };
        fresh = ap (λ (ns : List (Target w × ℕ)). filter_map (pair_of plan) (by_index ns)) (sym no_names);
      }

-- ---- the next image
pub image_is : {w : ℕ} (K most : ℕ) (r : Ran w) → IsRun most r → (v number count routes : ℕ) (engine : Engine w) (entries : List Entry) (fresh : List (ℕ × ℕ)) (plan : Planned w) (before indexes : List (Target w × ℕ)) → 2 ≤ K → r.made.number ≡ v + 1 → r.made.count ≡ r.commands
    → number ≡ r.made.number → count ≡ r.made.count → routes ≡ length r.rib → kind_of engine ≡ r.made.kind → Stands engine (rows_at K most r.plan (v + 1))
    → plan ≡ r.plan → before ≡ naming_at K most r.plan v → indexes ≡ naming_at K most r.plan (v + 1) → AreEntriesOf (target_at indexes) entries → fresh ≡ new_pairs plan before indexes
    → IsImage K most r.plan (v + 1) (record { version = number; count = count; routes = routes; engine = engine; entries = entries; fresh = fresh })
image_is {w} K most r run v number count routes engine entries fresh plan before indexes two is_v is_count n c routes_are kind stands planned is_before is_next are pairs = record {
  lawful = lawful_is most r run K (v + 1) number count routes engine entries fresh two is_v is_count n c routes_are kind stands (subst (λ (ns : List (Target w × ℕ)). AreEntriesOf (target_at ns) entries) is_next are);
  fresh =
      pairs ∙ ap (λ (p : Planned w). new_pairs p before indexes) planned ∙ ap (λ (ns : List (Target w × ℕ)). new_pairs r.plan ns indexes) is_before
      ∙ ap (λ (ns : List (Target w × ℕ)). new_pairs r.plan (naming_at K most r.plan v) ns) is_next ∙ fresh_next K most r.plan v;
}

-- ---- the working engine
module _ {w K most : ℕ} (r : Ran w) (touched : List Block) (numbering : Numbering w K most) (old : Working w) (last : Picture w) (at : IsAt r touched numbering (Some old) last) where
  -- it may move on to indexes of the next version
  pub may_move : (names : List (Target w × ℕ)) → names ≡ naming_at K most r.plan (last.version + 1) → MayMove (number_in (naming_at K most r.plan last.version)) (number_in names) (table_at most r.plan last.version) r.rib touched old
  may_move names is = record {
    kind = kind_of last.engine;
    works = at.works.works;
    named = named_rows_at K most r.plan last.version;
    same = at.ahead.same;
    keeps = subst (λ ns. Keeps (number_in (naming_at K most r.plan last.version)) (number_in ns)) (sym is) (keeps_at K most r.plan last.version);
  }

  -- its copy came of the last image by the edits
  pub came_is : (rows : List (Block × ℕ)) (moved settled : Engine w) (image : Picture w) → rows ≡ rows_at K most r.plan (last.version + 1) → image.version ≡ last.version + 1
      → CameBy old.view rows old.engine moved → SameNodes moved settled → kind_of settled ≡ kind_of moved → SameNodes settled image.engine → kind_of image.engine ≡ kind_of settled
      → CameByEdits K most r.plan last image
  came_is rows moved settled image is version came one one_kind two two_kind = record {
    edits = came.edits;
    are =
        let from = subst (λ v. AreEdits v rows came.edits) at.works.works.view came.are in
        let to = subst (λ v. AreEdits (rows_at K most r.plan last.version) v came.edits) is from in
        subst (λ v. AreEdits (rows_at K most r.plan last.version) (rows_at K most r.plan v) came.edits) (sym version) to;
    others =
        others_right came.edits last.engine settled image.engine
        (others_right came.edits last.engine moved settled
        (others_left came.edits last.engine old.engine moved at.works.same at.works.works.same_kind came.others) one one_kind)
        two two_kind;
  }

-- the rows of the version that is due, with their indexes
pub rows_next : {w : ℕ} (K most : ℕ) (r : Ran w) (v : ℕ) (names : List (Target w × ℕ)) → IsRun most r → r.made.number ≡ v → r.made.count ≡ r.commands → names ≡ naming_at K most r.plan v → indexed (number_in names) r.rib ≡ rows_at K most r.plan v
rows_next K most r v names run number count is =
    ap (λ ns. indexed (number_in ns) r.rib) is ∙ ap (indexed (number_in (naming_at K most r.plan v))) (table_is most r run v number count)

pub named_next : {w : ℕ} (K most : ℕ) (r : Ran w) (v : ℕ) (names : List (Target w × ℕ)) → IsRun most r → r.made.number ≡ v → r.made.count ≡ r.commands → names ≡ naming_at K most r.plan v → AreNamed (number_in names) r.rib
named_next K most r v names run number count is =
    subst (λ ns. AreNamed (number_in ns) r.rib) (sym is) (subst (AreNamed (number_in (naming_at K most r.plan v))) (sym (table_is most r run v number count)) (named_rows_at K most r.plan v))

-- ---- from one state to the next
-- commands were run
pub at_ran : {w K most : ℕ} (r new : Ran w) (t t' : List Block) (n : Numbering w K most) (work : Option (Working w)) (last : Picture w) → IsAt r t n work last → IsAhead most last.version new t'
    → new.plan ≡ r.plan → r.commands ≤ new.commands → (last.version < r.made.number → new ≡ r) → IsAt new t' n work last
at_ran {w} {K} {most} r new t t' n work last at ahead plan further stays = record {
  ahead = ahead;
  names = subst (λ (p : Planned w). AreNamesAt p last.version n) (sym plan) at.names;
  due = λ some. (let more = at.due some in subst (λ (x : Ran w). last.version < x.made.number) (sym (stays more)) more);
  pictured = subst (λ (p : Planned w). IsImage K most p last.version last) (sym plan) at.pictured;
  counted = omega (arith, at.counted, further);
  works = subst (λ (p : Planned w). MayWork (rows_at K most p last.version) last work) (sym plan) at.works;
}

-- the indexes of the next version were given, and the working engine may be gone
pub at_named : {w K most : ℕ} (r : Ran w) (t : List Block) (n new : Numbering w K most) (work left : Option (Working w)) (last : Picture w) → IsAt r t n work last → last.version < r.made.number
    → AreNamesAt r.plan last.version new → MayWork (rows_at K most r.plan last.version) last left → IsAt r t new left last
at_named r t n new work left last at more names works = record {
  ahead = at.ahead;
  names = names;
  due = λ _. more;
  pictured = at.pictured;
  counted = at.counted;
  works = works;
}

-- the next version was given
pub at_next : {w K most : ℕ} (r : Ran w) (t : List Block) (n new : Numbering w K most) (work : Option (Working w)) (last : Picture w) (next : NextVersion w) → IsAt r t n work last → last.version < r.made.number
    → IsNextVersion K most r last next → AreNamesAt r.plan (last.version + 1) new → new.next ≡ None → IsAt r [] new (Some next.working) (arc_value next.image)
at_next {w} {K} {most} r t n new work last next at more is names none = record {
  ahead = record {
    run = at.ahead.run;
    high = omega (arith, version, number);
    low = omega (arith, version, number);
    due = λ h. absurd (omega (arith, version, number));
    same = subst (λ rows. SameBut [] rows r.rib) (table_is most r at.ahead.run image.version (number ∙ sym version) (at.ahead.due more)) (touched_none r.rib);
  };
  names = subst (λ v. AreNamesAt r.plan v new) (sym version) names;
  due = λ some. absurd (false≢true (sym (ap (λ (o : Option (Naming w)). is_some o) none) ∙ some));
  pictured = subst (λ v. IsImage K most r.plan v image) (sym version) is.image;
  counted = omega (arith, is.count);
  works = subst (λ v. WorksFor (rows_at K most r.plan v) image next.working) (sym version) is.works;
}
  where
    image : Picture w
    image = arc_value next.image

    version : image.version ≡ last.version + 1
    version = is.image.lawful.version

    number : r.made.number ≡ last.version + 1
    number = omega (arith, at.ahead.low, more)

-- whether the plan's end made it
pub by_end_next : {w K most : ℕ} (r : Ran w) (last : Picture w) (next : NextVersion w) (at_end : Bool) → IsRun most r → IsNextVersion K most r last next → r.made.number ≡ last.version + 1 → r.made.count ≡ r.commands
    → at_end ≡ r.at_end → IsByEnd most r.plan (arc_value next.image) at_end
by_end_next {w} {K} {most} r last next at_end run is number count same = record {
  by_command = λ h. ap (version_before most r.plan) (is.count ∙ sym count) ∙ run.by_command (sym same ∙ h) ∙ number ∙ sym is.image.lawful.version;
  by_end = λ h. run.by_end (sym same ∙ h) ∙ number ∙ sym is.image.lawful.version;
}

-- before the first command
pub at_begin : {w K most : ℕ} (r : Ran w) (t : List Block) (n : Numbering w K most) (work : Working w) (image : Picture w) → IsRun most r → r.commands ≡ 0 → (r.made.number ≡ 0) × (r.made.count ≡ 0) → t ≡ []
    → AreNamesAt r.plan 0 n → n.next ≡ None → IsImage K most r.plan 0 image → image.count ≡ 0 → work.view ≡ [] → IsCopy [] work.engine image.engine → Stands work.engine []
    → IsAt r t n (Some work) image × IsByEnd most r.plan image false
at_begin {w} {K} {most} r t n work image run commands made none names not_next is count view copy stands = (
  record {
    ahead = record {
      run = run;
      high = omega (arith, version);
      low = omega (arith, version, made.0);
      due = λ more. absurd (omega (arith, version, made.0));
      same =
          subst (λ (ps : List Block). SameBut ps (table_at most r.plan image.version) r.rib) (sym none)
          (subst (λ (rows : Table). SameBut [] rows r.rib) (table_is most r run image.version (made.0 ∙ sym version) (made.1 ∙ sym commands)) (touched_none r.rib));
    };
    names = subst (λ v. AreNamesAt r.plan v n) (sym version) names;
    due = λ some. absurd (false≢true (sym (ap (λ (o : Option (Naming w)). is_some o) not_next) ∙ some));
    pictured = subst (λ v. IsImage K most r.plan v image) (sym version) is;
    counted = omega (arith, count);
    works = record {
      works = subst (λ (rows : List (Block × ℕ)). WorksAt (kind_of image.engine) rows work) no_rows (record { view = view; engine = stands; same_kind = sym copy.kind });
      same = copy.same;
    };
  },
  record {
    by_command = λ _. ap (version_before most r.plan) count ∙ ap (λ (v : Version). v.number) (latest-zero (course_of most r.plan)) ∙ sym version;
    by_end = λ e. cc;
  },
)
  where
    version : image.version ≡ 0
    version = is.lawful.version

    no_rows : [] ≡ rows_at K most r.plan image.version
    no_rows =
        sym (ap (λ v. rows_at K most r.plan v) version
        ∙ ap (λ (rows : Table). indexed (number_in (naming_at K most r.plan 0)) rows) (first_table K most r.plan))

-- ---- what contracts see
abbrev pub seen : {w : ℕ} → Ran w → Picture w → Bool → Bool → Controlled w
seen r last ended interrupted =
    record { plan = r.plan; commands = r.commands; rib = r.rib; replies = r.replies; image = last; ended = ended; interrupted = interrupted }

pub control_is : {w K most : ℕ} (r : Ran w) (t : List Block) (n : Numbering w K most) (work : Option (Working w)) (last : Picture w) (ended interrupted : Bool) → IsAt r t n work last → IsByEnd most r.plan last ended
    → IsControl K most (seen r last ended interrupted)
control_is r t n work last ended interrupted at by_end = record {
  within = at.ahead.run.within;
  rib = at.ahead.run.rib;
  replies = at.ahead.run.replies;
  image = at.pictured;
  counted = at.counted;
  by_command = by_end.by_command;
  by_end = by_end.by_end;
}

-- where the plan has no further version
pub finished_is : {w : ℕ} (most v : ℕ) (r : Ran w) → IsRun most r → IsReady v r → r.made.number ≡ v → (length (versions_of most r.plan) ≡ v + 1) × (r.commands ≡ length r.plan.commands)
finished_is most v r run (inl more) number = absurd (omega arith)
finished_is most v r run (inr ended) number = (last_is most r run v number ended, run.all ended)

-- where memory was not wanting there was a working engine
pub came_from : {w : ℕ} {X : Type 0} (work : Option (Working w)) → not (is_some work) ≡ false → ((old : Working w) → work ≡ Some old → X) → X
came_from None never f = absurd (false≢true (sym never))
came_from (Some old) never f = f old refl
