-- What the workers did, in terms of the script.
use Rattle.std.proofs.Common.{◌≡◌, ◌∙◌, inl, inr, ℕ, ◌<◌, List, Some, length, sym, ap, subst, arith}
use Rattle.std.specs.Prelude.{map}
use Rattle.std.specs.List.{slice_get}
use Rattle.std.proofs.lemmas.List.{length-map}
use Rattle.std.proofs.lemmas.Option.{slice_get_cases, slice_get_within, get_or_from_slice_get}
use Rattle.std.proofs.Math.ListN.{get_or-map}
use Rattle.atomic_table.specs.Seated.{TableId}
use Rattle.rib_store.specs.Plan.{Planned}
use Rattle.route_lang.specs.Script.{Reading}
use Rattle.fib_pass.specs.declared.totals.PassEnd.{PassEnd}
use Rattle.fib_pass.specs.Totals.{end_of}
use Rattle.fib_pass.specs.Views.{PassView}
use Rattle.threaded_replay.specs.declared.fib.Fib.{Fib}
use Rattle.threaded_replay.specs.declared.got.Got.{Got}
use Rattle.threaded_replay.specs.Fibs.{IsRunFib}
use Rattle.threaded_replay.specs.Legal.{Family, Get, IsLegal, IsUsed, IsUsedFor, gets_of, turns}
use Rattle.replay_run.specs.Limits.{banks, targets_max}
use Rattle.threaded_replay.specs.Merging.{AreMade, AreRight, IsRising, version_in}
use Rattle.threaded_replay.specs.Producing.{IsThrough}
use Rattle.threaded_replay.specs.Serving.{of_plans}

module _ (most : ℕ) (script : Reading) where
  -- nothing but a script's plans is asked of it
  pub right_for : (gets : List Get) (gots : List Got) → AreRight most (of_plans script.inet script.inet6) gets gots → AreRight most script gets gots
  right_for gets gots right = record {
    count = right.count;
    each = λ j get got at is. (let r = right.each j get got at is in record { since = r.since; last = r.last; answer = r.answer });
  }

  -- right answers whose versions rise for each worker are legal
  pub legal_for : (n : ℕ) (gots : List Got) → AreRight most script (gets_of script) gots → IsRising n (gets_of script) (version_in gots) → IsLegal most n script (version_in gots)
  legal_for n gots right rising = record {
    since = λ j get at. (let g = answered j get at in rw g.1 (right.each j get g.0 at g.1).since);
    last = λ j get at. (let g = answered j get at in rw g.1 (right.each j get g.0 at g.1).last);
    rising = rising;
  }
    where
      answered : (j : ℕ) (get : Get) → slice_get (gets_of script) j ≡ Some get → (got : Got) × (slice_get gots j ≡ Some got)
      answered j get at = elim (slice_get_cases gots j).1 [
        | inl p ↦ (p.0, p.2)
        | inr p ↦ (let lt = slice_get_within (gets_of script) j get at in absurd (omega (arith, lt, p.0, right.count)))
      ]

  -- passes that have made the gets of their workers are used so
  pub used_for : {w : ℕ} (n : ℕ) (version : ℕ → ℕ) (family : Family) (table : TableId) (plan : Planned w) (passes : List (PassView w))
      → AreMade most n (of_plans script.inet script.inet6) (gets_of script) version family table plan passes → IsUsed n script version family (map end_of passes)
  used_for {w} n version family table plan passes made = record {
    passes = length-map passes end_of ∙ made.count;
    each = λ i end at.
        (let inside : i < length passes = (let lt = slice_get_within (map {A = PassView w} end_of passes) i end at in omega (arith, lt, length-map {A = PassView w} passes end_of)) in
        elim (slice_get_cases passes i).1 [
          | inl p ↦
              (let pass = p.0 in
              let is : end_of pass ≡ end =
              ap (λ (q : PassView w). end_of q) (sym p.3) ∙ sym (get_or-map (λ (q : PassView w). end_of q) passes i pass) ∙ get_or_from_slice_get (map {A = PassView w} end_of passes) i end (end_of pass) at in
              let m = (made.made i pass (omega (arith, inside, made.count))).used in
              subst (λ (e : PassEnd). IsUsedFor (turns n i family script) version e.lookups e.seen) is
              (subst (λ (q : PassView w). IsUsedFor (turns n i family script) version q.lookups q.seat.own.seen) p.3 m))
          | inr p ↦ absurd (omega (arith, p.0, inside))
        ]);
  }

-- a family's control and passes behind all gets
pub run_for : {w : ℕ} (n : ℕ) (script : Reading) (version : ℕ → ℕ) (family : Family) (plan : Planned w) (old new : Fib w)
    → IsThrough banks targets_max old.publisher.table plan n new.control new.publisher
    → AreMade targets_max n (of_plans script.inet script.inet6) (gets_of script) version family old.publisher.table plan new.passes.items
    → IsRunFib n script version family plan old new
run_for n script version family plan old new through made = record {
  through = through;
  passes = made.tied;
  numbers = λ i d lt. (made.made i d lt).number;
  used = used_for targets_max script n version family old.publisher.table plan new.passes.items made;
  hops = λ i d lt. (made.made i d lt).hops;
}

-- ---- fibs of plans that are the script's, and gets that are its gets

module _ (script : Reading) (plan : Planned 32) (plan6 : Planned 128) (gets : List Get) (own : plan ≡ script.inet) (own6 : plan6 ≡ script.inet6) (all : gets ≡ gets_of script) where
  pub right_here : (gots : List Got) → AreRight targets_max (of_plans plan plan6) gets gots → AreRight targets_max script (gets_of script) gots
  right_here gots right =
      right_for targets_max script (gets_of script) gots
      (subst (λ (p : Planned 32). AreRight targets_max (of_plans p script.inet6) (gets_of script) gots) own
      (subst (λ (p : Planned 128). AreRight targets_max (of_plans plan p) (gets_of script) gots) own6
      (subst (λ (gs : List Get). AreRight targets_max (of_plans plan plan6) gs gots) all right)))

  pub legal_here : (n : ℕ) (gots : List Got) → AreRight targets_max (of_plans plan plan6) gets gots → IsRising n gets (version_in gots) → IsLegal targets_max n script (version_in gots)
  legal_here n gots right rising =
      legal_for targets_max script n gots (right_here gots right) (subst (λ (gs : List Get). IsRising n gs (version_in gots)) all rising)

  pub run_here : {w : ℕ} (n : ℕ) (version : ℕ → ℕ) (family : Family) (mine whole : Planned w) (same : mine ≡ whole) (old new : Fib w)
      → IsThrough banks targets_max old.publisher.table mine n new.control new.publisher
      → AreMade targets_max n (of_plans plan plan6) gets version family old.publisher.table mine new.passes.items
      → IsRunFib n script version family whole old new
  run_here {w} n version family mine whole same old new through made =
      run_for n script version family whole old new
      (subst (λ (p : Planned w). IsThrough banks targets_max old.publisher.table p n new.control new.publisher) same through)
      (subst (λ (p : Planned 32). AreMade targets_max n (of_plans p script.inet6) (gets_of script) version family old.publisher.table whole new.passes.items) own
      (subst (λ (p : Planned 128). AreMade targets_max n (of_plans plan p) (gets_of script) version family old.publisher.table whole new.passes.items) own6
      (subst (λ (gs : List Get). AreMade targets_max n (of_plans plan plan6) gs version family old.publisher.table whole new.passes.items) all
      (subst (λ (p : Planned w). AreMade targets_max n (of_plans plan plan6) gets version family old.publisher.table p new.passes.items) same made))))
