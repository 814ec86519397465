-- The next pass of each family is new, and has the job's number.
use Rattle.std.proofs.Common.{◌≡◌, ◌∙◌, ◌+◌, length, drop, ap, subst, sym, arith, lit<, rules}
use Rattle.std.proofs.lemmas.List.{length_push}
use Rattle.threaded_replay.specs.Tally.{IsNew}
use Rattle.threaded_replay.proofs.JobLemmas.{next_unused, unused_is_new}
use Rattle.threaded_replay.proofs.ResultLemmas.{each_snoc}
use Rattle.threaded_replay.proofs.jobs.make_jobs.Goals as goal

pub new-requires-in-loop-inet : goal.new-requires-in-loop-inet
new-requires-in-loop-inet g c =
    let inv = c.loop-inet.invariant in
    let next = next_unused g.B.Naming.table g.B.Naming.plan (length c.args.passes.items) c.args.passes6.items (length c.loop-inet.jobs.items) c.loop-inet.rest6.rest.items _ c.in-Some-next.inet6
    c.requires.inet6 inv.left6 c.in-Some-next.ensures.items in
    (lit< tt, (lit< tt, (ap (λ p. p.seat.table) next.0, ap (λ p. p.seat.key) next.0)))

pub loop-inet-preserved : goal.loop-inet-preserved
loop-inet-preserved g c =
    let inv = c.loop-inet.invariant in
    let next = next_unused g.A.Naming.table g.A.Naming.plan (length c.args.passes.items) c.args.passes.items (length c.loop-inet.jobs.items) c.loop-inet.inet-iterator.rest.items _ c.in-Some.inet
    c.requires.inet inv.left c.in-Some.ensures.steps.0 in
    let next6 = next_unused g.B.Naming.table g.B.Naming.plan (length c.args.passes.items) c.args.passes6.items (length c.loop-inet.jobs.items) c.loop-inet.rest6.rest.items _ c.in-Some-next.inet6
    c.requires.inet6 inv.left6 c.in-Some-next.ensures.items in
    let items = c.in_ok-push.ensures.items in
    let one : length c.push.new.self.items ≡ length c.loop-inet.jobs.items + 1 = ap length items ∙ length_push c.loop-inet.jobs.items _ in
    let fewer = ap length c.in-Some.ensures.steps.0 in
    record {
      left = next.1 ∙ ap (λ k. drop k c.args.passes.items) (sym one);
      left6 = next6.1 ∙ ap (λ k. drop k c.args.passes6.items) (sym one);
      count = omega (arith, one, fewer, inv.count);
      jobs = rw items (each_snoc (λ i j. (j.number ≡ i) × IsNew i j.inet × IsNew i j.inet6) _ _ inv.jobs (
        search rules,
        subst (λ t. IsNew (length c.loop-inet.jobs.items) t) (sym c.new.ensures) (unused_is_new _ _ _ _ next.0),
        subst (λ t. IsNew (length c.loop-inet.jobs.items) t) (sym c.new-in-loop-inet.ensures) (unused_is_new _ _ _ _ next6.0),
      ));
    }
