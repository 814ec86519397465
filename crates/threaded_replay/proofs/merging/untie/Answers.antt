-- One more pass of each family is taken out of what a worker did.
use Rattle.std.proofs.Common.{◌≡◌, ◌∙◌, sym}
use Rattle.std.proofs.lemmas.List.{length-map}
use Rattle.std.proofs.lemmas.List.Elements.{All-push, All-same}
use Rattle.fib_pass.specs.Views.{PassView}
use Rattle.threaded_replay.specs.Tally.{tally_of}
use Rattle.threaded_replay.proofs.ResultLemmas.{all_taken, one_taken}
use Rattle.threaded_replay.proofs.merging.untie.Goals as goal

pub loop-done-preserved : goal.loop-done-preserved
loop-done-preserved g c =
    let inv = c.loop-done.invariant in
    let left = c.loop-done.done-iterator.rest.items in
    let rest = c.next.new.self.rest.items in
    let split = c.in-Some.ensures.steps.0 in
    let out = c.into_pass.ensures in
    let out6 = c.into_pass-in-loop-done.ensures in
    let tied : PassView 32 → Type 0 = λ q. (q.seat.table ≡ g.A.Naming.table) × (q.seat.key ≡ g.A.Naming.plan) in
    let tied6 : PassView 128 → Type 0 = λ q. (q.seat.table ≡ g.B.Naming.table) × (q.seat.key ≡ g.B.Naming.plan) in
    record {
      inet = rw c.in_ok-push.ensures.items (one_taken (tally_of g.A.Naming.plan) (λ d. d.inet) c.loop-done.inet.items c.into_pass.result left rest c.in-Some.done _ split out.tally inv.inet);
      inet6 = rw c.in_ok-push-2.ensures.items (one_taken (tally_of g.B.Naming.plan) (λ d. d.inet6) c.loop-done.inet6.items c.into_pass-in-loop-done.result left rest c.in-Some.done _ split out6.tally inv.inet6);
      tied = All-same tied _ _ c.in_ok-push.ensures.items (All-push tied c.loop-done.inet.items c.into_pass.result inv.tied (out.table, out.plan));
      tied6 = All-same tied6 _ _ c.in_ok-push-2.ensures.items (All-push tied6 c.loop-done.inet6.items c.into_pass-in-loop-done.result inv.tied6 (out6.table, out6.plan));
    }

pub returns-clause-inet : goal.returns-clause-inet
returns-clause-inet g c =
    let left = c.loop-done.done-iterator.rest in
    all_taken _ _ _ (length-map left.items (λ d. d.inet) ∙ sym left.ok.0 ∙ c.in-None.ensures.steps.0) c.loop-done.invariant.inet

pub returns-clause-inet6 : goal.returns-clause-inet6
returns-clause-inet6 g c =
    let left = c.loop-done.done-iterator.rest in
    all_taken _ _ _ (length-map left.items (λ d. d.inet6) ∙ sym left.ok.0 ∙ c.in-None.ensures.steps.0) c.loop-done.invariant.inet6
