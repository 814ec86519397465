use Rattle.std.proofs.Common.{◌∙◌}
use Rattle.fib_sync.specs.VersionNames.{names_at}
use Rattle.fib_pass.proofs.PassLemmas.{lookup_steps}
use Rattle.fib_pass.proofs.answer.answer_once.Goals as goal

pub returns-clause-history : goal.returns-clause-history
returns-clause-history g c =
    let enters = c.enter-standing.ensures in
    let answers = c.answer_inside-answer.ensures in
    let leaves = c.leave.ensures in
    lookup_steps (names_at g.row.K g.row.LIVE c.args.plan.now c.answer_inside-answer.result.version) c.args.seat.number _ _ c.args.seat.steps _ _ _ _ _ _ _ c.answer_inside-answer.result.nexthop
    enters.history ((λ i. (leaves.seat i).own.last) ∙ (λ i. (answers.seat i).seat.own.last)) answers.version
    answers.step enters.seat.2 leaves.step ((λ i. (answers.seat i).seat.number) ∙ enters.seat.2)
