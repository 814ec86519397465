-- The pass's contract, in terms of what the pass has done.
use Rattle.std.proofs.Common.{subst}
use Rattle.replay_run.specs.Limits.{targets_max}
use Rattle.threaded_replay.specs.Tally.{Answers, tally_of}
use Rattle.threaded_replay.proofs.TallyLemmas.{answers}
use Rattle.threaded_replay.proofs.naming.TiedPass.lookup.Goals as goal

pub returns : goal.returns
returns g c =
    let e = c.in-Ok.ensures in
    let new = c.lookup.new.self in
    subst (λ old. Answers targets_max g.N.Naming.plan old c.args.addr c.args.flow c.in-Ok.answer.version c.in-Ok.answer.nexthop (tally_of g.N.Naming.plan new)) c.self.view_is
    (answers targets_max g.N.Naming.plan c.self.inside.pass new c.args.addr c.args.flow c.in-Ok.answer.version c.in-Ok.answer.nexthop c.self.invariant.1 e.right e.listed e.later e.seat e.lookups e.hits)
