use Rattle.fib_sync.proofs.AheadLemmas.{ahead_end}
use Rattle.fib_sync.proofs.running.run_to_version.Goals as goal

pub returns-then-is_calm-clause-ahead : goal.returns-then-is_calm-clause-ahead
returns-then-is_calm-clause-ahead g c =
    let calm = c.is_calm-2.ensures.yes c.if-is_calm.true in
    ahead_end g.row.LIVE c.args.given c.running.runner c.finish.new.self c.running.touched c.running.invariant.ahead calm.0 c.finish.ensures.run c.finish.ensures.ends
