use Rattle.std.proofs.Common.{subst}
use Rattle.fib_edits.specs.Touching.{Gains, touched_by}
use Rattle.rib_store.specs.Table.{Table}
use Rattle.fib_sync.proofs.AheadLemmas.{ahead_more, ahead_ran}
use Rattle.fib_sync.proofs.running.run_one.Goals as goal

pub returns-in_err-add_command-clause-ahead : goal.returns-in_err-add_command-clause-ahead
returns-in_err-add_command-clause-ahead g c = ahead_more g.row.LIVE c.args.given c.args.runner.now c.args.touched.now c.add_command.new.self c.requires.ahead c.in_err-add_command.ensures.kept

pub returns-clause-ahead : goal.returns-clause-ahead
returns-clause-ahead g c =
    let gains = subst (λ (rows : Table). Gains c.args.touched.now (touched_by rows c.command.result.now) c.add_command.new.self) c.rib.ensures.rows c.in_ok-add_command.ensures.ok in
    ahead_ran c.run.result g.row.LIVE c.args.given c.command.result.now c.args.runner.now c.run.new.self c.args.touched.now c.add_command.new.self c.requires.ahead c.requires.calm c.command.ensures
    gains c.in_ok-add_command.ensures.kept c.run.ensures.run c.run.ensures.on c.run.ensures.err
