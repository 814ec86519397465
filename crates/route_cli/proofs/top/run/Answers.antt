-- Completeness of a replay by workers follows from the other clauses.
use Rattle.std.proofs.Common.{◌≡◌, map, subst}
use Rattle.std.specs.Prelude.{string_bytes}
use Rattle.route_cli.specs.Cause.{IsComplete}
use Rattle.route_cli.specs.Words.{task_of}
use Rattle.route_cli.specs.declared.job.Task.{Task}
use Rattle.route_cli.specs.declared.job.Task.TheVariants.{ReplaysBy}
use Rattle.route_cli.proofs.CauseLemmas.{completes}
use Rattle.route_cli.proofs.top.run.Goals as goal

pub returns-in-Ok-ReplaysBy-clause-complete : goal.returns-in-Ok-ReplaysBy-clause-complete
returns-in-Ok-ReplaysBy-clause-complete g c =
    let all = c.replay_by.ensures in
    let asked = c.in-Ok-ReplaysBy.ensures.task in
    let found = c.in-Ok-ReplaysBy.field-0-is in
    let task : ReplaysBy c.in-Ok-ReplaysBy.workers ≡ task_of (map string_bytes c.args.words.now) = cc in
    subst (λ (t : Task). IsComplete t (g.S.Source.left c.args.source.now) (g.S.Source.faults c.args.source.now) (g.S.Source.faults c.replay_by.new.source) (g.K.Sink.faults c.args.sink.now) (g.K.Sink.faults c.replay_by.new.sink) c.replay_by.result.0) task
    (completes (ReplaysBy c.in-Ok-ReplaysBy.workers) (g.S.Source.left c.args.source.now) (g.S.Source.left c.replay_by.new.source) (g.S.Source.faults c.args.source.now) (g.S.Source.faults c.replay_by.new.source) (g.K.Sink.faults c.args.sink.now) (g.K.Sink.faults c.replay_by.new.sink) c.replay_by.result.0 all.no_usage all.read all.write all.refused)
