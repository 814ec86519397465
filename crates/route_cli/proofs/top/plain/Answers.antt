-- Completeness follows from the other clauses.
use Rattle.route_cli.proofs.CauseLemmas.{completes}
use Rattle.route_cli.specs.declared.job.Task.TheVariants.{Does}
use Rattle.route_cli.proofs.top.plain.Goals as goal

pub returns-clause-complete : goal.returns-clause-complete
returns-clause-complete g c =
    let all = c.read_and_write.ensures in
    completes (Does c.args.job) _ (g.S.Source.left c.read_and_write.new.source) _ _ _ _ _ all.no_usage all.read all.write all.refused
