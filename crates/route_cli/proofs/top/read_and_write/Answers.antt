-- Bytes within the limit are refused for a reason of their line.
use Rattle.route_cli.proofs.CauseLemmas.{refused}
use Rattle.route_cli.specs.declared.job.Task.TheVariants.{Does}
use Rattle.route_cli.proofs.top.read_and_write.Goals as goal

pub returns-in-Err-Fault-clause-refused : goal.returns-in-Err-Fault-clause-refused
returns-in-Err-Fault-clause-refused g c =
    refused (Does c.args.job) _ _ c.in-Ok.bytes.items _ _ c.in-Ok.ensures.reads (rw (c.in-Err-Fault.field-0-is, c.deref.ensures.value) at c.in-Err-Fault.ensures)
