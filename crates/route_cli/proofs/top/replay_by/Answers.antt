-- Bytes within the limit are refused for a reason of their line; where writing fails, a front of the text was written.
use Rattle.std.proofs.Common.{Some}
use Rattle.route_cli.proofs.CauseLemmas.{refused}
use Rattle.route_cli.specs.declared.job.Task.TheVariants.{ReplaysBy}
use Rattle.route_cli.proofs.top.replay_by.Goals as goal

pub returns-in-Err-Fault-clause-refused : goal.returns-in-Err-Fault-clause-refused
returns-in-Err-Fault-clause-refused g c =
    refused (ReplaysBy c.args.workers) _ _ c.in-Ok.bytes.items _ _ (record { whole = c.in-Ok.ensures.all; within = c.in-Ok.ensures.within }) (rw (c.in-Err-Fault.field-0-is, c.deref.ensures.value) at c.in-Err-Fault.ensures)

-- a front of the replay's text was written
pub returns-clause-interrupted : goal.returns-clause-interrupted
returns-clause-interrupted g c = λ fault. record {
  bytes = c.in-Ok.bytes.items;
  read = record { whole = c.in-Ok.ensures.all; within = c.in-Ok.ensures.within };
  text = c.in-Ok-replay_text.output.0.items;
  totals = Some c.in-Ok-replay_text.output.1;
  made = rw c.deref.ensures.value at c.in-Ok-replay_text.ensures;
  sink = rw c.deref-2.ensures.value at c.in-Err.ensures.front;
}
