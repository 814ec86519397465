use Rattle.std.proofs.Common.{◌-◌, ◌/◌}
use Rattle.std.proofs.Math.Nat.{max_comm}
use Rattle.engine_set.proofs.choice.preference.Goals as goal

pub returns-in-Range-clause-value : goal.returns-in-Range-clause-value
returns-in-Range-clause-value g c = let same = max_comm (253 - c.args.routes / 4) 1 in cc
