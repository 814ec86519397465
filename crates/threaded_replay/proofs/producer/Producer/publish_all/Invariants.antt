-- The control and the publisher are abreast. Each version is one less to come.
use Rattle.std.proofs.Common.{◌-◌, length}
use Rattle.plan_cut.specs.PlanCourse.{versions_of}
use Rattle.replay_run.specs.Limits.{banks, targets_max}
use Rattle.threaded_replay.specs.Producing.{IsAbreast}
use Rattle.threaded_replay.proofs.producer.Producer.publish_all.Given as goal

abbrev pub invariant-versions : goal.invariant-versions
invariant-versions g l = IsAbreast banks targets_max g.N.Naming.table g.N.Naming.plan g.N.Naming.readers l.self.control l.self.publisher

abbrev pub decreases-versions : goal.decreases-versions
decreases-versions g l = length (versions_of targets_max g.N.Naming.plan) - l.self.control.image.version
