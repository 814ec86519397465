-- No commands make version 0.
use Rattle.std.proofs.Common.{ap, arith}
use Rattle.plan_cut.specs.PlanCourse.{course_of}
use Rattle.plan_cut.specs.Versions.{Version}
use Rattle.plan_cut.proofs.ListingLemmas.{latest-zero}
use Rattle.replay_run.specs.Limits.{targets_max}
use Rattle.threaded_replay.proofs.follow.Follower.new.Goals as goal

pub invariant_of-result : goal.invariant_of-result
invariant_of-result g c =
    let none = ap (λ (v : Version). v.number) (latest-zero (course_of targets_max g.N.Naming.plan)) in
    omega (arith, none)
