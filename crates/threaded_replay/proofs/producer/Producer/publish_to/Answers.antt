-- What is published behind the last command that was run, and behind the plan's end.
use Rattle.std.proofs.Common.{arith}
use Rattle.replay_run.specs.Limits.{banks, targets_max}
use Rattle.threaded_replay.proofs.ProducingLemmas.{all_published, caught_up, image_listed, went_on, went_through}
use Rattle.threaded_replay.proofs.producer.Producer.publish_to.Goals as goal

pub returns-then-not-branch-clause-due : goal.returns-then-not-branch-clause-due
returns-then-not-branch-clause-due g c =
    let new = c.go_on.new.self in
    let through = went_through banks targets_max g.N.Naming.table g.N.Naming.plan g.N.Naming.readers c.commands.self.control new.control new.publisher c.in_ok-go_on.field-0 c.if-not-branch.true c.in_ok-go_on.ensures in
    all_published banks targets_max g.N.Naming.table g.N.Naming.plan g.N.Naming.readers new.control new.publisher c.args.synced through c.requires.within

pub commands-smaller : goal.commands-smaller
commands-smaller g c =
    let new = c.go_on.new.self in
    let old = c.commands.self in
    let on = went_on banks targets_max g.N.Naming.table g.N.Naming.plan g.N.Naming.readers old.control new.control new.publisher c.in_ok-go_on.field-0 c.if-not-branch.false c.in_ok-go_on.ensures in
    let is = c.commands.invariant in
    let listed = image_listed banks targets_max g.N.Naming.table g.N.Naming.plan g.N.Naming.readers old.control old.publisher is.is_control is.of_plan in
    omega (arith, on.1, listed)

pub returns-clause-due : goal.returns-clause-due
returns-clause-due g c =
    let here = c.commands.self in
    caught_up banks targets_max g.N.Naming.table g.N.Naming.plan g.N.Naming.readers here.control here.publisher c.args.synced c.commands.invariant c.requires.within
    (omega (arith, c.commands-test.false, c.commands-in-commands.ensures.count))
