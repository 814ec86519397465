-- The fibs end as their gets were answered.
use Rattle.std.proofs.Common.{arith, length}
use Rattle.route_lang.specs.Fits.{no_commands}
use Rattle.replay_run.specs.Output.{inet_of, inet6_of}
use Rattle.threaded_replay.specs.Legal.{Inet, Inet6}
use Rattle.replay_run.specs.Limits.{targets_max}
use Rattle.threaded_replay.specs.Merging.{version_in}
use Rattle.threaded_replay.proofs.EndLemmas.{ends_so}
use Rattle.threaded_replay.proofs.OutputLemmas.{given_paired, given_paired6}
use Rattle.threaded_replay.proofs.ThreadedLemmas.{IfOk-seven, threaded_is}
use Rattle.threaded_replay.proofs.threaded_run.threaded.Goals as goal

pub end-requires-clause-inet : goal.end-requires-clause-inet
end-requires-clause-inet g c =
    let script = c.args.script.now in
    let version = version_in c.in_ok-ran.ran.gots.items in
    ends_so (length c.in_ok-fibs.fibs.inet.passes.items) script version Inet (inet_of script) c.in_ok-fibs.fibs.inet c.in_ok-ran.ran.fibs.inet c.in_ok-ran.ensures.inet
    (omega (arith, c.requires.0, c.in_ok-fibs.ensures.inet.passes.count)) (given_paired targets_max script script.lines no_commands version)

pub end-requires-clause-inet6 : goal.end-requires-clause-inet6
end-requires-clause-inet6 g c =
    let script = c.args.script.now in
    let version = version_in c.in_ok-ran.ran.gots.items in
    ends_so (length c.in_ok-fibs.fibs.inet.passes.items) script version Inet6 (inet6_of script) c.in_ok-fibs.fibs.inet6 c.in_ok-ran.ran.fibs.inet6 c.in_ok-ran.ensures.inet6
    (omega (arith, c.requires.0, c.in_ok-fibs.ensures.inet.passes.count)) (given_paired6 targets_max script script.lines no_commands version)

pub returns : goal.returns
returns g c =
    let e = c.end.ensures in
    let ran = c.in_ok-ran.ensures in
    IfOk-seven c.end.result _ _ _ _ _ _ _ _
    (λ r text passes passes6 packets packets6 newest newest6.
    threaded_is (length c.in_ok-fibs.fibs.inet.passes.items) c.args.workers c.args.script.now (version_in c.in_ok-ran.ran.gots.items) _ _ r.0.items r.1 c.in_ok-fibs.ensures.inet.passes.count
    ran.legal ran.inet.used ran.inet6.used text passes passes6 packets packets6 newest newest6)
    e.text e.passes e.passes6 e.packets e.packets6 e.newest e.newest6
