-- The parts of the output in turn.
use Rattle.threaded_replay.specs.Merging.{version_in}
use Rattle.threaded_replay.proofs.EndLemmas.{whole_text}
use Rattle.threaded_replay.proofs.ending.end.Goals as goal

pub returns-clause-text : goal.returns-clause-text
returns-clause-text c =
    let inet = c.in_ok-inet in
    let inet6 = c.in_ok-inet6 in
    whole_text c.args.script.now (version_in c.args.ran.gots.items) c.args.ran.fibs.inet c.args.ran.fibs.inet6 inet.inet.totals.packets inet6.inet6.totals.packets inet.inet.control inet6.inet6.control
    c.new-out.result.items c.write_lines.new.out.items c.write_end.new.out.items
    c.requires.inet c.requires.inet6 inet.ensures.packets inet6.ensures.packets inet.ensures.control inet6.ensures.control c.new-out.ensures.items c.in_ok-write_lines.ensures c.in_ok-write_end.ensures
