-- A line that asks for something is taken in.
use Rattle.std.proofs.Common.{sym}
use Rattle.route_lang.proofs.ReadingLemmas.{takes_line}
use Rattle.route_lang.proofs.script.take_line.Goals as goal

pub returns-in_ok-take_asked-in-Ok-clause-taken : goal.returns-in_ok-take_asked-in-Ok-clause-taken
returns-in_ok-take_asked-in-Ok-clause-taken c =
    let takes = takes_line c.args.number c.args.line.now c.args.plans.now c.args.lines.now.items c.in-Ok.asked (sym c.in-Ok.ensures.value) in
    let taken = c.in_ok-take_asked-in-Ok.ensures in
    rw (taken.plans, taken.lines) takes
