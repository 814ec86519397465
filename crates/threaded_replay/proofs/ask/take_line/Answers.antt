-- The line at the place is the first of those that are left.
use Rattle.std.proofs.Common.{refl, lit<, append_assoc}
use Rattle.route_lang.specs.declared.line.Line.TheVariants.{Change, Quiet, Get4, Get6}
use Rattle.threaded_replay.proofs.AskLemmas.{at_line, quiet_has}
use Rattle.threaded_replay.proofs.ask.take_line.Goals as goal

pub returns-in-Change : goal.returns-in-Change
returns-in-Change c = rw (at_line c.args.script.now c.args.i _ _ (Change c.in-Change.line c.in-Change.inet c.in-Change.inet6) c.lines.ensures.value c.get.ensures c.in-Change.is) refl

pub synced_behind-synced-requires : goal.synced_behind-synced-requires
synced_behind-synced-requires c =
    let has = quiet_has c.args.script.now _ c.args.i _ c.in-Quiet.line c.in-Quiet.inet c.in-Quiet.inet6 c.lines.ensures.facts c.lines.ensures.value c.get.ensures c.in-Quiet.is in
    rw (c.deref.ensures, c.inet.ensures) (lit< tt, has.0)

pub synced_behind-synced-requires-in-Quiet : goal.synced_behind-synced-requires-in-Quiet
synced_behind-synced-requires-in-Quiet c =
    let has = quiet_has c.args.script.now _ c.args.i _ c.in-Quiet.line c.in-Quiet.inet c.in-Quiet.inet6 c.lines.ensures.facts c.lines.ensures.value c.get.ensures c.in-Quiet.is in
    rw (c.deref-in-Quiet.ensures, c.inet6.ensures) (lit< tt, has.1)

pub returns-in-Quiet : goal.returns-in-Quiet
returns-in-Quiet c =
    rw (at_line c.args.script.now c.args.i _ _ (Quiet c.in-Quiet.line c.in-Quiet.inet c.in-Quiet.inet6) c.lines.ensures.value c.get.ensures c.in-Quiet.is)
    (rw (c.synced_behind-synced.ensures, c.synced_behind-synced-in-Quiet.ensures, c.deref.ensures, c.inet.ensures, c.deref-in-Quiet.ensures, c.inet6.ensures) refl)

pub returns-in_ok-push-in-Get4 : goal.returns-in_ok-push-in-Get4
returns-in_ok-push-in-Get4 c =
    rw (at_line c.args.script.now c.args.i _ _ (Get4 c.in-Get4.line c.in-Get4.addr c.in-Get4.flow c.in-Get4.at) c.lines.ensures.value c.get.ensures c.in-Get4.is)
    (rw (c.in_ok-push-in-Get4.ensures.items, append_assoc) refl)

pub returns-in_ok-push-in-Get6 : goal.returns-in_ok-push-in-Get6
returns-in_ok-push-in-Get6 c =
    rw (at_line c.args.script.now c.args.i _ _ (Get6 c.in-Get6.line c.in-Get6.addr c.in-Get6.flow c.in-Get6.at) c.lines.ensures.value c.get.ensures c.in-Get6.is)
    (rw (c.in_ok-push-in-Get6.ensures.items, append_assoc) refl)
