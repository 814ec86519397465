-- What every script keeps gives what its gets have.
use Rattle.std.proofs.Common.{ap, arith, length, List, sym, subst}
use Rattle.threaded_replay.specs.Asked.{AreWithin}
use Rattle.threaded_replay.specs.Legal.{Get}
use Rattle.threaded_replay.proofs.AskLemmas.{all_taken, each_within, few_gets}
use Rattle.threaded_replay.proofs.ask.asks_of.Goals as goal

pub returns-clause-few : goal.returns-clause-few
returns-clause-few c =
    let lines = ap length c.lines.ensures.value in
    let all = all_taken c.args.script.now c.loop-i.asks.items _ c.loop-i.i (omega (arith, lines, c.len-i-end.ensures, c.loop-i-test.false)) c.loop-i.invariant in
    omega (arith, ap length all, few_gets c.args.script.now c.lines.ensures.facts)

pub returns-clause-within : goal.returns-clause-within
returns-clause-within c =
    let lines = ap length c.lines.ensures.value in
    let all = all_taken c.args.script.now c.loop-i.asks.items _ c.loop-i.i (omega (arith, lines, c.len-i-end.ensures, c.loop-i-test.false)) c.loop-i.invariant in
    subst (λ (gets : List Get). AreWithin c.args.script.now gets) (sym all) (each_within c.args.script.now c.lines.ensures.facts)
