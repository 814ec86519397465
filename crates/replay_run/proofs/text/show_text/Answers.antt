use Rattle.std.proofs.Common.{length, ap, arith}
use Rattle.replay_run.proofs.ShowLemmas.{shown_on}
use Rattle.replay_run.proofs.text.show_text.Goals as goal

pub loop-i-preserved : goal.loop-i-preserved
loop-i-preserved c =
    shown_on c.args.script.now c.loop-i.i c.loop-i.out.items c.write_line.new.out.items _ (omega (arith, c.loop-i-test.true, c.len-i-end.ensures, ap length c.lines.ensures.value)) c.in_ok-write_line.ensures.ok c.loop-i.invariant
