use Rattle.std.proofs.Common.{arith}
use Rattle.dxr_table.proofs.making.chunks_of.Goals as goal

pub loop-chunk-init : goal.loop-chunk-init
loop-chunk-init c = record {
  passed = record {
    within = omega arith;
    below = λ d some at. absurd (omega (arith, some));
    above = λ d at. omega arith;
  };
  made = c.in_ok-chunks.ensures c.args.cells.now;
}
