use Rattle.std.proofs.Common.{◌∙◌, ◌+◌, ap, arith, drop}
use Rattle.prefix_width.specs.Longest.{longer, longest}
use Rattle.module_trait.proofs.MatchLemmas.{best_goes_on}
use Rattle.module_trait.proofs.scan.ScanTableModule.find.Goals as goal

pub loop-i-preserved : goal.loop-i-preserved
loop-i-preserved g c = record {
  best = ap (λ best. longer best (longest g.row.W (drop (c.loop-i.i + 1) c.args.self.now.rows) c.args.addr.now)) c.longer_row-best.ensures
      ∙ best_goes_on g.row.W c.args.self.now.rows c.loop-i.i c.at.result.now c.args.addr.now c.loop-i.best c.at.ensures.value c.loop-i.invariant.best;
  cost = omega arith;
}
