-- The best row so far, joined with the longest of the rows that are left, is the longest of all.
use Rattle.std.proofs.Common.{◌≡◌, ◌+◌, drop}
use Rattle.prefix_width.specs.Longest.{longest, longer}
use Rattle.module_trait.proofs.scan.ScanTableModule.find.Given as goal

abbrev pub invariant-loop-i : goal.invariant-loop-i
invariant-loop-i g l = record {
  best : longer l.best (longest g.row.W (drop l.i l.self.rows) l.addr) ≡ longest g.row.W l.self.rows l.addr;
  cost : l.steps ≡ l.fn.steps + l.i;
}
