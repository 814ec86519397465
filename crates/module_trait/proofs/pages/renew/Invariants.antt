use Rattle.std.proofs.Common.{◌≡◌, ◌≤◌, length}
use Rattle.module_trait.specs.Nodes.{IsKept, AreUnmarked, contents, marked}
use Rattle.module_trait.proofs.pages.renew.Given as goal

abbrev pub invariant-loop-page : goal.invariant-loop-page
invariant-loop-page g l = record {
  kept : IsKept g.row.PAGE l.slab.slots (contents l.pages.items) l.marks.items;
  done : AreUnmarked l.marks.items l.page;
  marks : length l.marks.items ≡ l.page-end;
  len : length l.pages.items ≡ length l.fn.pages.items;
  fewer : marked l.marks.items ≤ marked l.fn.marks.items;
}
