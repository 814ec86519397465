use Rattle.std.proofs.Common.{◌≡◌, length}
use Rattle.module_trait.specs.Nodes.{IsKept, contents, marked}
use Rattle.module_trait.proofs.pages.cover.Given as goal

abbrev pub invariant-loop-page : goal.invariant-loop-page
invariant-loop-page g l = record {
  kept : IsKept g.row.PAGE l.slab.slots (contents l.pages.items) l.marks.items;
  count : length l.pages.items ≡ l.page;
  marked : marked l.marks.items ≡ marked l.fn.marks.items;
}
