use Rattle.std.proofs.Common.{◌≡◌, ◌≤◌, length, take}
use Rattle.module_trait.specs.Nodes.{contents, marked}
use Rattle.module_trait.proofs.PageLemmas.{SameBelow}
use Rattle.module_trait.proofs.pages.pages_of.Given as goal

abbrev pub invariant-loop-page : goal.invariant-loop-page
invariant-loop-page g l = record {
  count : length l.shared.items ≡ l.page;
  same : SameBelow g.row.PAGE (contents l.shared.items) l.slab.slots l.page;
  made : l.made ≡ marked (take l.page l.marks.items);
  few : l.made ≤ l.page;
}
