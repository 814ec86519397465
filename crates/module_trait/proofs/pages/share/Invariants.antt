use Rattle.std.proofs.Common.{◌≡◌, take}
use Rattle.module_trait.specs.Nodes.{contents}
use Rattle.module_trait.proofs.pages.share.Given as goal

abbrev pub invariant-loop-page : goal.invariant-loop-page
invariant-loop-page g l = contents l.shared.items ≡ contents (take l.page-index l.pages.items)
