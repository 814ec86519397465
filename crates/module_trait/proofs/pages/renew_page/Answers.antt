use Rattle.module_trait.proofs.PageLemmas.{renewed}
use Rattle.module_trait.proofs.pages.renew_page.Goals as goal

pub returns-clause-kept : goal.returns-clause-kept
returns-clause-kept g c = renewed _ _ _ _ c.args.page c.in_ok-made.made c.requires.within c.requires.kept (c.in_ok-made.ensures)
