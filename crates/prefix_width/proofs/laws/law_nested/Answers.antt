use Rattle.prefix_width.proofs.PrefixLemmas.{prefixes_nest}
use Rattle.prefix_width.proofs.laws.law_nested.Goals as goal

pub returns : goal.returns
returns c = prefixes_nest
