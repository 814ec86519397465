use Rattle.std.proofs.Common.{refl}
use Rattle.prefix_width.proofs.AgreeLemmas.{leading_above, leading_shared}
use Rattle.prefix_width.proofs.prefix.shared_bits.Goals as goal

pub overflow_sub-result-2 : goal.overflow_sub-result-2
overflow_sub-result-2 g c = (leading_above g.row.W c.args.here c.args.there _ c.requires.most c.requires.here c.requires.there refl).0

pub returns : goal.returns
returns g c = λ n inside. leading_shared g.row.W c.args.here c.args.there _ n c.requires.most c.requires.here c.requires.there refl inside
