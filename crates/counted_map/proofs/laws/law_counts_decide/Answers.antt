use Rattle.counted_map.proofs.CountMapLemmas.{same_counts}
use Rattle.counted_map.proofs.laws.law_counts_decide.Goals as goal

pub returns : goal.returns
returns g c = λ exact m n is js h. same_counts g.K.Ord.cmp g.met.K.Ord.total exact m n is js h
