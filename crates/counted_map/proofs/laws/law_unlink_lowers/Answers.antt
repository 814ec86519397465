use Rattle.counted_map.proofs.CountMapLemmas.{IsCounts-unlinked, unlinked_at}
use Rattle.counted_map.proofs.laws.law_unlink_lowers.Goals as goal

pub returns : goal.returns
returns g c = λ exact m k q is some.
    (IsCounts-unlinked g.K.Ord.cmp g.met.K.Ord.total m k is some, unlinked_at g.K.Ord.cmp g.met.K.Ord.total exact m k q is some)
