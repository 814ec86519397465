use Rattle.counted_map.proofs.CountMapLemmas.{IsCounts-linked, linked_at}
use Rattle.counted_map.proofs.laws.law_link_raises.Goals as goal

pub returns : goal.returns
returns g c = λ exact m k q is.
    (IsCounts-linked g.K.Ord.cmp g.met.K.Ord.total m k is, linked_at g.K.Ord.cmp g.met.K.Ord.total exact m k q)
