use Rattle.std.proofs.Common.{arith, ◌+◌}
use Rattle.counted_map.proofs.CountMapLemmas.{set_ok}
use Rattle.counted_map.proofs.map.CountedMap.increase.Goals as goal

pub invariant_of-self-2 : goal.invariant_of-self-2
invariant_of-self-2 g c =
    set_ok g.K.Ord.cmp g.met.K.Ord.total _ _ _ _ (c.get_mut.follows.holds (c.in-Some.count.now + 1)).0 (omega arith) c.self.invariant.0 c.self.invariant.1
