use Rattle.std.proofs.Common.{subst, sym, List, ℕ, length, ◌<◌}
use Rattle.counted_map.proofs.CountMapLemmas.{insert_ok}
use Rattle.counted_map.proofs.map.CountedMap.insert.Goals as goal

pub invariant_of-self-2 : goal.invariant_of-self-2
invariant_of-self-2 g c =
    insert_ok g.K.Ord.cmp g.met.K.Ord.total _ _ _ c.in_ok-insert.ensures.entries c.self.invariant.0
    (subst (λ (m : List (g.row.K.Denot × ℕ)). length m < 4294967295) (sym c.self.view_is) c.requires.room)
