-- The packets are those that the gets gave.
use Rattle.std.proofs.Common.{◌≡◌, ◌∙◌, ◌||◌, ◌+◌, Bool, true, false, cond, nat_lt, lt-ltb, List, [], ◌∷◌, ap, arith, zero-add, refl}
use Rattle.std.specs.List.{list_any}
use Rattle.std.specs.BTreeMap.{is_at}
use Rattle.std.specs.Ordering.{is_eq}
use Rattle.prefix_width.specs.Nexthop.{Hop}
use Rattle.prefix_width.specs.Order.{hop_cmp}
use Rattle.prefix_width.proofs.OrderLemmas.{hop_total, hop_exact}
use Rattle.counted_map.specs.Counts.{count_of, times}
use Rattle.counted_map.proofs.CountMapLemmas.{IsCounts-linked_all, linked_all_at, keys_are_distinct}
use Rattle.replay_run.specs.Packets.{packets_of, CountsGiven}
use Rattle.replay_run.proofs.ReplayLemmas.{no_counts}

-- a nexthop was given once or more exactly where it is among those given
given_some : (h : Hop) (hops : List Hop) → nat_lt 0 (times hop_cmp h hops) ≡ list_any (is_at (hop_cmp h)) hops
given_some h [] = refl
given_some h (k ∷ hops) = by_first (is_eq (hop_cmp h k)) (given_some h hops)
  where
    by_first : (here : Bool) → nat_lt 0 (times hop_cmp h hops) ≡ list_any (is_at (hop_cmp h)) hops → nat_lt 0 (cond here 1 0 + times hop_cmp h hops) ≡ (here || list_any (is_at (hop_cmp h)) hops)
    by_first true later = lt-ltb 0 (1 + times hop_cmp h hops) (omega arith)
    by_first false later = ap (nat_lt 0) (zero-add (times hop_cmp h hops)) ∙ later

pub counts_given : CountsGiven
counts_given hops = (
  keys_are_distinct hop_cmp hop_total hop_exact (packets_of hops) hops (IsCounts-linked_all hop_cmp hop_total [] hops no_counts) (λ h. ap (nat_lt 0) (count h) ∙ given_some h hops),
  count,
)
  where
    count : (h : Hop) → count_of hop_cmp (packets_of hops) h ≡ times hop_cmp h hops
    count h = linked_all_at hop_cmp hop_total hop_exact [] hops h ∙ zero-add (times hop_cmp h hops)
