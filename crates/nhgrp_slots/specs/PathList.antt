-- The paths of a route, in the order of their nexthops.
use Rattle.std.specs.Prelude.{◌≡◌, ℕ, ◌≤◌, List, [], ◌∷◌, length, Bool, true, false, ◌||◌, ◌&&◌, ◌==◌, not, filter, map, Option, Some, None, if◌then◌else◌}
use Rattle.std.specs.List.{list_any}
use Rattle.std.specs.List.Sorted.{IsStrictlySortedBy}
use Rattle.std.specs.Ordering.{is_lt, is_eq}
use Rattle.prefix_width.specs.Nexthop.{Hop}
use Rattle.prefix_width.specs.Order.{hop_cmp}
use Rattle.prefix_width.specs.Path.{WeightedHop}
use Rattle.prefix_width.specs.declared.nexthop.NhKind.{NhKind}
use Rattle.prefix_width.specs.declared.nexthop.NhKind.TheVariants.{Via, Direct, Blackhole, Reject}

-- whether a kind drops the packet
abbrev pub drops : NhKind → Bool
drops Via = false
drops Direct = false
drops Blackhole = true
drops Reject = true

-- whether a kind goes by a gateway
abbrev pub is_via : NhKind → Bool
is_via Via = true
is_via Direct = false
is_via Blackhole = false
is_via Reject = false

-- what a list of paths is seen as
abbrev pub PathList : Type 0
PathList = List WeightedHop

-- the nexthops of the paths
abbrev pub hops : PathList → List Hop
hops ps = map (λ p. p.nexthop) ps

-- the paths of a route: 1 to 64 with strictly ascending nexthops, where one that drops packets stands alone
pub record IsPathList (ps : PathList) : Type 0 where
  pub some : 1 ≤ length ps
  pub room : length ps ≤ 64
  pub ascend : IsStrictlySortedBy hop_cmp (hops ps)
  pub alone : 2 ≤ length ps → list_any (λ p. drops p.nexthop.kind) ps ≡ false

-- the paths with one more, before the first whose nexthop is greater
abbrev pub put_path : PathList → WeightedHop → PathList
put_path [] p = p ∷ []
put_path (q ∷ qs) p = if is_lt (hop_cmp p.nexthop q.nexthop) then p ∷ q ∷ qs else q ∷ put_path qs p

-- whether a path may not stand beside another that is there: they have one nexthop, or the other drops packets
abbrev pub clashes_with : WeightedHop → WeightedHop → Bool
clashes_with p q = is_eq (hop_cmp q.nexthop p.nexthop) || drops q.nexthop.kind

-- whether a path may not join the others
abbrev pub clashes : PathList → WeightedHop → Bool
clashes ps p = list_any (clashes_with p) ps || drops p.nexthop.kind

-- whether one of the paths has the nexthop
abbrev pub names : Hop → PathList → Bool
names h ps = list_any (λ p. is_eq (hop_cmp h p.nexthop)) ps

-- whether a path goes by this gateway
abbrev pub goes_by : ℕ → WeightedHop → Bool
goes_by g p = is_via p.nexthop.kind && (p.nexthop.gateway == g)

-- whether one of the paths goes by a gateway
abbrev pub has_via : PathList → Bool
has_via ps = list_any (λ p. is_via p.nexthop.kind) ps

-- the paths that do not go by this gateway
abbrev pub left_by : ℕ → PathList → PathList
left_by g ps = filter (λ p. not (goes_by g p)) ps

-- the paths, where there are any
abbrev pub paths_left : PathList → Option (PathList)
paths_left [] = None
paths_left (p ∷ ps) = Some (p ∷ ps)
