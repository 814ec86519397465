-- A path: a nexthop and its weight among the paths of a route.
use Rattle.std.specs.Prelude.{◌≡◌, ℕ, ◌≤◌}
use Rattle.prefix_width.specs.declared.nexthop.NhKind.{NhKind}
use Rattle.prefix_width.specs.Nexthop.{Hop, Drops}

-- what a path is seen as
pub record WeightedHop : Type 0 where
  pub nexthop : Hop
  pub weight : ℕ

-- the weights that a path of a kind may have: one that drops packets has no share to give
abbrev pub IsWeight : NhKind → ℕ → Type 0
IsWeight kind weight = (1 ≤ weight) × (weight ≤ 16777215) × (Drops kind → weight ≡ 1)
