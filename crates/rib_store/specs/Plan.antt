-- A plan: commands in their order, and the nexthops that it names, numbered by first appearance.
use Rattle.std.specs.Prelude.{◌≡◌, ◌≢◌, ℕ, ◌≤◌, Bool, true, false, not, IsTrue, List, [], ◌∷◌, ◌++◌, Option, Some, None, is_some, length, take, filter, All, if◌then◌else◌}
use Rattle.std.specs.List.{filter_map, position_from}
use Rattle.std.specs.Ordering.{is_eq}
use Rattle.std.specs.Map.{lookup}
use Rattle.std.specs.BTreeMap.{is_at}
use Rattle.prefix_width.specs.Nexthop.{Hop}
use Rattle.prefix_width.specs.Order.{hop_cmp}
use Rattle.prefix_width.specs.declared.module.Kind.TheVariants.{Dxr}
use Rattle.prefix_width.specs.declared.module.Setting.TheVariants.{Fixed}
use Rattle.rib_store.specs.declared.command.Command.{Command}
use Rattle.rib_store.specs.declared.command.Command.TheVariants.{Add, Change, Algo}
use Rattle.rib_store.specs.Limits.{plan_max}
use Rattle.rib_store.specs.Profile.{IsProfile}
use Rattle.rib_store.specs.Weights.{IsWeighted}

-- what a plan is seen as
pub record Planned (w : ℕ) : Type 0 where
  pub profile : ℕ
  pub commands : List (Command w)

-- the empty plan of a profile
abbrev pub no_plan : {w : _} → ℕ → Planned w
no_plan profile = record { profile = profile; commands = [] }

-- the plan under another profile
abbrev pub plan_under : {w : _} → ℕ → Planned w → Planned w
plan_under profile plan = record plan { profile = profile }

-- the plan of the first c commands
abbrev pub plan_until : {w : _} → ℕ → Planned w → Planned w
plan_until c plan = record plan { commands = take c plan.commands }

-- the plan with one command more behind the others
abbrev pub plan_with : {w : _} → Planned w → Command w → Planned w
plan_with plan command = record plan { commands = plan.commands ++ command ∷ [] }

-- the nexthop that an `Add` or a `Change` names
abbrev pub named_by : {w : _} → Command w → Option Hop
named_by (Add prefix path) = Some path.nexthop
named_by (Change prefix path) = Some path.nexthop
named_by command = None

-- the nexthops that the commands name, in their order
abbrev pub named : {w : _} → Planned w → List Hop
named plan = filter_map named_by plan.commands

-- whether the second nexthop is not the same as the first
abbrev pub is_other : Hop → Hop → Bool
is_other h k = not (is_eq (hop_cmp h k))

-- each nexthop once, by first appearance
abbrev pub firsts : List Hop → List Hop
firsts [] = []
firsts (h ∷ hs) = h ∷ filter (is_other h) (firsts hs)

-- the place of a nexthop in a list, counted from 1
abbrev pub place_in : List Hop → Hop → Option ℕ
place_in hops h = position_from (λ k. is_eq (hop_cmp h k)) 1 hops

-- the number of a nexthop: its place among those that the plan names
abbrev pub number_of : {w : _} → Planned w → Hop → Option ℕ
number_of plan h = place_in (firsts (named plan)) h

-- the list with the nexthop, if there is one, behind it where it is not there yet
abbrev pub with_first : List Hop → Option Hop → List Hop
with_first hops None = hops
with_first hops (Some h) = if is_some (place_in hops h) then hops else hops ++ h ∷ []

-- whether the command sets the module dxr
abbrev pub sets_dxr : {w : _} → Command w → Bool
sets_dxr (Algo (Fixed Dxr)) = true
sets_dxr command = false

-- a command that sets dxr, which is for 32 bits alone, at another width
abbrev pub IsWrongModule : {w : ℕ} → Command w → Type 0
IsWrongModule {w} command = IsTrue (sets_dxr command) × (w ≢ 32)

-- the map sends each nexthop to its place in the list
abbrev pub IsNumbering : List Hop → List (Hop × ℕ) → Type 0
IsNumbering hops numbers = (h : Hop) → lookup (is_at (hop_cmp h)) numbers ≡ place_in hops h

-- a plan, the nexthops that its commands name, and the map of their numbers
pub record IsPlan {w : ℕ} (plan : Planned w) (hops : List Hop) (numbers : List (Hop × ℕ)) : Type 0 where
  pub profile : IsProfile plan.profile
  pub most : length plan.commands ≤ plan_max
  pub modules : All (λ command. ¬ (IsWrongModule command)) plan.commands
  pub weights : All IsWeighted plan.commands
  pub order : hops ≡ firsts (named plan)
  pub numbering : IsNumbering hops numbers
