-- What all workers' answers are together.
use Rattle.std.specs.Prelude.{◌≡◌, ℕ, ◌%◌, ◌<◌, ◌≤◌, List, length, reverse, All, slice_index_or, Option, Some, None, slice_get}
use Rattle.std.specs.List.{filter_map}
use Rattle.prefix_width.specs.Nexthop.{Hop}
use Rattle.atomic_table.specs.Seated.{TableId}
use Rattle.rib_store.specs.Plan.{Planned}
use Rattle.route_lang.specs.Script.{Reading}
use Rattle.fib_pass.specs.Views.{PassView}
use Rattle.threaded_replay.specs.declared.got.Got.{Got}
use Rattle.threaded_replay.specs.Legal.{Family, Get, IsUsedFor, turns_from}
use Rattle.threaded_replay.specs.Serving.{IsRight, got_at, nexthop_in}
use Rattle.threaded_replay.specs.Tally.{Tally, tally_of}

abbrev pub version_of : Option Got → ℕ
version_of None = 0
version_of (Some got) = got.version

-- the versions of answers, by their numbers
abbrev pub version_in : List Got → ℕ → ℕ
version_in gots j = version_of (slice_get gots j)

-- the gets are answered so, each rightly
pub record AreRight (most : ℕ) (script : Reading) (gets : List Get) (gots : List Got) : Type 0 where
  pub count : length gots ≡ length gets
  pub each : (j : ℕ) (get : Get) (got : Got) → slice_get gets j ≡ Some get → slice_get gots j ≡ Some got → IsRight most script get got

-- of two gets of one family that one of n workers makes the later one's version is no older
abbrev pub IsRising : ℕ → List Get → (ℕ → ℕ) → Type 0
IsRising n gets version =
    (j k : ℕ) (a b : Get) → slice_get gets j ≡ Some a → slice_get gets k ≡ Some b
    → j < k → a.family ≡ b.family → j % n ≡ k % n → version j ≤ version k

-- the nexthop in a family that a get, if there is one, gives at a version
abbrev pub given_by : ℕ → Reading → Family → Option Get → ℕ → Option Hop
given_by most script family None v = None
given_by most script family (Some get) v = nexthop_in family (got_at most script get v)

-- the nexthop in a family that get j gives at its version
abbrev pub given_at : ℕ → Reading → List Get → (ℕ → ℕ) → Family → ℕ → Option Hop
given_at most script gets version family j = given_by most script family (slice_get gets j) (version j)

-- pass w of n has made the family's gets of worker w, answered at these versions
pub record HasMade (most n : ℕ) (script : Reading) (gets : List Get) (version : ℕ → ℕ) (family : Family) (w : ℕ) (tally : Tally) : Type 0 where
  pub number : tally.number ≡ w
  pub used : IsUsedFor (turns_from 0 n w family gets) version tally.lookups tally.seen
  pub hops : tally.hops ≡ reverse (filter_map (given_at most script gets version family) (turns_from 0 n w family gets))

-- the n passes of a family, of this table and plan, have made the gets of their workers
pub record AreMade {w : ℕ} (most n : ℕ) (script : Reading) (gets : List Get) (version : ℕ → ℕ) (family : Family) (table : TableId) (plan : Planned w) (passes : List (PassView w)) : Type 0 where
  pub count : length passes ≡ n
  pub tied : All (λ pass. (pass.seat.table ≡ table) × (pass.seat.key ≡ plan)) passes
  pub made : (i : ℕ) (d : PassView w) → i < n → HasMade most n script gets version family i (tally_of plan (slice_index_or passes i d))
