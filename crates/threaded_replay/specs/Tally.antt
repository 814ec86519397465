-- What a pass has done, and what one lookup of it does.
use Rattle.std.specs.Prelude.{◌≡◌, ℕ, ◌+◌, ◌≤◌, List, [], ◌++◌, Option, option_to_list}
use Rattle.prefix_width.specs.Nexthop.{Hop}
use Rattle.rib_store.specs.Plan.{Planned}
use Rattle.plan_cut.specs.PlanCourse.{last_version, version_before}
use Rattle.plan_cut.specs.VersionTable.{answer_at}
use Rattle.fib_pass.specs.Totals.{hops_hit}
use Rattle.fib_pass.specs.Views.{PassView}

-- a pass's number, how many lookups it has made, the latest version that it has seen, and the nexthops that it has hit, the latest first
pub record Tally : Type 0 where
  pub number : ℕ
  pub lookups : ℕ
  pub seen : ℕ
  pub hops : List Hop

abbrev pub tally_of : {w : ℕ} → Planned w → PassView w → Tally
tally_of plan pass = record { number = pass.seat.number; lookups = pass.lookups; seen = pass.seat.own.seen; hops = hops_hit plan pass }

-- pass w has made no lookup
pub record IsNew (w : ℕ) (tally : Tally) : Type 0 where
  pub number : tally.number ≡ w
  pub lookups : tally.lookups ≡ 0
  pub hops : tally.hops ≡ []

-- a pass that was so answers an address and a flow at a version with a nexthop, and is so then
pub record Answers {w : ℕ} (most : ℕ) (plan : Planned w) (old : Tally) (addr flow version : ℕ) (nexthop : Option Hop) (new : Tally) : Type 0 where
  pub right : nexthop ≡ answer_at most plan version addr flow
  pub last : version ≤ (last_version most plan).number
  pub later : old.seen ≤ version
  pub seen : new.seen ≡ version
  pub lookups : new.lookups ≡ old.lookups + 1
  pub hops : new.hops ≡ option_to_list nexthop ++ old.hops
  pub number : new.number ≡ old.number

-- the same, and the version is no older than the last one made by the first `synced` commands
pub record AnswersSince {w : ℕ} (most : ℕ) (plan : Planned w) (synced : ℕ) (old : Tally) (addr flow version : ℕ) (nexthop : Option Hop) (new : Tally) : Type 0 where
  pub answers : Answers most plan old addr flow version nexthop new
  pub since : version_before most plan synced ≤ version
