-- The table of a version of a plan, and what it answers, where a table has room for so many live targets.
use Rattle.std.specs.Prelude.{ℕ, Option, Some, None, slice_get}
use Rattle.prefix_width.specs.Nexthop.{Hop}
use Rattle.rib_store.specs.Answer.{answer}
use Rattle.rib_store.specs.Plan.{Planned}
use Rattle.rib_store.specs.Table.{Table, table_after}
use Rattle.plan_cut.specs.PlanCourse.{versions_of}
use Rattle.plan_cut.specs.Versions.{Version}

-- how many commands a version counts, none where there is no such version
abbrev pub commands_of : Option Version → ℕ
commands_of None = 0
commands_of (Some version) = version.count

-- how many commands were run when the version of a number was made
abbrev pub commands_at : {w : _} → ℕ → Planned w → ℕ → ℕ
commands_at live plan v = commands_of (slice_get (versions_of live plan) v)

-- the table of the version of a number
abbrev pub table_at : {w : _} → ℕ → Planned w → ℕ → Table
table_at live plan v = table_after live plan (commands_at live plan v)

-- the nexthop of a flow that scanning the whole table of a version gives
abbrev pub answer_at : {w : _} → ℕ → Planned w → ℕ → ℕ → ℕ → Option Hop
answer_at {w} live plan v addr flow = answer w (table_at live plan v) addr flow
