-- Output: the text of a replay of a script, where each get is answered at a version of its family, and where tables have
-- room for so many live targets.
use Rattle.std.specs.Prelude.{ℕ, zero, suc, ◌+◌, List, [], ◌∷◌, ◌++◌, length, Option, Some, None}
use Rattle.std.specs.List.{flat_map, filter_map}
use Rattle.std.specs.Option.{option_and_then}
use Rattle.prefix_width.specs.Nexthop.{Hop}
use Rattle.counted_map.specs.Counts.{Counts}
use Rattle.rib_store.specs.declared.command.Reply.{Reply}
use Rattle.rib_store.specs.declared.command.Reply.TheVariants.{Flushed}
use Rattle.rib_store.specs.Plan.{Planned}
use Rattle.rib_store.specs.Table.{table_after}
use Rattle.plan_cut.specs.PlanCourse.{version_before, last_version}
use Rattle.plan_cut.specs.VersionTable.{answer_at}
use Rattle.fib_sync.specs.Replies.{reply_at}
use Rattle.route_lang.specs.declared.line.Line.{Line}
use Rattle.route_lang.specs.declared.line.Line.TheVariants.{Change, Quiet, Get4, Get6}
use Rattle.route_lang.specs.Script.{Reading}
use Rattle.replay_run.specs.Line.{numbered, reply_line, get_text, packets_text, fib_text}
use Rattle.replay_run.specs.Packets.{packets_of}

-- ---- one family's part of a script

-- what a get looks up
pub record Get : Type 0 where
  pub addr : ℕ
  pub flow : ℕ

-- one family's part of a script: its plan, and what a line looks up, if it is a get of this family
pub record Part (w : ℕ) : Type 0 where
  pub plan : Planned w
  pub get_of : Line → Option Get

abbrev pub get4_of : Line → Option Get
get4_of (Get4 line addr flow at) = Some (record { addr = addr; flow = flow })
get4_of line = None

abbrev pub get6_of : Line → Option Get
get6_of (Get6 line addr flow at) = Some (record { addr = addr; flow = flow })
get6_of line = None

abbrev pub inet_of : Reading → Part 32
inet_of script = record { plan = script.inet; get_of = get4_of }

abbrev pub inet6_of : Reading → Part 128
inet6_of script = record { plan = script.inet6; get_of = get6_of }

-- ---- versions

-- each line with the version that it is answered at, where the version of each get is given by the get's number, counted
-- from 0; another line takes none
abbrev pub paired : List Line → (ℕ → ℕ) → List (Line × ℕ)
paired [] version = []
paired (Change line inet inet6 ∷ lines) version = (Change line inet inet6, 0) ∷ paired lines version
paired (Quiet line inet inet6 ∷ lines) version = (Quiet line inet inet6, 0) ∷ paired lines version
paired (Get4 line addr flow at ∷ lines) version = (Get4 line addr flow at, version 0) ∷ paired lines (λ j. version (suc j))
paired (Get6 line addr flow at ∷ lines) version = (Get6 line addr flow at, version 0) ∷ paired lines (λ j. version (suc j))

-- the versions of a replay on one thread, by the numbers of the gets: each at the last one that its family's commands
-- before it have made
abbrev pub serial_versions : ℕ → Reading → List Line → ℕ → ℕ
serial_versions live script [] j = 0
serial_versions live script (Change line inet inet6 ∷ lines) j = serial_versions live script lines j
serial_versions live script (Quiet line inet inet6 ∷ lines) j = serial_versions live script lines j
serial_versions live script (Get4 line addr flow at ∷ lines) zero = version_before live script.inet at
serial_versions live script (Get4 line addr flow at ∷ lines) (suc j) = serial_versions live script lines j
serial_versions live script (Get6 line addr flow at ∷ lines) zero = version_before live script.inet6 at
serial_versions live script (Get6 line addr flow at ∷ lines) (suc j) = serial_versions live script lines j

-- ---- one line

-- the reply to the command of a line, if the line has one in this plan
abbrev pub reply_of : {w : ℕ} → ℕ → Planned w → Option ℕ → Option Reply
reply_of live plan None = None
reply_of live plan (Some pos) = reply_at live plan pos

-- the one reply to a line: that of its family or, for a flush of both, the sum of both numbers
abbrev pub one_reply : Option Reply → Option Reply → Option Reply
one_reply reply None = reply
one_reply None (Some reply6) = Some reply6
one_reply (Some (Flushed routes)) (Some (Flushed routes6)) = Some (Flushed (routes + routes6))
one_reply (Some reply) (Some reply6) = None

-- the reply to a line with these positions in the plans
abbrev pub line_reply : ℕ → Reading → Option ℕ → Option ℕ → Option Reply
line_reply live script inet inet6 = one_reply (reply_of live script.inet inet) (reply_of live script.inet6 inet6)

-- what is written for a reply, if there is one
abbrev pub replied : ℕ → Option Reply → List ℕ
replied line None = []
replied line (Some reply) = reply_line line reply

-- what is written for a get that is answered at a version
abbrev pub answered : {w : ℕ} → ℕ → Planned w → ℕ → ℕ → ℕ → ℕ → List ℕ
answered {w} live plan v line addr flow = numbered line (get_text w addr v (answer_at live plan v addr flow))

-- what is written for a line of the script, a get being answered at a version
abbrev pub line_text : ℕ → Reading → Line × ℕ → List ℕ
line_text live script (Change line inet inet6, v) = replied line (line_reply live script inet inet6)
line_text live script (Quiet line inet inet6, v) = []
line_text live script (Get4 line addr flow at, v) = answered live script.inet v line addr flow
line_text live script (Get6 line addr flow at, v) = answered live script.inet6 v line addr flow

-- ---- the whole

-- the nexthop that a line gives at its version, if it is a get of the family
abbrev pub given : {w : ℕ} → ℕ → Part w → Line × ℕ → Option Hop
given live part (line, v) = option_and_then (λ (get : Get). answer_at live part.plan v get.addr get.flow) (part.get_of line)

-- the packets of a family: those of the nexthops that its gets gave
abbrev pub packets_in : {w : ℕ} → ℕ → Part w → List (Line × ℕ) → Counts Hop
packets_in live part lines = packets_of (filter_map (given live part) lines)

-- a line for each nexthop that has some
abbrev pub packets_lines : {w : ℕ} → ℕ → Part w → List (Line × ℕ) → List ℕ
packets_lines {w} live part lines = flat_map (packets_text w) (packets_in live part lines)

-- a family's last version, the plan's end included
abbrev pub plan_text : {w : ℕ} → ℕ → Planned w → List ℕ
plan_text {w} live plan =
    fib_text w (last_version live plan).number (length (table_after live plan (last_version live plan).count))
    (last_version live plan).kind

-- the lines, then the packets of each nexthop, then the last version of each family
abbrev pub text_of : ℕ → Reading → List (Line × ℕ) → List ℕ
text_of live script lines =
    flat_map (line_text live script) lines
    ++ (packets_lines live (inet_of script) lines ++ (packets_lines live (inet6_of script) lines
    ++ (plan_text live script.inet ++ plan_text live script.inet6)))

-- the output of a script whose gets are answered at these versions, where tables have room for so many live targets
abbrev pub output : ℕ → Reading → (ℕ → ℕ) → List ℕ
output live script version = text_of live script (paired script.lines version)

-- the output of a replay on one thread
abbrev pub serial_output : ℕ → Reading → List ℕ
serial_output live script = output live script (serial_versions live script script.lines)
