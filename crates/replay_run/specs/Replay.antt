-- A replay under way: what is done, joined with what the rest of the lines gives, is the whole.
use Rattle.std.specs.Prelude.{◌≡◌, ℕ, ◌+◌, ◌≤◌, List, [], Option, length}
use Rattle.std.specs.List.{flat_map, filter_map}
use Rattle.prefix_width.specs.Nexthop.{Hop}
use Rattle.prefix_width.specs.Order.{hop_cmp}
use Rattle.counted_map.specs.Counts.{Counts, IsCounts, count_of, linked_all}
use Rattle.rib_store.specs.Plan.{Planned}
use Rattle.route_lang.specs.declared.line.Line.{Line}
use Rattle.route_lang.specs.Limits.{lines_limit}
use Rattle.route_lang.specs.Script.{Reading}
use Rattle.route_lang.specs.Fits.{Positions, Fits, behind}
use Rattle.replay_run.specs.Limits.{targets_max}
use Rattle.replay_run.specs.Output.{Part, inet_of, inet6_of, line_text, given, packets_in, paired, serial_versions}
use Rattle.replay_run.specs.declared.family_replay.FamilyReplay.{FamilyReplay}
use Rattle.replay_run.specs.declared.serial_replay.Replay.{Replay}

-- packets are counted, and so many more may be, of any nexthops
pub record HasRoom (packets : Counts Hop) (more : ℕ) : Type 0 where
  pub counts : IsCounts hop_cmp packets
  pub each : (h : Hop) → count_of hop_cmp packets h + more ≤ lines_limit
  pub all : length packets + more ≤ lines_limit

-- lines of a script, each get with the last version that the commands before it have made
abbrev pub in_turn : ℕ → Reading → List Line → List (Line × ℕ)
in_turn live script lines = paired lines (serial_versions live script lines)

-- ---- a family

-- nothing was done: no command of the plan was taken, and no packet was counted
pub record HasBegun {w K live : ℕ} (asked : Planned w) (replay : FamilyReplay w K live) : Type 0 where
  pub plan : replay.family.plan ≡ asked
  pub commands : replay.family.commands ≡ 0
  pub packets : replay.packets ≡ []

-- the command of a line, if it has one in this plan, was taken, and no packet was counted
pub record HasRunLine {w K live : ℕ} (position : Option ℕ) (old new : FamilyReplay w K live) : Type 0 where
  pub plan : new.family.plan ≡ old.family.plan
  pub commands : new.family.commands ≡ behind old.family.commands position
  pub packets : new.packets ≡ old.packets

-- these lines are left to a family
pub record IsPartUnderWay {w K live : ℕ} (part : Part w) (script : Reading) (rest : List Line) (replay : FamilyReplay w K live) : Type 0 where
  pub plan : replay.family.plan ≡ part.plan
  pub packets : linked_all hop_cmp replay.packets (filter_map (given live part) (in_turn live script rest)) ≡ packets_in live part (in_turn live script script.lines)
  pub room : HasRoom replay.packets (length rest)

-- ---- both families

-- how many commands of each plan were run
abbrev pub commands_run : {L : Type 0} → Replay L → Positions
commands_run replay = record { inet = replay.inet.family.commands; inet6 = replay.inet6.family.commands }

-- these lines are left
pub record IsUnderWay {L : Type 0} (script : Reading) (rest : List Line) (replay : Replay L) : Type 0 where
  pub inet : IsPartUnderWay (inet_of script) script rest replay.inet
  pub inet6 : IsPartUnderWay (inet6_of script) script rest replay.inet6
  pub fits : Fits script.inet script.inet6 (commands_run replay) rest

-- what is written for lines of a script
abbrev pub lines_text : Reading → List Line → List ℕ
lines_text script lines = flat_map (line_text targets_max script) (in_turn targets_max script lines)
