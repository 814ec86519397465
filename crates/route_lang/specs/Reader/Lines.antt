-- How the reader goes over the lines: what each puts behind the plans and the lines so far. No public clause cites this;
-- that it agrees with the definition is proved.
use Rattle.std.specs.Prelude.{◌≡◌, ◌≤◌, ℕ, ◌+◌, true, false, nat_lt, List, [], ◌∷◌, ◌++◌, length, Some, None, Result, Ok, Err, if◌then◌else◌}
use Rattle.rib_store.specs.declared.command.Command.{Command}
use Rattle.rib_store.specs.declared.command.Command.TheVariants as command
use Rattle.rib_store.specs.Plan.{no_plan, plan_under, plan_with}
use Rattle.route_lang.specs.Text.{lines_of}
use Rattle.route_lang.specs.Reader.Asked.{asked_of, in_time}
use Rattle.route_lang.specs.Script.{Reading, is_quiet, command_line, input_too_large}
use Rattle.route_lang.specs.declared.asked.Asked.{Asked}
use Rattle.route_lang.specs.declared.asked.Asked.TheVariants.{Nothing, Inet, Inet6, Both, Get4, Get6, Profile}
use Rattle.route_lang.specs.declared.asked.Shared.{Shared}
use Rattle.route_lang.specs.declared.asked.Shared.TheVariants as shared
use Rattle.route_lang.specs.declared.line.Line.{Line}
use Rattle.route_lang.specs.declared.line.Line.TheVariants as line
use Rattle.route_lang.specs.declared.fault.LineFault.{LineFault}
use Rattle.route_lang.specs.declared.fault.Reason.{Reason}
use Rattle.route_lang.specs.declared.script.Plans.{Plans}
use Rattle.route_lang.specs.Limits.{input_limit}

-- the command of a family that both families get
abbrev pub shared_command : {w : ℕ} → Shared → Command w
shared_command shared.Flush = command.Flush
shared_command (shared.Tick ms) = command.Tick ms
shared_command shared.Sync = command.Sync

-- the plans with what a line asks for behind them
abbrev pub plans_behind : Plans → Asked → Plans
plans_behind plans Nothing = plans
plans_behind plans (Inet c) = record plans { inet = plan_with plans.inet c; begun = true }
plans_behind plans (Inet6 c) = record plans { inet6 = plan_with plans.inet6 c; begun = true }
plans_behind plans (Both s) = record { inet = plan_with plans.inet (shared_command s); inet6 = plan_with plans.inet6 (shared_command s); begun = true }
plans_behind plans (Get4 addr flow) = record plans { begun = true }
plans_behind plans (Get6 addr flow) = record plans { begun = true }
plans_behind plans (Profile n) = record { inet = plan_under n plans.inet; inet6 = plan_under n plans.inet6; begun = true }

-- what a line puts behind the lines, where these plans stand before it
abbrev pub entries_of : ℕ → Plans → Asked → List Line
entries_of at plans Nothing = []
entries_of at plans (Inet c) = command_line (is_quiet c) at (Some (length plans.inet.commands)) None ∷ []
entries_of at plans (Inet6 c) = command_line (is_quiet c) at None (Some (length plans.inet6.commands)) ∷ []
entries_of at plans (Both s) = command_line (is_quiet {w = 32} (shared_command s)) at (Some (length plans.inet.commands)) (Some (length plans.inet6.commands)) ∷ []
entries_of at plans (Get4 addr flow) = line.Get4 at addr flow (length plans.inet.commands) ∷ []
entries_of at plans (Get6 addr flow) = line.Get6 at addr flow (length plans.inet6.commands) ∷ []
entries_of at plans (Profile n) = []

-- ---- lines in turn

-- these lines before those below
abbrev pub with_front : List Line → Result Reading LineFault → Result Reading LineFault
with_front front (Ok below) = Ok (record below { lines = front ++ below.lines })
with_front front (Err fault) = Err fault

-- what the lines below a line are, given what they are behind the plans that it leaves
abbrev pub then_lines : ℕ → Plans → Result Asked Reason → (Plans → Result Reading LineFault) → Result Reading LineFault
then_lines at plans (Err reason) below = Err (record { line = at; reason = reason })
then_lines at plans (Ok asked) below = with_front (entries_of at plans asked) (below (plans_behind plans asked))

-- the lines from number `at` on, behind these plans
abbrev pub lines_from : ℕ → Plans → List (List ℕ) → Result Reading LineFault
lines_from at plans [] = Ok (record { inet = plans.inet; inet6 = plans.inet6; lines = []; profile = plans.inet.profile })
lines_from at plans (text ∷ lines) = then_lines at plans (in_time plans.begun (asked_of at text)) (λ behind. lines_from (at + 1) behind lines)

abbrev pub no_plans : Plans
no_plans = record { inet = no_plan 1; inet6 = no_plan 1; begun = false }

-- the script of these bytes, line by line
abbrev pub script_read : List ℕ → Result Reading LineFault
script_read bytes =
    if nat_lt input_limit (length bytes) then Err input_too_large
    else lines_from 1 no_plans (lines_of bytes)

-- ---- one line of the reading

-- a line is taken in: the reading of it and any lines below goes on behind what was read
abbrev pub TakesLine : ℕ → List ℕ → Plans → List Line → Plans → List Line → Type 0
TakesLine at text plans front more_plans more_front =
    (below : List (List ℕ)) → with_front more_front (lines_from (at + 1) more_plans below) ≡ with_front front (lines_from at plans (text ∷ below))

-- a line is refused, whatever lines are below
abbrev pub RefusesLine : ℕ → List ℕ → Plans → LineFault → Type 0
RefusesLine at text plans fault = (below : List (List ℕ)) → lines_from at plans (text ∷ below) ≡ Err fault

-- no more commands in either plan than this
abbrev pub HasAtMost : ℕ → Plans → Type 0
HasAtMost n plans = (length plans.inet.commands ≤ n) × (length plans.inet6.commands ≤ n)
