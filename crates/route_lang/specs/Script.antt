-- A script: the plans of both families and the lines that speak of them, or the first faulty line and the reason against it.
use Rattle.std.specs.Prelude.{◌≡◌, ℕ, Bool, true, false, nat_lt, List, [], ◌∷◌, ◌++◌, length, map, slice_get, Option, Some, None, option_map, Result, Ok, Err, if◌then◌else◌}
use Rattle.std.specs.List.{cons_option, enumerate_from, filter_map, flat_map}
use Rattle.std.specs.Result.{result_err, result_map_both, result_ok, result_transpose}
use Rattle.rib_store.specs.declared.command.Command.{Command}
use Rattle.rib_store.specs.declared.command.Command.TheVariants as command
use Rattle.rib_store.specs.Plan.{Planned}
use Rattle.route_lang.specs.Limits.{input_limit}
use Rattle.route_lang.specs.Request.{Request, OfInet, OfInet6, OfBoth, LookUp, LookUp6, OfProfile, command_of}
use Rattle.route_lang.specs.Grammar.{asked_for, unless_faulty}
use Rattle.route_lang.specs.Text.{lines_of}
use Rattle.route_lang.specs.declared.line.Line.{Line}
use Rattle.route_lang.specs.declared.line.Line.TheVariants as line
use Rattle.route_lang.specs.declared.fault.LineFault.{LineFault}
use Rattle.route_lang.specs.declared.fault.Reason.{Reason}
use Rattle.route_lang.specs.declared.fault.Reason.TheVariants.{TooLarge, NotFirst}
use Rattle.route_lang.specs.declared.fault.ScriptError.{ScriptError}
use Rattle.route_lang.specs.declared.fault.ScriptError.TheVariants as script_error

-- what a script is seen as: the plan of each family, the lines in their order, and the profile, which both plans have
pub record Reading : Type 0 where
  pub inet : Planned 32
  pub inet6 : Planned 128
  pub lines : List Line
  pub profile : ℕ

-- the profile of lines with these numbers and requests: what the first sets, else 1
abbrev pub profile_of : List (ℕ × Request) → ℕ
profile_of ((number, OfProfile profile) ∷ later) = profile
profile_of asked = 1

-- the commands that a request has for a family
abbrev pub inet_commands : Request → List (Command 32)
inet_commands (OfInet c) = c ∷ []
inet_commands (OfBoth s) = command_of s ∷ []
inet_commands request = []

abbrev pub inet6_commands : Request → List (Command 128)
inet6_commands (OfInet6 c) = c ∷ []
inet6_commands (OfBoth s) = command_of s ∷ []
inet6_commands request = []

-- a family's plan is what lines with these numbers and requests ask of it, in order
abbrev pub inet_plan : List (ℕ × Request) → Planned 32
inet_plan asked = record { profile = profile_of asked; commands = flat_map (λ here. inet_commands here.1) asked }

abbrev pub inet6_plan : List (ℕ × Request) → Planned 128
inet6_plan asked = record { profile = profile_of asked; commands = flat_map (λ here. inet6_commands here.1) asked }

-- a command that asks nothing of the table
abbrev pub is_quiet : {w : ℕ} → Command w → Bool
is_quiet (command.Tick ms) = true
is_quiet command.Sync = true
is_quiet (command.Algo setting) = true
is_quiet c = false

-- the line of a command that stands at these positions of the plans
abbrev pub command_line : Bool → ℕ → Option ℕ → Option ℕ → Line
command_line quiet number inet inet6 = if quiet then line.Quiet number inet inet6 else line.Change number inet inet6

-- the line of a number and a request, where so many commands of each family come before it; a profile has none
abbrev pub line_at : ℕ → ℕ → ℕ → Request → Option Line
line_at before before6 number (OfInet c) = Some (command_line (is_quiet c) number (Some before) None)
line_at before before6 number (OfInet6 c) = Some (command_line (is_quiet c) number None (Some before6))
line_at before before6 number (OfBoth s) = Some (command_line (is_quiet {w = 32} (command_of s)) number (Some before) (Some before6))
line_at before before6 number (LookUp addr flow) = Some (line.Get4 number addr flow before)
line_at before before6 number (LookUp6 addr flow) = Some (line.Get6 number addr flow before6)
line_at before before6 number (OfProfile profile) = None

-- the line behind these: its positions are the numbers of each family's commands in the earlier lines
abbrev pub line_behind : List (ℕ × Request) → ℕ × Request → Option Line
line_behind earlier here = line_at (length (inet_plan earlier).commands) (length (inet6_plan earlier).commands) here.0 here.1

-- the lines of a list that comes behind these
abbrev pub lines_behind : List (ℕ × Request) → List (ℕ × Request) → List Line
lines_behind earlier [] = []
lines_behind earlier (here ∷ later) = cons_option (line_behind earlier here) (lines_behind (earlier ++ here ∷ []) later)

-- the script that lines with these numbers and requests make
abbrev pub made_of : List (ℕ × Request) → Reading
made_of asked = record { inet = inet_plan asked; inet6 = inet6_plan asked; lines = lines_behind [] asked; profile = profile_of asked }

-- what a line with its number asks for, or its fault; nothing where it is blank or a comment
abbrev pub answer_of : ℕ × List ℕ → Option (Result (ℕ × Request) LineFault)
answer_of here = result_transpose (result_map_both (option_map (λ request. (here.0, request))) (λ reason. record { line = here.0; reason = reason }) (asked_for here.0 here.1))

-- behind a line that is neither blank nor a comment it is too late for a profile
abbrev pub unless_late : Result (ℕ × Request) LineFault → Result (ℕ × Request) LineFault
unless_late (Ok (number, OfProfile profile)) = Err (record { line = number; reason = NotFirst })
unless_late answer = answer

-- the answers of lines in their order
abbrev pub in_turn : List (Result (ℕ × Request) LineFault) → List (Result (ℕ × Request) LineFault)
in_turn [] = []
in_turn (first ∷ later) = first ∷ map unless_late later

-- the script of lines with these numbers: the fault of the first that is faulty, else what all ask for
abbrev pub script_from : List (ℕ × List ℕ) → Result Reading LineFault
script_from lines =
    let answers = in_turn (filter_map answer_of lines) in
    unless_faulty (slice_get (filter_map result_err answers) 0) (Ok (made_of (filter_map result_ok answers)))

-- the fault of bytes that are too many
abbrev pub input_too_large : LineFault
input_too_large = record { line = 0; reason = TooLarge }

-- the script of these bytes, whose lines are numbered from 1, or its first line that is refused
abbrev pub script_of : List ℕ → Result Reading LineFault
script_of bytes =
    if nat_lt input_limit (length bytes) then Err input_too_large
    else script_from (enumerate_from 1 (lines_of bytes))

-- what a reader answers is what the definition says, unless memory is wanting
abbrev pub GivesScript : Result Reading ScriptError → Result Reading LineFault → Type 0
GivesScript (Ok script) reading = reading ≡ Ok script
GivesScript (Err (script_error.Fault fault)) reading = reading ≡ Err fault
GivesScript (Err script_error.OutOfMemory) reading = Unit {0}
