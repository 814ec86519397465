-- What every script keeps: its lines, in their order, ask for the commands of its plans, in theirs, and both plans are of
-- its profile.
use Rattle.std.specs.Prelude.{◌≡◌, ℕ, ◌+◌, ◌<◌, ◌≤◌, Bool, true, false, not, List, [], ◌∷◌, length, slice_get, Option, Some, None, IfSome, MatchOption}
use Rattle.rib_store.specs.declared.command.Command.{Command}
use Rattle.rib_store.specs.declared.command.Command.TheVariants as command
use Rattle.rib_store.specs.Plan.{Planned}
use Rattle.rib_store.specs.Profile.{IsProfile}
use Rattle.route_lang.specs.Request.{Shared, command_of}
use Rattle.route_lang.specs.Script.{Reading, is_quiet}
use Rattle.route_lang.specs.declared.line.Line.{Line}
use Rattle.route_lang.specs.declared.line.Line.TheVariants.{Change, Quiet, Get4, Get6}
use Rattle.route_lang.specs.Limits.{lines_limit}

-- ---- numbers

abbrev pub number_in : Line → ℕ
number_in (Change number inet inet6) = number
number_in (Quiet number inet inet6) = number
number_in (Get4 number addr flow before) = number
number_in (Get6 number addr flow before) = number

-- the lines' numbers rise, and the first is above this
abbrev pub Rises : ℕ → List Line → Type 0
Rises below [] = Unit {0}
Rises below (line ∷ lines) = (below < number_in line) × Rises (number_in line) lines

-- ---- positions

-- how many commands of each plan come before a line
pub record Positions : Type 0 where
  pub inet : ℕ
  pub inet6 : ℕ

-- before the first line
abbrev pub no_commands : Positions
no_commands = record { inet = 0; inet6 = 0 }

-- one more behind a line that has a position
abbrev pub behind : ℕ → Option ℕ → ℕ
behind at None = at
behind at (Some pos) = at + 1

abbrev pub positions_behind : Positions → Line → Positions
positions_behind at (Change number inet inet6) = record { inet = behind at.inet inet; inet6 = behind at.inet6 inet6 }
positions_behind at (Quiet number inet inet6) = record { inet = behind at.inet inet; inet6 = behind at.inet6 inet6 }
positions_behind at (Get4 number addr flow before) = at
positions_behind at (Get6 number addr flow before) = at

-- ---- a line and its commands

-- a command that asks nothing of the table and is one family's alone
abbrev pub is_algo : {w : ℕ} → Command w → Bool
is_algo (command.Algo setting) = true
is_algo c = false

-- the command of a position is there, and passes a test
abbrev pub HasAt : {w : ℕ} → Planned w → ℕ → (Command w → Bool) → Type 0
HasAt plan pos test = MatchOption (slice_get plan.commands pos) ⊥ (λ c. test c ≡ true)

-- the commands of two positions are one that both families get: quiet, or a flush
pub record IsShared (plan : Planned 32) (plan6 : Planned 128) (pos pos6 : ℕ) (quiet : Bool) : Type 0 where
  pub shared : Shared
  pub kind : is_quiet {w = 32} (command_of shared) ≡ quiet
  pub inet : slice_get plan.commands pos ≡ Some (command_of shared)
  pub inet6 : slice_get plan6.commands pos6 ≡ Some (command_of shared)

-- a line behind so many commands of the plans has their next ones, of its kind; a get stands where it says
abbrev pub FitsLine : Planned 32 → Planned 128 → Positions → Line → Type 0
FitsLine plan plan6 at (Change number (Some pos) None) = (pos ≡ at.inet) × HasAt plan pos (λ c. not (is_quiet c))
FitsLine plan plan6 at (Change number None (Some pos)) = (pos ≡ at.inet6) × HasAt plan6 pos (λ c. not (is_quiet c))
FitsLine plan plan6 at (Change number (Some pos) (Some pos6)) = (pos ≡ at.inet) × (pos6 ≡ at.inet6) × IsShared plan plan6 pos pos6 false
FitsLine plan plan6 at (Change number None None) = ⊥
FitsLine plan plan6 at (Quiet number (Some pos) None) = (pos ≡ at.inet) × HasAt plan pos is_algo
FitsLine plan plan6 at (Quiet number None (Some pos)) = (pos ≡ at.inet6) × HasAt plan6 pos is_algo
FitsLine plan plan6 at (Quiet number (Some pos) (Some pos6)) = (pos ≡ at.inet) × (pos6 ≡ at.inet6) × IsShared plan plan6 pos pos6 true
FitsLine plan plan6 at (Quiet number None None) = ⊥
FitsLine plan plan6 at (Get4 number addr flow before) = before ≡ at.inet
FitsLine plan plan6 at (Get6 number addr flow before) = before ≡ at.inet6

-- the positions of a line are those of commands
abbrev pub HasCommands : Reading → Line → Type 0
HasCommands script (Change number inet inet6) = IfSome inet (λ pos. pos < length script.inet.commands) × IfSome inet6 (λ pos. pos < length script.inet6.commands)
HasCommands script (Quiet number inet inet6) = IfSome inet (λ pos. pos < length script.inet.commands) × IfSome inet6 (λ pos. pos < length script.inet6.commands)
HasCommands script (Get4 number addr flow before) = Unit {0}
HasCommands script (Get6 number addr flow before) = Unit {0}

-- the lines in turn have all commands that are left
abbrev pub Fits : Planned 32 → Planned 128 → Positions → List Line → Type 0
Fits plan plan6 at [] = (at.inet ≡ length plan.commands) × (at.inet6 ≡ length plan6.commands)
Fits plan plan6 at (line ∷ lines) = FitsLine plan plan6 at line × Fits plan plan6 (positions_behind at line) lines

-- what every script keeps
pub record IsScript (script : Reading) : Type 0 where
  pub few : length script.lines ≤ lines_limit
  pub rises : Rises 0 script.lines
  pub fits : Fits script.inet script.inet6 no_commands script.lines
  pub profile : IsProfile script.profile
  pub inet : script.inet.profile ≡ script.profile
  pub inet6 : script.inet6.profile ≡ script.profile
