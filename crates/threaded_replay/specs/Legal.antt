-- Legal versions: at which versions the gets of a script may be answered where n workers make them, get j being worker
-- j mod n's, while one control publishes the versions of both families; and what the workers' passes have done then.
-- Tables have room for so many live targets.
use Rattle.std.specs.Prelude.{◌≡◌, ◌==◌, ◌&&◌, ℕ, suc, ◌+◌, ◌%◌, ◌<◌, ◌≤◌, Bool, true, false, List, [], ◌∷◌, ◌++◌, length, Option, Some, None, slice_get, if◌then◌else◌}
use Rattle.rib_store.specs.declared.command.Command.{Command}
use Rattle.rib_store.specs.declared.command.Command.TheVariants.{Sync}
use Rattle.rib_store.specs.Plan.{Planned}
use Rattle.plan_cut.specs.PlanCourse.{last_version, version_before}
use Rattle.route_lang.specs.declared.line.Line.{Line}
use Rattle.route_lang.specs.declared.line.Line.TheVariants.{Change, Quiet, Get4, Get6}
use Rattle.route_lang.specs.Script.{Reading}
use Rattle.route_lang.specs.Fits.{Positions, no_commands}
use Rattle.fib_pass.specs.declared.totals.PassEnd.{PassEnd}

-- ---- the gets of a script

pub data Family : Type 0 where
  Inet : Family
  Inet6 : Family

-- a get: its family, what it looks up, its line, how many commands of its family come before it, and how many of them up to
-- and with the last sync line before it, 0 without one
pub record Get : Type 0 where
  pub family : Family
  pub addr : ℕ
  pub flow : ℕ
  pub line : ℕ
  pub at : ℕ
  pub synced : ℕ

abbrev pub is_sync : {w : ℕ} → Option (Command w) → Bool
is_sync (Some Sync) = true
is_sync command = false

-- how many commands of a plan come up to and with the last sync line, where a line with this position in the plan, if it has
-- one, comes next
abbrev pub synced_behind : {w : ℕ} → Planned w → ℕ → Option ℕ → ℕ
synced_behind plan synced None = synced
synced_behind plan synced (Some pos) = if is_sync (slice_get plan.commands pos) then pos + 1 else synced

-- the gets of these lines, where so many commands come up to and with the last sync line before them
abbrev pub gets_from : Reading → Positions → List Line → List Get
gets_from script synced [] = []
gets_from script synced (Change line inet inet6 ∷ lines) = gets_from script synced lines
gets_from script synced (Quiet line inet inet6 ∷ lines) =
    gets_from script
    (record { inet = synced_behind script.inet synced.inet inet; inet6 = synced_behind script.inet6 synced.inet6 inet6 })
    lines
gets_from script synced (Get4 line addr flow at ∷ lines) =
    record { family = Inet; addr = addr; flow = flow; line = line; at = at; synced = synced.inet } ∷ gets_from script synced lines
gets_from script synced (Get6 line addr flow at ∷ lines) =
    record { family = Inet6; addr = addr; flow = flow; line = line; at = at; synced = synced.inet6 } ∷ gets_from script synced lines

-- the gets of a script in their order, which are numbered from 0
abbrev pub gets_of : Reading → List Get
gets_of script = gets_from script no_commands script.lines

-- ---- versions

-- one of two, by the family
abbrev pub by_family : {X : Type 0} → Family → X → X → X
by_family Inet x y = x
by_family Inet6 x y = y

-- the greatest number of a version of the family that is 0 or was made by one of its first n commands
abbrev pub before : ℕ → Reading → Family → ℕ → ℕ
before most script family n = by_family family (version_before most script.inet n) (version_before most script.inet6 n)

-- the number of the family's last version, its plan's end included
abbrev pub last : ℕ → Reading → Family → ℕ
last most script family = by_family family (last_version most script.inet).number (last_version most script.inet6).number

-- since: the oldest version that a get may be answered at, the last one made up to and with the last sync line before it
abbrev pub since : ℕ → Reading → Get → ℕ
since most script get = before most script get.family get.synced

-- the gets are answered at these versions, given by the gets' numbers: none is older than `since` or newer than its family's
-- last, and of two gets of one family that one worker makes the later one's is no older
pub record IsLegal (most n : ℕ) (script : Reading) (version : ℕ → ℕ) : Type 0 where
  pub since : (j : ℕ) (get : Get) → slice_get (gets_of script) j ≡ Some get → since most script get ≤ version j
  pub last : (j : ℕ) (get : Get) → slice_get (gets_of script) j ≡ Some get → version j ≤ last most script get.family
  pub rising : (j k : ℕ) (a b : Get) → slice_get (gets_of script) j ≡ Some a → slice_get (gets_of script) k ≡ Some b
      → j < k → a.family ≡ b.family → j % n ≡ k % n → version j ≤ version k

-- ---- what passes did

abbrev pub is_in : Family → Get → Bool
is_in family get = by_family family (by_family get.family true false) (by_family get.family false true)

-- the numbers of those among these gets that are of the family and worker w's of n, where they are numbered from j
abbrev pub turns_from : ℕ → ℕ → ℕ → Family → List Get → List ℕ
turns_from j n w family [] = []
turns_from j n w family (get ∷ gets) =
    if is_in family get && (j % n == w) then j ∷ turns_from (suc j) n w family gets
    else turns_from (suc j) n w family gets

-- the numbers of the gets of the family that worker w of n makes
abbrev pub turns : ℕ → ℕ → Family → Reading → List ℕ
turns n w family script = turns_from 0 n w family (gets_of script)

-- a pass's lookups, and the version that it has seen last, are those of the gets of these numbers, answered at these versions:
-- as many lookups as gets, and the version of the last one, if there is one
pub record IsUsedFor (numbers : List ℕ) (version : ℕ → ℕ) (made newest : ℕ) : Type 0 where
  pub lookups : made ≡ length numbers
  pub seen : (front : List ℕ) (j : ℕ) → numbers ≡ front ++ j ∷ [] → newest ≡ version j

-- the n passes of a family, each as it was at the end, made the gets of their workers
pub record IsUsed (n : ℕ) (script : Reading) (version : ℕ → ℕ) (family : Family) (ends : List PassEnd) : Type 0 where
  pub passes : length ends ≡ n
  pub each : (w : ℕ) (end : PassEnd) → slice_get ends w ≡ Some end → IsUsedFor (turns n w family script) version end.lookups end.seen
