-- The causes of each status: what it says of the bytes that were read and written.
use Rattle.std.specs.Prelude.{◌≡◌, ◌⊎◌, ℕ, Bool, true, false, Some, ◌≤◌, List, length, Option}
use Rattle.std.specs.Io.KnownBytes.{Appends}
use Rattle.outside_io.specs.Faults.{Rose}
use Rattle.outside_io.specs.Whole.{ReadsAll, ReadsPast, WritesFront}
use Rattle.route_lang.specs.declared.fault.LineFault.{LineFault}
use Rattle.route_lang.specs.declared.fault.Reason.{Reason}
use Rattle.route_lang.specs.declared.fault.Reason.TheVariants as reason
use Rattle.route_lang.specs.Limits.{input_limit}
use Rattle.fib_pass.specs.declared.totals.FibTotals.{FibTotals}
use Rattle.route_cli.specs.Result.{HaveFault, Makes, is_reader}
use Rattle.route_cli.specs.declared.job.Task.{Task}
use Rattle.route_cli.specs.declared.job.Task.TheVariants.{NotTaken, Does, ReplaysBy}
use Rattle.route_cli.specs.declared.status.Status.{Status}
use Rattle.route_cli.specs.declared.status.Status.TheVariants as status

-- ---- what was read

-- the source was read to its end, and these bytes are within the limit
pub record WasRead (left rest : Option (List ℕ)) (bytes : List ℕ) : Type 0 where
  pub whole : ReadsAll left rest bytes
  pub within : length bytes ≤ input_limit

-- these bytes were read if the task reads any, and else nothing was
abbrev pub ReadsIf : Bool → Option (List ℕ) → Option (List ℕ) → List ℕ → Type 0
ReadsIf true left rest bytes = WasRead left rest bytes
ReadsIf false left rest bytes = rest ≡ left

abbrev pub Reads : Task → Option (List ℕ) → Option (List ℕ) → List ℕ → Type 0
Reads task left rest bytes = ReadsIf (is_reader task) left rest bytes

-- ---- each status

-- Ok: the whole text was written
pub record Answered (task : Task) (left rest written now : Option (List ℕ)) (totals : Option FibTotals) : Type 0 where
  pub bytes : List ℕ
  pub read : Reads task left rest bytes
  pub text : List ℕ
  pub made : Makes task bytes text totals
  pub sink : Appends written now text

-- a write fault: a front of the text was written
pub record Interrupted (task : Task) (left rest written now : Option (List ℕ)) : Type 0 where
  pub bytes : List ℕ
  pub read : Reads task left rest bytes
  pub text : List ℕ
  pub totals : Option FibTotals
  pub made : Makes task bytes text totals
  pub sink : WritesFront written now text

-- a refused line: the source was read to its end, and the bytes have this fault
pub record RefusedAt (task : Task) (left rest : Option (List ℕ)) (line : ℕ) (reason : Reason) : Type 0 where
  pub bytes : List ℕ
  pub read : WasRead left rest bytes
  pub fault : HaveFault task bytes (record { line = line; reason = reason })

abbrev pub is_too_large : Reason → Bool
is_too_large reason.TooLarge = true
is_too_large why = false

abbrev pub RefusedBy : Bool → Task → Option (List ℕ) → Option (List ℕ) → ℕ → Reason → Type 0
RefusedBy true task left rest line reason = (line ≡ 0) × ReadsPast input_limit left rest × (is_reader task ≡ true)
RefusedBy false task left rest line reason = RefusedAt task left rest line reason

-- a refused script: line 0 where the bytes are too many, else the line and the reason of the bytes
abbrev pub Refuses : Task → Option (List ℕ) → Option (List ℕ) → ℕ → Reason → Type 0
Refuses task left rest line reason = RefusedBy (is_too_large reason) task left rest line reason

-- ---- completeness

-- a task finds these bytes, which are within the limit, if it reads any
abbrev pub FindsIf : Bool → Option (List ℕ) → List ℕ → Type 0
FindsIf true left bytes = (left ≡ Some bytes) × (length bytes ≤ input_limit)
FindsIf false left bytes = Unit {0}

-- Completeness: bytes without a fault, and counts of faults that don't rise, give Ok or want of memory. Words that are not
-- taken are told as such, unless memory is wanting.
abbrev pub IsComplete : Task → Option (List ℕ) → ℕ → ℕ → ℕ → ℕ → Status → Type 0
IsComplete NotTaken left read_before read_now write_before write_now result =
    (result ≡ status.Usage) ⊎ (result ≡ status.OutOfMemory)
IsComplete task left read_before read_now write_before write_now result =
    (bytes : List ℕ) → FindsIf (is_reader task) left bytes → ((fault : LineFault) → ¬ (HaveFault task bytes fault))
    → ¬ (Rose read_before read_now) → ¬ (Rose write_before write_now)
    → (result ≡ status.Ok) ⊎ (result ≡ status.OutOfMemory)
