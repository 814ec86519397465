-- What a job or a task makes of the bytes that were read.
use Rattle.std.specs.Prelude.{◌≡◌, ℕ, ◌≤◌, Bool, true, false, List, length, Option, Some, None, Result, Ok, Err}
use Rattle.route_lang.specs.declared.fault.LineFault.{LineFault}
use Rattle.route_lang.specs.declared.fault.ScriptError.{ScriptError}
use Rattle.route_lang.specs.declared.fault.ScriptError.TheVariants as script_error
use Rattle.route_lang.specs.Limits.{lines_limit}
use Rattle.route_lang.specs.Script.{Reading, script_of}
use Rattle.route_lang.specs.Spelling.{spelled}
use Rattle.route_lang.specs.Text.{lines_of}
use Rattle.fib_pass.specs.declared.totals.FibTotals.{FibTotals}
use Rattle.replay_run.specs.Limits.{targets_max}
use Rattle.replay_run.specs.Output.{serial_output}
use Rattle.replay_run.specs.Survey.{generated_text}
use Rattle.replay_run.specs.Text.{checked_text}
use Rattle.threaded_replay.specs.Threaded.{IsThreaded}
use Rattle.route_cli.specs.declared.job.Job.{Job}
use Rattle.route_cli.specs.declared.job.Job.TheVariants.{Replay, Check, Show, Gen}
use Rattle.route_cli.specs.declared.job.Task.{Task}
use Rattle.route_cli.specs.declared.job.Task.TheVariants.{NotTaken, Does, ReplaysBy}

-- ---- jobs, which wait for nobody

-- what a job makes of a script whose text has so many lines
abbrev pub text_of : Job → ℕ → Reading → List ℕ
text_of Replay lines script = serial_output targets_max script
text_of Check lines script = checked_text script lines
text_of Show lines script = spelled script
text_of (Gen seed count) lines script = generated_text seed count

-- the text of a script, or its fault
abbrev pub text_or_fault : Job → ℕ → Result Reading LineFault → Result (List ℕ) LineFault
text_or_fault job lines (Ok script) = Ok (text_of job lines script)
text_or_fault job lines (Err fault) = Err fault

-- what the job makes of the bytes: a text, or the first line that is refused; the generator makes its text of none
abbrev pub result_of : Job → List ℕ → Result (List ℕ) LineFault
result_of Replay bytes = text_or_fault Replay (length (lines_of bytes)) (script_of bytes)
result_of Check bytes = text_or_fault Check (length (lines_of bytes)) (script_of bytes)
result_of Show bytes = text_or_fault Show (length (lines_of bytes)) (script_of bytes)
result_of (Gen seed count) bytes = Ok (generated_text seed count)

-- whether a job reads a source
abbrev pub is_read : Job → Bool
is_read Replay = true
is_read Check = true
is_read Show = true
is_read (Gen seed count) = false

-- a generated script has a line and is within the limit
abbrev pub FitsJob : Job → Type 0
FitsJob Replay = Unit {0}
FitsJob Check = Unit {0}
FitsJob Show = Unit {0}
FitsJob (Gen seed count) = (1 ≤ count) × (count ≤ lines_limit)

module _ {V : Type 0} (bytes_of : V → List ℕ) where
  -- what is answered is the result, with its text seen as bytes, unless memory is wanting
  abbrev pub GivesResultBy : Result V ScriptError → Result (List ℕ) LineFault → Type 0
  GivesResultBy (Ok text) result = result ≡ Ok (bytes_of text)
  GivesResultBy (Err (script_error.Fault fault)) result = result ≡ Err fault
  GivesResultBy (Err script_error.OutOfMemory) result = Unit {0}

-- ---- tasks

-- the text and the totals are those of the script's replay by so many workers
abbrev pub IsReplayBy : ℕ → Result Reading LineFault → List ℕ → Option FibTotals → Type 0
IsReplayBy workers (Ok script) text (Some totals) = IsThreaded workers script text totals
IsReplayBy workers (Ok script) text None = ⊥
IsReplayBy workers (Err fault) text totals = ⊥

module _ {V : Type 0} (bytes_of : V → List ℕ) (totals_of : V → FibTotals) where
  -- what is answered is such a replay, with its text seen as bytes, or the script's fault, unless memory is wanting
  abbrev pub GivesReplayBy : ℕ → Result V ScriptError → Result Reading LineFault → Type 0
  GivesReplayBy workers (Ok output) script = IsReplayBy workers script (bytes_of output) (Some (totals_of output))
  GivesReplayBy workers (Err (script_error.Fault fault)) script = script ≡ Err fault
  GivesReplayBy workers (Err script_error.OutOfMemory) script = Unit {0}

-- what a task may make of the bytes: a text and, where it is a replay by workers, what their passes did
abbrev pub Makes : Task → List ℕ → List ℕ → Option FibTotals → Type 0
Makes NotTaken bytes text totals = ⊥
Makes (Does job) bytes text totals = (result_of job bytes ≡ Ok text) × (totals ≡ None)
Makes (ReplaysBy workers) bytes text totals = IsReplayBy workers (script_of bytes) text totals

-- the bytes have this fault
abbrev pub HaveFault : Task → List ℕ → LineFault → Type 0
HaveFault NotTaken bytes fault = ⊥
HaveFault (Does job) bytes fault = result_of job bytes ≡ Err fault
HaveFault (ReplaysBy workers) bytes fault = script_of bytes ≡ Err fault

-- whether a task reads a source
abbrev pub is_reader : Task → Bool
is_reader NotTaken = false
is_reader (Does job) = is_read job
is_reader (ReplaysBy workers) = true

-- the numbers of a task are in their ranges
abbrev pub FitsTask : Task → Type 0
FitsTask NotTaken = Unit {0}
FitsTask (Does job) = FitsJob job
FitsTask (ReplaysBy workers) = (1 ≤ workers) × (workers ≤ 64)
