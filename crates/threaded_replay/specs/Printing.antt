-- The output of a replay, line by line.
use Rattle.std.specs.Prelude.{◌≡◌, ℕ, ◌+◌, ◌≤◌, All, List, length, drop}
use Rattle.std.specs.List.{flat_map}
use Rattle.route_lang.specs.Fits.{Positions}
use Rattle.route_lang.specs.Script.{Reading}
use Rattle.fib_sync.specs.Control.{Controlled}
use Rattle.fib_sync.specs.Replies.{replies_to}
use Rattle.plan_cut.specs.PlanCourse.{last_version}
use Rattle.engine_set.specs.Engine.{kind_of}
use Rattle.fib_pass.specs.Totals.{packets_hit, packets_of}
use Rattle.fib_pass.specs.Views.{PassView}
use Rattle.replay_run.specs.Line.{fib_text}
use Rattle.replay_run.specs.Output.{Part, line_text, packets_in, paired, plan_text}
use Rattle.threaded_replay.specs.declared.fib.Fib.{Fib}
use Rattle.threaded_replay.specs.declared.gets.Ran.{Ran}
use Rattle.threaded_replay.specs.Legal.{gets_from, gets_of}
use Rattle.replay_run.specs.Limits.{targets_max}
use Rattle.threaded_replay.specs.Merging.{AreRight}

-- a control has run all commands of its plan
abbrev pub HasAllReplies : {w : ℕ} → Controlled w → Type 0
HasAllReplies control = control.replies ≡ replies_to targets_max control.plan (length control.plan.commands)

-- the gets of a script are answered, and all commands of both families are run
pub record IsPrintable (script : Reading) (ran : Ran) : Type 0 where
  pub right : AreRight targets_max script (gets_of script) ran.gots.items
  pub plan : ran.fibs.inet.control.plan ≡ script.inet
  pub plan6 : ran.fibs.inet6.control.plan ≡ script.inet6
  pub all : HasAllReplies ran.fibs.inet.control
  pub all6 : HasAllReplies ran.fibs.inet6.control

-- the lines from i on have the gets from j on
abbrev pub IsAtGet : Reading → ℕ → ℕ → Type 0
IsAtGet script i j = (synced : Positions) × (drop j (gets_of script) ≡ gets_from script synced (drop i script.lines))

-- what is written for the lines from i on, where so many gets stand before them
abbrev pub text_behind : ℕ → Reading → ℕ → (ℕ → ℕ) → ℕ → List ℕ
text_behind most script i version j = flat_map (line_text most script) (paired (drop i script.lines) (λ k. version (j + k)))

-- a family of a replay whose gets were answered at these versions has run all commands and published its last version, whose
-- image its control has; its passes, of which none is missing, have hit what the gets gave
pub record EndsSo {w : ℕ} (script : Reading) (version : ℕ → ℕ) (part : Part w) (fib : Fib w) : Type 0 where
  pub tied : All (λ (p : PassView w). p.seat.table ≡ fib.publisher.table) fib.passes.items
  pub enough : fib.publisher.own.readers ≤ length fib.passes.items
  pub packets : packets_hit fib.publisher.key fib.passes.items ≡ packets_of (packets_in targets_max part (paired script.lines version))
  pub newest : fib.publisher.own.version ≡ (last_version targets_max part.plan).number
  pub text : fib_text w fib.control.image.version fib.control.image.routes (kind_of fib.control.image.engine) ≡ plan_text targets_max part.plan
