-- What a fault tells of the bytes that were read, and completeness by cases on the status.
use Rattle.std.proofs.Common.{◌≡◌, ◌≢◌, ◌∙◌, ◌⊎◌, ℕ, ◌≤◌, ◌++◌, Bool, true, false, List, Option, Some, None, Result, Ok, Err, length, length-append, append-nil, refl, ap, subst, sym, inl, inr, arith}
use Rattle.std.proofs.lemmas.Bool.{false≢true}
use Rattle.outside_io.specs.Faults.{Rose}
use Rattle.outside_io.specs.Whole.{ReadsAll, ReadsPast}
use Rattle.route_lang.specs.Limits.{input_limit}
use Rattle.route_lang.specs.Script.{Reading, script_of}
use Rattle.route_lang.specs.Text.{lines_of}
use Rattle.route_lang.specs.declared.fault.LineFault.{LineFault}
use Rattle.route_lang.specs.declared.fault.Reason.{Reason}
use Rattle.route_lang.specs.declared.fault.Reason.TheVariants as reason
use Rattle.route_lang.proofs.ReasonLemmas.{IsOfLine, reason_of_line}
use Rattle.route_cli.specs.Cause.{FindsIf, ReadsIf, RefusedAt, RefusedBy, Refuses, WasRead, is_too_large}
use Rattle.route_cli.specs.Result.{HaveFault, is_read, is_reader, result_of, text_or_fault}
use Rattle.route_cli.specs.declared.job.Job.{Job}
use Rattle.route_cli.specs.declared.job.Job.TheVariants.{Replay, Check, Show, Gen}
use Rattle.route_cli.specs.declared.job.Task.{Task}
use Rattle.route_cli.specs.declared.job.Task.TheVariants.{NotTaken, Does, ReplaysBy}
use Rattle.route_cli.specs.declared.status.Status.{Status}
use Rattle.route_cli.specs.declared.status.Status.TheVariants as status

-- ---- bytes with a fault

script_fault : (job : Job) (lines : ℕ) (script : Result Reading LineFault) (fault : LineFault) → text_or_fault job lines script ≡ Err fault → script ≡ Err fault
script_fault job lines (Ok reading) fault e = cc
script_fault job lines (Err other) fault e = cc

-- a task whose bytes have a fault reads them, and they are no script
fault_of : (task : Task) (bytes : List ℕ) (fault : LineFault) → HaveFault task bytes fault → (is_reader task ≡ true) × (script_of bytes ≡ Err fault)
fault_of NotTaken bytes fault h = absurd h
fault_of (Does Replay) bytes fault h = (refl, script_fault Replay (length (lines_of bytes)) (script_of bytes) fault h)
fault_of (Does Check) bytes fault h = (refl, script_fault Check (length (lines_of bytes)) (script_of bytes) fault h)
fault_of (Does Show) bytes fault h = (refl, script_fault Show (length (lines_of bytes)) (script_of bytes) fault h)
fault_of (Does (Gen seed count)) bytes fault h = cc
fault_of (ReplaysBy workers) bytes fault h = (refl, h)

of_line : (task : Task) (left rest : Option (List ℕ)) (line : ℕ) (why : Reason) → IsOfLine why → RefusedAt task left rest line why → Refuses task left rest line why
of_line task left rest line reason.TooLarge h r = absurd h
of_line task left rest line reason.TooManyLines h r = r
of_line task left rest line reason.LineTooLong h r = r
of_line task left rest line reason.BadByte h r = r
of_line task left rest line reason.UnknownCommand h r = r
of_line task left rest line reason.UnknownOption h r = r
of_line task left rest line reason.Repeated h r = r
of_line task left rest line reason.MissingWord h r = r
of_line task left rest line reason.BadNumber h r = r
of_line task left rest line reason.ExtraWord h r = r
of_line task left rest line reason.BadAddress h r = r
of_line task left rest line reason.BadLength h r = r
of_line task left rest line reason.NoTarget h r = r
of_line task left rest line reason.NoModule h r = r
of_line task left rest line reason.NotFirst h r = r

-- bytes within the limit are refused for a reason of their line
pub refused : (task : Task) (left rest : Option (List ℕ)) (bytes : List ℕ) (at : ℕ) (why : Reason) → ReadsIf (is_reader task) left rest bytes → HaveFault task bytes (record { line = at; reason = why })
    → (line : ℕ) (reason : Reason) → status.ScriptRefused at why ≡ status.ScriptRefused line reason → Refuses task left rest line reason
refused task left rest bytes at why reads h line reason same =
    let here : at ≡ line = cc in
    let named : why ≡ reason = cc in
    let known = fault_of task bytes (record { line = at; reason = why }) h in
    let read : WasRead left rest bytes = subst (λ b. ReadsIf b left rest bytes) known.0 reads in
    rw (← here, ← named) (of_line task left rest at why (reason_of_line bytes (record { line = at; reason = why }) read.within known.1) (record { bytes = bytes; read = read; fault = h }))

-- ---- completeness

-- what was read to the end is all that was left
all_read : (bytes xs : List ℕ) (rest : Option (List ℕ)) → ReadsAll (Some bytes) rest xs → bytes ≡ xs
all_read bytes xs None h = absurd h.0
all_read bytes xs (Some ys) h = h.0 ∙ ap (λ l. xs ++ l) h.1 ∙ append-nil xs

not_past : (bytes : List ℕ) (rest : Option (List ℕ)) → length bytes ≤ input_limit → ReadsPast input_limit (Some bytes) rest → ⊥
not_past bytes None few h = h.2
not_past bytes (Some ys) few h = omega (arith, ap length h.2, length-append h.0 ys, h.1)

-- what a task finds is not refused where it has no fault
never : (task : Task) (left rest : Option (List ℕ)) (bytes : List ℕ) (line : ℕ) (reason : Reason) → FindsIf (is_reader task) left bytes → ((fault : LineFault) → ¬ (HaveFault task bytes fault)) → Refuses task left rest line reason → ⊥
never task left rest bytes line reason finds clean h = by_test (is_too_large reason) h
  where
    by_test : (large : Bool) → RefusedBy large task left rest line reason → ⊥
    by_test true h =
        let found = subst (λ b. FindsIf b left bytes) h.2 finds in
        not_past bytes rest found.1 (subst (λ l. ReadsPast input_limit l rest) found.0 h.1)
    by_test false h =
        let found = subst (λ b. FindsIf b left bytes) (fault_of task h.bytes (record { line = line; reason = reason }) h.fault).0 finds in
        let same = all_read bytes h.bytes rest (subst (λ l. ReadsAll l rest h.bytes) found.0 h.read.whole) in
        clean (record { line = line; reason = reason }) (subst (λ xs. HaveFault task xs (record { line = line; reason = reason })) (sym same) h.fault)

-- the other clauses leave Ok and want of memory
pub completes : (task : Task) (left rest : Option (List ℕ)) (a b c d : ℕ) (result : Status)
    → (result ≢ status.Usage) → (result ≡ status.ReadFault → Rose a b) → (result ≡ status.WriteFault → Rose c d)
    → ((line : ℕ) (reason : Reason) → result ≡ status.ScriptRefused line reason → Refuses task left rest line reason)
    → (bytes : List ℕ) → FindsIf (is_reader task) left bytes → ((fault : LineFault) → ¬ (HaveFault task bytes fault)) → ¬ (Rose a b) → ¬ (Rose c d)
    → (result ≡ status.Ok) ⊎ (result ≡ status.OutOfMemory)
completes task left rest a b c d status.Ok usage read write refused bytes finds clean nr nw = inl refl
completes task left rest a b c d status.OutOfMemory usage read write refused bytes finds clean nr nw = inr refl
completes task left rest a b c d status.Usage usage read write refused bytes finds clean nr nw = absurd (usage refl)
completes task left rest a b c d status.ReadFault usage read write refused bytes finds clean nr nw = absurd (nr (read refl))
completes task left rest a b c d status.WriteFault usage read write refused bytes finds clean nr nw = absurd (nw (write refl))
completes task left rest a b c d (status.ScriptRefused line reason) usage read write refused bytes finds clean nr nw =
    absurd (never task left rest bytes line reason finds clean (refused line reason refl))
