-- The reading of one line of a script.
use Rattle.std.proofs.Common.{◌≡◌, ◌∙◌, ℕ, ◌+◌, ◌-◌, ◌≤◌, false, nat_lt, List, [], ◌∷◌, ◌++◌, Ok, Err, Result, length, refl, sym, ap, subst, arith, append_assoc, append-nil, length-append}
use Rattle.std.specs.Prelude.{OnOk, IsErrAnd}
use Rattle.std.proofs.lemmas.Bool.Decides.{nat_tests}
use Rattle.rib_store.specs.declared.command.Command.{Command}
use Rattle.rib_store.specs.Plan.{Planned, plan_with}
use Rattle.route_lang.specs.declared.asked.Asked.{Asked}
use Rattle.route_lang.specs.declared.asked.Asked.TheVariants.{Nothing, Inet, Inet6, Both, Get4, Get6, Profile}
use Rattle.route_lang.specs.declared.line.Line.{Line}
use Rattle.route_lang.specs.declared.fault.LineFault.{LineFault}
use Rattle.route_lang.specs.declared.fault.ScriptError.{ScriptError}
use Rattle.route_lang.specs.declared.fault.ScriptError.TheVariants as script_error
use Rattle.route_lang.specs.declared.script.Plans.{Plans}
use Rattle.route_lang.specs.Reader.Asked.{asked_of, in_time}
use Rattle.route_lang.specs.Limits.{input_limit}
use Rattle.route_lang.specs.Reader.Lines.{plans_behind, entries_of, shared_command, with_front, lines_from, no_plans, script_read, TakesLine, RefusesLine, HasAtMost}
use Rattle.route_lang.specs.Script.{Reading, GivesScript}
use Rattle.route_lang.specs.Text.{lines_of}

front_joined : (xs ys : List Line) (below : Result Reading LineFault) → with_front (xs ++ ys) below ≡ with_front xs (with_front ys below)
front_joined xs ys (Err fault) = refl
front_joined xs ys (Ok below) = ap (λ lines. Ok (record below { lines = lines })) (append_assoc xs ys below.lines)

-- a line that asks for something puts it behind the plans and the lines
pub takes_line : (at : ℕ) (text : List ℕ) (plans : Plans) (front : List Line) (asked : Asked) → in_time plans.begun (asked_of at text) ≡ Ok asked → TakesLine at text plans front (plans_behind plans asked) (front ++ entries_of at plans asked)
takes_line at text plans front asked e below =
    front_joined front (entries_of at plans asked) (lines_from (at + 1) (plans_behind plans asked) below)
    ∙ rw e refl

one_more : {w : ℕ} (plan : Planned w) (c : Command w) (n : ℕ) → 1 ≤ n → length plan.commands ≤ n - 1 → length (plan_with plan c).commands ≤ n
one_more plan c n some few = omega (arith, length-append plan.commands (c ∷ []))

-- a line puts one command at most behind each plan
pub room_behind : (n : ℕ) (plans : Plans) (asked : Asked) → 1 ≤ n → HasAtMost (n - 1) plans → HasAtMost n (plans_behind plans asked)
room_behind n plans Nothing some few = (omega (arith, few.0), omega (arith, few.1))
room_behind n plans (Inet c) some few = (one_more plans.inet c n some few.0, omega (arith, few.1))
room_behind n plans (Inet6 c) some few = (omega (arith, few.0), one_more plans.inet6 c n some few.1)
room_behind n plans (Both s) some few = (one_more plans.inet (shared_command s) n some few.0, one_more plans.inet6 (shared_command s) n some few.1)
room_behind n plans (Get4 addr flow) some few = (omega (arith, few.0), omega (arith, few.1))
room_behind n plans (Get6 addr flow) some few = (omega (arith, few.0), omega (arith, few.1))
room_behind n plans (Profile number) some few = (omega (arith, few.0), omega (arith, few.1))

-- the fault of a line behind these is that of the whole
pub gives_fault : (bytes : List ℕ) (r : Result Reading ScriptError) (error : ScriptError) (number : ℕ) (plans : Plans) (front : List Line) (text : List ℕ) (rest below : List (List ℕ)) → IsErrAnd r (λ e. e ≡ error) → length bytes ≤ input_limit
    → rest ≡ text ∷ below → with_front front (lines_from number plans rest) ≡ lines_from 1 no_plans (lines_of bytes)
    → ((fault : LineFault) → error ≡ script_error.Fault fault → RefusesLine number text plans fault) → GivesScript r (script_read bytes)
gives_fault bytes (Ok script) error number plans front text rest below is few next whole refuses = absurd is
gives_fault bytes (Err e) error number plans front text rest below is few next whole refuses =
    subst (λ (told : ScriptError). GivesScript (Err told) (script_read bytes)) (sym is) (by_error error refuses)
  where
    by_error : (told : ScriptError) → ((fault : LineFault) → told ≡ script_error.Fault fault → RefusesLine number text plans fault) → GivesScript (Err told) (script_read bytes)
    by_error (script_error.Fault fault) refused =
        let inside : nat_lt input_limit (length bytes) ≡ false = grind (arith, nat_tests) in
        let stops = ap (λ texts. with_front front (lines_from number plans texts)) next ∙ ap (with_front front) (refused fault refl below) in
        rw inside (sym whole ∙ stops)
    by_error script_error.OutOfMemory refused = tt

-- where no line is left, what was read is the script
pub gives_script : (bytes : List ℕ) (number : ℕ) (plans : Plans) (front : List Line) (rest : List (List ℕ)) (script : Reading) → length bytes ≤ input_limit → rest ≡ []
    → with_front front (lines_from number plans rest) ≡ lines_from 1 no_plans (lines_of bytes) → script ≡ record { inet = plans.inet; inet6 = plans.inet6; lines = front; profile = plans.inet.profile } → script_read bytes ≡ Ok script
gives_script bytes number plans front rest script few ended whole is =
    let inside : nat_lt input_limit (length bytes) ≡ false = grind (arith, nat_tests) in
    let read : List Line → Result Reading LineFault = λ lines. Ok (record { inet = plans.inet; inet6 = plans.inet6; lines = lines; profile = plans.inet.profile }) in
    rw inside (sym whole ∙ ap (λ texts. with_front front (lines_from number plans texts)) ended ∙ ap read (append-nil front) ∙ ap Ok (sym is))
