-- Survey: what the lines of a script come to on one thread, in numbers, and the text that tells it of a generated script.
use Rattle.std.specs.Prelude.{ℕ, Bool, true, false, ◌||◌, List, ◌++◌, Option, Some, None, is_some, codes, decimal}
use Rattle.std.specs.List.{count_by}
use Rattle.rib_store.specs.declared.command.Reply.{Reply}
use Rattle.rib_store.specs.declared.command.Reply.TheVariants.{Added, Joined, Changed, Deleted, Flushed, Nothing, Refused}
use Rattle.plan_cut.specs.PlanCourse.{is_accepted}
use Rattle.route_lang.specs.declared.line.Line.{Line}
use Rattle.route_lang.specs.declared.line.Line.TheVariants.{Change, Quiet, Get4, Get6}
use Rattle.route_lang.specs.Generator.{generated}
use Rattle.route_lang.specs.Script.{Reading}
use Rattle.replay_run.specs.Limits.{targets_max}
use Rattle.replay_run.specs.Output.{given, inet_of, inet6_of, line_reply, plan_text}
use Rattle.replay_run.specs.Replay.{in_turn}

-- ---- lines that count

abbrev pub is_refused : Reply → Bool
is_refused Added = false
is_refused Joined = false
is_refused Changed = false
is_refused Deleted = false
is_refused (Flushed routes) = false
is_refused Nothing = false
is_refused (Refused refusal) = true

-- whether there is a reply, and it is such a one
abbrev pub is_reply : (Reply → Bool) → Option Reply → Bool
is_reply is None = false
is_reply is (Some reply) = is reply

-- whether a line asks for a change, and the reply to it is such a one
abbrev pub is_replied : (Reply → Bool) → Reading → Line × ℕ → Bool
is_replied is script (Change line inet inet6, v) = is_reply is (line_reply targets_max script inet inet6)
is_replied is script (Quiet line inet inet6, v) = false
is_replied is script (Get4 line addr flow at, v) = false
is_replied is script (Get6 line addr flow at, v) = false

abbrev pub is_get : Line × ℕ → Bool
is_get (Change line inet inet6, v) = false
is_get (Quiet line inet inet6, v) = false
is_get (Get4 line addr flow at, v) = true
is_get (Get6 line addr flow at, v) = true

-- whether a line is a get that has a nexthop at its version
abbrev pub is_answered : Reading → Line × ℕ → Bool
is_answered script turn = is_some (given targets_max (inet_of script) turn) || is_some (given targets_max (inet6_of script) turn)

-- how many lines are such ones, each get being answered at the last version that the commands before it have made
abbrev pub lines_that : (Line × ℕ → Bool) → Reading → List Line → ℕ
lines_that is script lines = count_by is (in_turn targets_max script lines)

-- ---- the text

-- what is told of changes
abbrev pub changes_text : ℕ → ℕ → List ℕ
changes_text accepted refused = codes "changes " ++ (decimal accepted ++ (codes " refused " ++ (decimal refused ++ codes "\n")))

-- what is told of gets
abbrev pub gets_text : ℕ → ℕ → List ℕ
gets_text gets answered = codes "gets " ++ (decimal gets ++ (codes " answered " ++ (decimal answered ++ codes "\n")))

-- what is told of a script: the accepted changes and the refused ones, the gets and those with a nexthop, and the last
-- version of each family
abbrev pub survey_text : Reading → List ℕ
survey_text script =
    changes_text (lines_that (is_replied is_accepted script) script script.lines) (lines_that (is_replied is_refused script) script script.lines)
    ++ (gets_text (lines_that is_get script script.lines) (lines_that (is_answered script) script script.lines)
    ++ (plan_text targets_max script.inet ++ plan_text targets_max script.inet6))

-- which script was generated
abbrev pub title_text : ℕ → ℕ → List ℕ
title_text seed count = codes "gen seed " ++ (decimal seed ++ (codes " count " ++ (decimal count ++ codes "\n")))

-- what is told of so many lines that a seed gives
abbrev pub generated_text : ℕ → ℕ → List ℕ
generated_text seed count = title_text seed count ++ survey_text (generated seed count)
