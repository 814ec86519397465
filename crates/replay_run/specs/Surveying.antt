-- A survey under way: the lines before a place are counted.
use Rattle.std.specs.Prelude.{◌≡◌, ℕ, ◌+◌, ◌≤◌, Bool, drop}
use Rattle.plan_cut.specs.PlanCourse.{is_accepted}
use Rattle.route_lang.specs.declared.line.Line.{Line}
use Rattle.route_lang.specs.Script.{Reading}
use Rattle.replay_run.specs.Survey.{is_answered, is_get, is_refused, is_replied, lines_that}
use Rattle.replay_run.specs.declared.survey.Tally.{Tally}

-- so many lines before the place are such ones: with those from there on they are all
abbrev pub AreCounted : (Line × ℕ → Bool) → Reading → ℕ → ℕ → Type 0
AreCounted is script i n = n + lines_that is script (drop i script.lines) ≡ lines_that is script script.lines

-- the lines before the place are counted, and no number is greater than that of the lines
pub record IsTally (script : Reading) (i : ℕ) (tally : Tally) : Type 0 where
  pub accepted : AreCounted (is_replied is_accepted script) script i tally.accepted
  pub refused : AreCounted (is_replied is_refused script) script i tally.refused
  pub gets : AreCounted is_get script i tally.gets
  pub answered : AreCounted (is_answered script) script i tally.answered
  pub few : (tally.accepted ≤ i) × (tally.refused ≤ i) × (tally.gets ≤ i) × (tally.answered ≤ i)
