-- The survey stands behind the title.
use Rattle.std.proofs.Common.{◌∙◌, ◌++◌, ℕ, List, ap}
use Rattle.route_lang.specs.Script.{Reading}
use Rattle.replay_run.specs.Survey.{survey_text, title_text}
use Rattle.replay_run.proofs.survey.gen_text.Goals as goal

pub returns : goal.returns
returns c =
    c.in_ok-write_survey.ensures
    ∙ ap (λ (bytes : List ℕ). bytes ++ survey_text c.in_ok-script.script) (c.in_ok-write_title.ensures ∙ ap (λ (bytes : List ℕ). bytes ++ title_text c.args.seed c.args.count) c.new-out.ensures.items)
    ∙ ap (λ (s : Reading). title_text c.args.seed c.args.count ++ survey_text s) c.in_ok-script.ensures
