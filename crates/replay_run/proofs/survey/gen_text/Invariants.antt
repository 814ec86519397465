-- The reads are counted in a ledger of one part.
use Rattle.replay_run.proofs.survey.gen_text.Given as goal

abbrev pub ghosts-write_survey : goal.ghosts-write_survey
ghosts-write_survey a = record { name = a.blank.name; parts = a.blank.parts }
