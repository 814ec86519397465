use Rattle.plan_cut.proofs.StandingLemmas.{stands_new}
use Rattle.plan_cut.proofs.cutter.Cutter.new.Goals as goal

pub returns-clause-stands : goal.returns-clause-stands
returns-clause-stands c = stands_new
