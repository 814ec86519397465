use Rattle.plan_cut.specs.PlanCourse.{course_of}
use Rattle.plan_cut.proofs.ListingLemmas.{kind-versions}
use Rattle.plan_cut.proofs.laws.law_modules.Goals as goal

pub returns : goal.returns
returns c = λ w live plan v current next e f. kind-versions (course_of live plan) v current next e f
