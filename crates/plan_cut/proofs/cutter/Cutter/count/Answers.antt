use Rattle.std.proofs.Common.{rules, arith}
use Rattle.std.proofs.lemmas.Grind.{common_steps}
use Rattle.plan_cut.proofs.StandingLemmas.{counted_next}
use Rattle.plan_cut.proofs.cutter.Cutter.count.Goals as goal

pub returns-after-self-ge-BUCKET_MS-clause-numbers :
    goal.returns-after-self-ge-BUCKET_MS-clause-numbers
returns-after-self-ge-BUCKET_MS-clause-numbers g c = λ course m at is.
    counted_next course m _ c.args.self.now _ _ at is (first_of (search rules, grind (arith, common_steps)))

pub returns-else-changed-clause-numbers : goal.returns-else-changed-clause-numbers
returns-else-changed-clause-numbers g c = λ course m at is.
    counted_next course m _ c.args.self.now _ _ at is (first_of (search rules, grind (arith, common_steps)))
