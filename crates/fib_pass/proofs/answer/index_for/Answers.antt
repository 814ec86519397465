use Rattle.std.proofs.Common.{subst, sym}
use Rattle.plan_cut.specs.VersionTable.{answer_at}
use Rattle.fib_sync.specs.Lawful.{IsSent}
use Rattle.fib_sync.specs.VersionNames.{names_at}
use Rattle.fib_sync.proofs.LawfulLemmas.{lawful_images_answer}
use Rattle.fib_pass.proofs.ReadLemmas.{reads_bound}
use Rattle.fib_pass.proofs.answer.index_for.Goals as goal

pub returns-clause-sent : goal.returns-clause-sent
returns-clause-sent g c = λ K live plan v weighted lawful.
    let law = lawful_images_answer g.row.W live plan (names_at K live plan v) v c.args.image.now weighted lawful in
    let same = c.resolve.ensures.answer law.0 law.1 in
    subst (λ i. IsSent (names_at K live plan v) i (answer_at live plan v c.args.addr c.args.flow)) (sym same) (law.2 c.args.addr c.args.flow)

pub returns-clause-cost : goal.returns-clause-cost
returns-clause-cost g c = λ K live plan v n lawful reads.
    c.resolve.ensures.cost lawful.engine.rows n lawful.engine.stands (reads_bound K live plan v n c.args.image.now lawful reads)
