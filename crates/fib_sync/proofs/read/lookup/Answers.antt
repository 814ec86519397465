use Rattle.std.proofs.Common.{subst, sym}
use Rattle.plan_cut.specs.VersionTable.{answer_at}
use Rattle.fib_sync.specs.Lawful.{IsSent}
use Rattle.fib_sync.proofs.LawfulLemmas.{lawful_images_answer}
use Rattle.fib_sync.proofs.read.lookup.Goals as goal

pub returns : goal.returns
returns g c = λ live plan names v weighted lawful.
    let law = lawful_images_answer g.row.W live plan names v c.args.image.now weighted lawful in
    let same = c.resolve.ensures.answer law.0 law.1 in
    subst (λ i. IsSent names i (answer_at live plan v c.args.addr c.args.flow)) (sym same) (law.2 c.args.addr c.args.flow)
