use Rattle.fib_sync.proofs.LawfulLemmas.{lawful_images_answer}
use Rattle.fib_sync.proofs.laws.law_lawful_images_answer.Goals as goal

pub returns : goal.returns
returns g c = lawful_images_answer g.row.W
