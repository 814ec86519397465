use Rattle.std.proofs.Common.{sym}
use Rattle.nhop_index.proofs.tests.is_less.Goals as goal

pub returns-in-Less : goal.returns-in-Less
returns-in-Less c = λ _. sym c.in-Less.ensures
