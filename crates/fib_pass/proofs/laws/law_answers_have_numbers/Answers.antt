use Rattle.plan_cut.specs.VersionTable.{commands_at}
use Rattle.fib_pass.proofs.NamedTables.{answered_numbered}
use Rattle.fib_pass.proofs.laws.law_answers_have_numbers.Goals as goal

pub returns : goal.returns
returns g c = λ most plan v addr flow h at. answered_numbered most plan (commands_at most plan v) addr flow h at
