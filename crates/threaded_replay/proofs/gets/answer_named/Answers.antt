-- There are as many workers as readers.
use Rattle.std.proofs.Common.{◌≡◌, ℕ, arith, subst}
use Rattle.threaded_replay.specs.Merging.{IsRising, version_in}
use Rattle.threaded_replay.proofs.gets.answer_named.Goals as goal

pub returns-clause-rising : goal.returns-clause-rising
returns-clause-rising g c =
    let as_many : c.len-workers.result ≡ g.A.Naming.readers = omega (arith, c.len-workers.ensures, c.requires.inet.0.passes.count) in
    subst (λ (n : ℕ). IsRising n c.args.asks.now (version_in c.in_ok-gots.field-0.gots.items)) as_many c.in_ok-gots.ensures.rising
