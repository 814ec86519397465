-- What the control gives next is ahead of the commands whose last version it gave before.
use Rattle.std.proofs.Common.{subst}
use Rattle.fib_sync.specs.Control.{Advances}
use Rattle.fib_sync.specs.declared.control.Advance.{Advance}
use Rattle.replay_run.proofs.FamilyLemmas.{next_given}
use Rattle.replay_run.proofs.family.ask.Goals as goal

pub returns-in-Next-clause-ahead : goal.returns-in-Next-clause-ahead
returns-in-Next-clause-ahead g c =
    let e = c.in_ok-image.ensures in
    let gives = subst (λ (a : Advance g.row.W). Advances g.row.K g.row.LIVE c.args.control.now c.advance.new.self a) c.in-Next.is e.advances in
    λ n last. next_given g.row.K g.row.LIVE c.args.control.now c.advance.new.self n _ e.control e.plan gives last
