use Rattle.std.proofs.Common.{◌≡◌, ◌∙◌, ap, sym, arith, length, refl}
use Rattle.std.proofs.lemmas.List.{length-map}
use Rattle.replay_run.specs.Limits.{targets_max}
use Rattle.threaded_replay.specs.Serving.{IsDone, of_plans}
use Rattle.threaded_replay.proofs.ResultLemmas.{each_ok}
use Rattle.threaded_replay.proofs.beside.gather_done.Goals as goal

pub returns-clause-done : goal.returns-clause-done
returns-clause-done g c = λ i d lt.
    let n = c.requires.count in
    let m = ap length c.in_ok-dones.ensures in
    let p : length c.in_ok-dones.dones.items ≡ c.args.workers = sym (length-map _ _) ∙ (m ∙ n) in
    each_ok (λ i e. IsDone targets_max (of_plans g.A.Naming.plan g.B.Naming.plan) c.args.asks.now c.args.workers i e.gots.items e.inet e.inet6)
    _ (λ x. refl) _ _ c.in_ok-dones.ensures (λ k e lt'. c.requires.done k e (omega (arith, lt', n))) i d (omega (arith, lt, p))
