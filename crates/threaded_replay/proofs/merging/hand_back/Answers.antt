-- Each pass is as its worker left it.
use Rattle.std.proofs.Common.{◌∙◌, ◌<◌, arith, length, get_or, sym, subst}
use Rattle.threaded_replay.specs.Legal.{Inet, Inet6}
use Rattle.replay_run.specs.Limits.{targets_max}
use Rattle.threaded_replay.specs.Merging.{HasMade, version_in}
use Rattle.threaded_replay.specs.Serving.{of_plans}
use Rattle.threaded_replay.specs.Tally.{tally_of}
use Rattle.threaded_replay.proofs.ResultLemmas.{one_of, same_lengths, same_maps}
use Rattle.threaded_replay.proofs.merging.hand_back.Goals as goal

pub returns-clause-made : goal.returns-clause-made
returns-clause-made g c =
    let p = c.in_ok-passes.ensures in
    record {
      count = same_lengths (tally_of g.A.Naming.plan) (λ d. d.inet) _ _ p.inet ∙ c.requires.count.0;
      tied = p.tied;
      made = λ i d lt.
          (let within : i < length c.args.dones.items = omega (arith, lt, c.requires.count.0) in
          let e = one_of c.args.dones.items (omega (arith, within)) in
          subst (λ t. HasMade targets_max c.args.workers (of_plans g.A.Naming.plan g.B.Naming.plan) c.args.asks.now (version_in c.in_ok-gots.gots.items) Inet i t)
          (sym (same_maps (tally_of g.A.Naming.plan) (λ d. d.inet) _ _ p.inet i d e within))
          (subst (λ ds. HasMade targets_max c.args.workers (of_plans g.A.Naming.plan g.B.Naming.plan) c.args.asks.now (version_in c.in_ok-gots.gots.items) Inet i (get_or ds i e).inet)
          c.as_slice.ensures.value (c.in_ok-gots.ensures.made i e lt)));
    }

pub returns-clause-made6 : goal.returns-clause-made6
returns-clause-made6 g c =
    let p = c.in_ok-passes.ensures in
    record {
      count = same_lengths (tally_of g.B.Naming.plan) (λ d. d.inet6) _ _ p.inet6 ∙ c.requires.count.0;
      tied = p.tied6;
      made = λ i d lt.
          (let within : i < length c.args.dones.items = omega (arith, lt, c.requires.count.0) in
          let e = one_of c.args.dones.items (omega (arith, within)) in
          subst (λ t. HasMade targets_max c.args.workers (of_plans g.A.Naming.plan g.B.Naming.plan) c.args.asks.now (version_in c.in_ok-gots.gots.items) Inet6 i t)
          (sym (same_maps (tally_of g.B.Naming.plan) (λ d. d.inet6) _ _ p.inet6 i d e within))
          (subst (λ ds. HasMade targets_max c.args.workers (of_plans g.A.Naming.plan g.B.Naming.plan) c.args.asks.now (version_in c.in_ok-gots.gots.items) Inet6 i (get_or ds i e).inet6)
          c.as_slice.ensures.value (c.in_ok-gots.ensures.made6 i e lt)));
    }
