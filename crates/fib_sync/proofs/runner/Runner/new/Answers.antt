-- The table of a plan without its commands is empty and of the plan's profile.
use Rattle.std.proofs.Common.{◌≡◌, ◌∙◌, ap}
use Rattle.rib_store.specs.Table.{Profiled}
use Rattle.fib_sync.proofs.RunLemmas.{begun}
use Rattle.fib_sync.proofs.runner.Runner.new.Goals as goal

pub invariant_of-result : goal.invariant_of-result
invariant_of-result g c =
    let same : c.profile.result ≡ c.args.plan.value.profile = cc (c.profile.ensures.value, c.deref.ensures) in (
      begun g.row.LIVE c.args.plan.value c.with_profile-rib.result.rows c.new.result.items c.new-2.result (ap (λ (t : Profiled). t.rows) c.with_profile-rib.ensures) c.new.ensures.items c.new-2.ensures.zero,
      ap (λ (t : Profiled). t.profile) c.with_profile-rib.ensures ∙ same,
    )

pub returns-clause-run : goal.returns-clause-run
returns-clause-run g c =
    let is = begun g.row.LIVE c.args.plan.value c.with_profile-rib.result.rows c.new.result.items c.new-2.result (ap (λ (t : Profiled). t.rows) c.with_profile-rib.ensures) c.new.ensures.items c.new-2.ensures.zero in
    is.run
