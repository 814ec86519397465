use Rattle.std.proofs.Common.{arith, option_copied}
use Rattle.rib_store.proofs.LiveLemmas.{within_far, over_limit, within_limit}
use Rattle.rib_store.proofs.links.Links.passes.Goals as goal

pub returns-then-live-from-clause-within : goal.returns-then-live-from-clause-within
returns-then-live-from-clause-within g c =
    within_far c.args.self.now c.args.new.now (option_copied c.args.old) c.live.result c.len.result c.args.limit c.live.ensures.size c.len.ensures.count (omega arith) c.live.ensures.counts c.len.ensures.spread

pub returns-clause-over : goal.returns-clause-over
returns-clause-over g c = over_limit c.args.limit c.live_after.result _ c.live_after.ensures

pub returns-clause-within : goal.returns-clause-within
returns-clause-within g c = within_limit c.args.limit c.live_after.result _ c.live_after.ensures
