use Rattle.std.proofs.Common.{ap, option_copied}
use Rattle.rib_store.proofs.LiveLemmas.{after_none, after_some}
use Rattle.rib_store.proofs.links.Links.live_after.Goals as goal

pub overflow_sub-result : goal.overflow_sub-result
overflow_sub-result g c =
    (after_some c.args.self.now c.args.new.now c.in-Some.old.now _ _ _ _ (ap option_copied c.in-Some.is) c.live.ensures.size c.grown.ensures.grown c.shrunk_after.ensures.shrunk c.live.ensures.counts c.as_slice-list.ensures.spread c.as_slice-list-in-Some.ensures.spread c.requires.old).0

pub returns-in-None : goal.returns-in-None
returns-in-None g c =
    after_none c.args.self.now c.args.new.now _ _ _ (ap option_copied c.in-None.is) c.live.ensures.size c.grown.ensures.grown c.live.ensures.counts c.as_slice-list.ensures.spread

pub returns-in-Some : goal.returns-in-Some
returns-in-Some g c =
    (after_some c.args.self.now c.args.new.now c.in-Some.old.now _ _ _ _ (ap option_copied c.in-Some.is) c.live.ensures.size c.grown.ensures.grown c.shrunk_after.ensures.shrunk c.live.ensures.counts c.as_slice-list.ensures.spread c.as_slice-list-in-Some.ensures.spread c.requires.old).1
