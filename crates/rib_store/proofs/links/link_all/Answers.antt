use Rattle.std.proofs.Common.{◌≡◌, take, lit<, ◌∙◌}
use Rattle.prefix_width.specs.Order.{hop_cmp}
use Rattle.nhgrp_slots.specs.PathList.{hops}
use Rattle.counted_map.specs.Counts.{linked_all, unlinked_all}
use Rattle.rib_store.proofs.LinkingLemmas.{linked_more, room_at, size_at, there_all, undone_all}
use Rattle.rib_store.proofs.links.link_all.Goals as goal

pub link-requires : goal.link-requires
link-requires g c = (
  lit< tt,
  (
    lit< tt,
    (
      room_at _ _ c.args.paths.now c.loop-i.i _ c.loop-i.invariant c.loop-i-test.true c.requires.count,
      size_at _ _ c.args.paths.now c.loop-i.i c.loop-i.invariant c.loop-i-test.true c.live-live.ensures.counts c.requires.size,
    ),
  ),
)

pub unlink_all-requires : goal.unlink_all-requires
unlink_all-requires g c =
    (lit< tt, (lit< tt, there_all c.args.nhops.now _ _ (c.in-Err.ensures.err ∙ c.loop-i.invariant)))

pub returns-in-Err-clause-err : goal.returns-in-Err-clause-err
returns-in-Err-clause-err g c =
    let o = c.unlink_all.ensures in
    let a = c.in-Err.ensures.err in
    let b = c.loop-i.invariant in
    let f : c.unlink_all.new.nhops ≡ unlinked_all hop_cmp (linked_all hop_cmp c.args.nhops.now (hops (take c.loop-i.i c.args.paths.now))) (hops (take c.loop-i.i c.args.paths.now)) = cc in
    undone_all _ _ (hops (take c.loop-i.i c.args.paths.now)) f c.live-live.ensures.counts

pub loop-i-preserved : goal.loop-i-preserved
loop-i-preserved g c =
    let m = linked_more c.args.nhops.now c.loop-i.nhops c.args.paths.now c.loop-i.i c.index-paths-i.result c.loop-i.invariant c.loop-i-test.true c.index-paths-i.is in
    let x = c.nexthop.ensures in
    let k = c.in_default.ensures.ok in
    cc
