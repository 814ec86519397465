use Rattle.std.proofs.Common.{◌≡◌, lit<, ◌∙◌}
use Rattle.prefix_width.specs.Order.{hop_cmp}
use Rattle.nhgrp_slots.specs.PathList.{hops}
use Rattle.counted_map.specs.Counts.{linked_all, unlinked_all}
use Rattle.rib_store.proofs.LinkingLemmas.{there_all, undone_all}
use Rattle.rib_store.proofs.links.Links.link.Goals as goal

pub unlink_all-requires : goal.unlink_all-requires
unlink_all-requires g c =
    let f : c.link_all-2.new.nhops ≡ linked_all hop_cmp c.self.inside.nhops (hops c.as_slice-in-Err.result.now) =
    let a = c.in_ok-link_all.ensures.ok in
    let x = c.as_slice-2.ensures.items in
    let y = c.as_slice-in-Err.ensures.items in
    cc in
    (lit< tt, (lit< tt, there_all _ _ _ f))

pub returns-in-Err-clause-err : goal.returns-in-Err-clause-err
returns-in-Err-clause-err g c =
    let a = c.in_ok-link_all.ensures.ok in
    let x = c.as_slice-2.ensures.items in
    let y = c.as_slice-in-Err.ensures.items in
    let o = c.unlink_all.ensures in
    let f : c.unlink_all.new.nhops ≡ unlinked_all hop_cmp (linked_all hop_cmp c.self.inside.nhops (hops c.as_slice-in-Err.result.now)) (hops c.as_slice-in-Err.result.now) = cc in
    let n = undone_all _ _ (hops c.as_slice-in-Err.result.now) f c.live-live.ensures.counts in
    let g = c.in-Err.ensures.err ∙ c.if-increase.ensures.same in
    let v = c.self.view_is in
    (λ i. record { nhops = n i; groups = g i }) ∙ v
