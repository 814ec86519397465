use Rattle.std.proofs.Common.{◌≡◌, ◌+◌, drop, subst, sym}
use Rattle.prefix_width.specs.Order.{hop_cmp}
use Rattle.counted_map.specs.Counts.{Counts, unlinked}
use Rattle.prefix_width.specs.Nexthop.{Hop}
use Rattle.rib_store.proofs.LinkingLemmas.{Unlinking, unlinking_more, drop_first}
use Rattle.rib_store.proofs.links.unlink_all.Goals as goal

pub loop-path-preserved : goal.loop-path-preserved
loop-path-preserved g c =
    let w = drop_first c.args.paths.now c.loop-path.path-index c.path-item.result c.loop-path-test.true c.path-item.is in
    let f : c.unlink.new.self ≡ unlinked hop_cmp c.loop-path.nhops c.path-item.result.nexthop =
    let x = c.nexthop.ensures in let e = c.unlink.ensures in cc in
    subst (λ (n : Counts Hop). Unlinking c.args.nhops.now n (drop (c.loop-path.path-index + 1) c.args.paths.now) c.args.paths.now) (sym f)
    (unlinking_more _ _ _ _ _ _ w c.loop-path.invariant)
