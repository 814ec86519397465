use Rattle.std.proofs.Common.{lit<, Some, refl, arith}
use Rattle.radix_lockless.proofs.PlanLemmas.{differ_weaker, differ_write, leaf_plan, nodes_at, plan_done, plan_there}
use Rattle.radix_lockless.proofs.add.add_leaf.Goals as goal

pub relink-requires : goal.relink-requires
relink-requires g c =
    let old = c.args.trie.now in
    let mid = record old { nodes = c.put-key.new.self } in
    (lit< tt, (lit< tt, plan_there old mid _ _ _ _ (leaf_plan old mid c.args.prefix.now c.args.index c.args.spot.now c.put-key.result c.requires.spot c.requires.none c.requires.block c.put-key.ensures.vacant c.put-key.ensures.updates refl)))

pub returns-clause-change : goal.returns-clause-change
returns-clause-change g c =
    let old = c.args.trie.now in
    let mid = record old { nodes = c.put-key.new.self } in
    let plan = leaf_plan old mid c.args.prefix.now c.args.index c.args.spot.now c.put-key.result c.requires.spot c.requires.none c.requires.block c.put-key.ensures.vacant c.put-key.ensures.updates refl in
    let spare = c.put-key.ensures.spare in
    plan_done old mid c.relink.new.trie c.args.prefix.now (Some c.args.index) c.args.spot.now.parent (Some c.put-key.result) plan c.requires.block.2
    (differ_weaker 1 2 (nodes_at old) (nodes_at mid) (omega arith) (differ_write old.nodes.slots mid.nodes.slots c.put-key.result _ c.put-key.ensures.updates))
    (omega (arith, spare)) c.relink.ensures.spare c.relink.ensures.link
