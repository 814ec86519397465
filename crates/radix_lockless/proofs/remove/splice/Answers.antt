use Rattle.std.proofs.Common.{lit<, None, refl, arith}
use Rattle.radix_lockless.proofs.PlanLemmas.{differ_weaker, differ_write, entry_block, entry_there, nodes_at, plan_done, plan_there, splice_plan}
use Rattle.radix_lockless.proofs.remove.splice.Goals as goal

pub take-requires : goal.take-requires
take-requires g c = (lit< tt, entry_there c.args.trie.now c.args.entry.now.node.prefix c.args.spot.now c.args.entry.now c.requires.spot c.requires.here)

pub relink-requires : goal.relink-requires
relink-requires g c =
    let old = c.args.trie.now in
    let mid = record old { nodes = c.take.new.self } in
    (lit< tt, (lit< tt, plan_there old mid _ _ _ _ (splice_plan old mid c.args.spot.now c.args.entry.now c.args.child c.requires.spot c.requires.here c.requires.child c.requires.lone c.requires.free c.take.ensures.updates refl)))

pub returns-clause-change : goal.returns-clause-change
returns-clause-change g c =
    let old = c.args.trie.now in
    let mid = record old { nodes = c.take.new.self } in
    let plan = splice_plan old mid c.args.spot.now c.args.entry.now c.args.child c.requires.spot c.requires.here c.requires.child c.requires.lone c.requires.free c.take.ensures.updates refl in
    let spare = c.take.ensures.spare in
    plan_done old mid c.relink.new.trie _ None c.args.spot.now.parent c.args.child plan (entry_block old _ _ _ c.requires.spot c.requires.here).0.2
    (differ_weaker 1 2 (nodes_at old) (nodes_at mid) (omega arith) (differ_write old.nodes.slots mid.nodes.slots c.args.entry.now.key None c.take.ensures.updates))
    (omega (arith, spare)) c.relink.ensures.spare c.relink.ensures.link
