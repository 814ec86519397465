use Rattle.std.proofs.Common.{lit<, Option, None, refl, arith, subst, sym}
use Rattle.radix_lockless.proofs.PlanLemmas.{IsPlan, differ_more, differ_write, entry_block, entry_there, nodes_at, plan_done, plan_there, prune_plan, prune_there}
use Rattle.radix_lockless.proofs.remove.prune.Goals as goal

pub take-requires : goal.take-requires
take-requires g c = (lit< tt, entry_there c.args.trie.now c.args.entry.now.node.prefix c.args.spot.now c.args.entry.now c.requires.spot c.requires.here)

pub take-requires-2 : goal.take-requires-2
take-requires-2 g c =
    let old = c.args.trie.now in
    let first = record old { nodes = c.take.new.self } in
    (lit< tt, prune_there old first c.args.spot.now c.args.entry.now c.args.link.now c.requires.spot c.requires.here c.requires.above c.take.ensures.updates)

pub relink-requires : goal.relink-requires
relink-requires g c =
    let old = c.args.trie.now in
    let first = record old { nodes = c.take.new.self } in
    let mid = record old { nodes = c.take-2.new.self } in
    (lit< tt, (lit< tt, plan_there old mid _ _ _ _ (prune_plan old first mid c.args.spot.now c.args.entry.now c.args.link.now c.requires.spot c.requires.here c.requires.above c.requires.bare c.requires.no_left c.requires.no_right c.take.ensures.updates c.take-2.ensures.updates refl)))

pub returns-clause-change : goal.returns-clause-change
returns-clause-change g c =
    let old = c.args.trie.now in
    let first = record old { nodes = c.take.new.self } in
    let mid = record old { nodes = c.take-2.new.self } in
    let q = c.args.entry.now.node.prefix in
    let plan = prune_plan old first mid c.args.spot.now c.args.entry.now c.args.link.now c.requires.spot c.requires.here c.requires.above c.requires.bare c.requires.no_left c.requires.no_right c.take.ensures.updates c.take-2.ensures.updates refl in
    let plan' : IsPlan old mid q None c.args.spot.now.grand c.sibling.result = subst (λ (x : Option _). IsPlan old mid q None c.args.spot.now.grand x) (sym c.sibling.ensures) plan in
    let spare = c.take.ensures.spare in
    let spare' = c.take-2.ensures.spare in
    plan_done old mid c.relink.new.trie q None c.args.spot.now.grand c.sibling.result plan' (entry_block old _ _ _ c.requires.spot c.requires.here).0.2
    (differ_more 1 1 (nodes_at old) (nodes_at first) (nodes_at mid) (differ_write old.nodes.slots first.nodes.slots c.args.entry.now.key None c.take.ensures.updates) (differ_write first.nodes.slots mid.nodes.slots c.args.link.now.key None c.take-2.ensures.updates))
    (omega (arith, spare, spare')) c.relink.ensures.spare c.relink.ensures.link
