use Rattle.std.proofs.Common.{◌≡◌, Some, refl, sym, ap, ◌∙◌, arith, lit<, subst}
use Rattle.module_trait.specs.Nodes.{Updates}
use Rattle.prefix_width.specs.Prefix.{bit_of}
use Rattle.radix_lockless.specs.declared.node.Node.{Node}
use Rattle.radix_lockless.proofs.PlanLemmas.{differ_weaker, differ_write, over_plan, nodes_at, plan_done, plan_there}
use Rattle.radix_lockless.proofs.add.add_over.Goals as goal

pub bit-right-requires : goal.bit-right-requires
bit-right-requires g c =
    let s = c.requires.shorter in
    let k = c.len-longest.ensures.block.2 in
    let e = c.len.ensures.value in
    (lit< tt, omega (arith, s, k, e))

pub relink-requires : goal.relink-requires
relink-requires g c =
    let old = c.args.trie.now in
    let mid = record old { nodes = c.put-key.new.self } in
    let w = g.row.W in
    let q = c.args.prefix.now in
    let p = c.args.entry.now.node.prefix in
    let bit : bit_of w q.len p.base ≡ c.bit-right.result = sym (c.bit-right.ensures ∙ ap (λ n. bit_of w n c.addr.result) c.len.ensures.value ∙ ap (λ a. bit_of w q.len a) c.addr.ensures) in
    let updates = subst (λ (n : Node w). Updates old.nodes.slots mid.nodes.slots c.put-key.result (Some n)) c.parted-node.ensures c.put-key.ensures.updates in
    (lit< tt, (lit< tt, plan_there old mid _ _ _ _ (over_plan old mid q c.args.index c.args.spot.now c.args.entry.now c.put-key.result c.bit-right.result c.requires.spot c.requires.here c.requires.block c.requires.shorter c.requires.covering bit c.put-key.ensures.vacant updates refl)))

pub returns-clause-change : goal.returns-clause-change
returns-clause-change g c =
    let old = c.args.trie.now in
    let mid = record old { nodes = c.put-key.new.self } in
    let w = g.row.W in
    let q = c.args.prefix.now in
    let p = c.args.entry.now.node.prefix in
    let bit : bit_of w q.len p.base ≡ c.bit-right.result = sym (c.bit-right.ensures ∙ ap (λ n. bit_of w n c.addr.result) c.len.ensures.value ∙ ap (λ a. bit_of w q.len a) c.addr.ensures) in
    let updates = subst (λ (n : Node w). Updates old.nodes.slots mid.nodes.slots c.put-key.result (Some n)) c.parted-node.ensures c.put-key.ensures.updates in
    let plan = over_plan old mid q c.args.index c.args.spot.now c.args.entry.now c.put-key.result c.bit-right.result c.requires.spot c.requires.here c.requires.block c.requires.shorter c.requires.covering bit c.put-key.ensures.vacant updates refl in
    let spare = c.put-key.ensures.spare in
    plan_done old mid c.relink.new.trie q (Some c.args.index) c.args.spot.now.parent (Some c.put-key.result) plan c.requires.block.2
    (differ_weaker 1 2 (nodes_at old) (nodes_at mid) (omega arith) (differ_write old.nodes.slots mid.nodes.slots c.put-key.result _ updates))
    (omega (arith, spare)) c.relink.ensures.spare c.relink.ensures.link
