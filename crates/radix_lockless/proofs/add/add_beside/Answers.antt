use Rattle.std.proofs.Common.{lit<, ◌≡◌, Some, None, refl, sym, ap, ◌∙◌, arith, subst}
use Rattle.module_trait.specs.Nodes.{Updates}
use Rattle.prefix_width.specs.Prefix.{Block, bit_of, masked_block}
use Rattle.radix_lockless.specs.declared.node.Node.{Node}
use Rattle.radix_lockless.specs.Spot.{parted}
use Rattle.radix_lockless.proofs.PlanLemmas.{beside_plan, differ_more, differ_write, nodes_at, plan_done, plan_there}
use Rattle.radix_lockless.proofs.add.add_beside.Goals as goal

pub relink-requires : goal.relink-requires
relink-requires g c =
    let old = c.args.trie.now in
    let first = record old { nodes = c.put-leaf.new.self } in
    let mid = record old { nodes = c.put-key.new.self } in
    let w = g.row.W in
    let q = c.args.prefix.now in
    let n = c.args.len in
    let bit : bit_of w n q.base ≡ c.bit-right.result = sym (c.bit-right.ensures ∙ ap (λ a. bit_of w n a) c.addr-2.ensures) in
    let shared : c.in-Some.shared ≡ masked_block w q.base n = c.in-Some.ensures.1 ∙ ap (λ a. masked_block w a n) c.addr.ensures in
    let node = c.parted-node.ensures ∙ ap (λ (b : Block). parted b None c.bit-right.result (Some c.put-leaf.result) (Some c.args.entry.now.key)) shared in
    let updates = subst (λ (x : Node w). Updates first.nodes.slots mid.nodes.slots c.put-key.result (Some x)) node c.put-key.ensures.updates in
    (lit< tt, (lit< tt, plan_there old mid _ _ _ _ (beside_plan old first mid q c.args.index n c.args.spot.now c.args.entry.now c.put-leaf.result c.put-key.result c.bit-right.result c.requires.spot c.requires.here c.requires.block c.requires.common c.requires.first c.requires.second bit c.put-leaf.ensures.vacant c.put-leaf.ensures.updates c.put-key.ensures.vacant updates refl)))

pub returns-clause-change : goal.returns-clause-change
returns-clause-change g c =
    let old = c.args.trie.now in
    let first = record old { nodes = c.put-leaf.new.self } in
    let mid = record old { nodes = c.put-key.new.self } in
    let w = g.row.W in
    let q = c.args.prefix.now in
    let n = c.args.len in
    let bit : bit_of w n q.base ≡ c.bit-right.result = sym (c.bit-right.ensures ∙ ap (λ a. bit_of w n a) c.addr-2.ensures) in
    let shared : c.in-Some.shared ≡ masked_block w q.base n = c.in-Some.ensures.1 ∙ ap (λ a. masked_block w a n) c.addr.ensures in
    let node = c.parted-node.ensures ∙ ap (λ (b : Block). parted b None c.bit-right.result (Some c.put-leaf.result) (Some c.args.entry.now.key)) shared in
    let updates = subst (λ (x : Node w). Updates first.nodes.slots mid.nodes.slots c.put-key.result (Some x)) node c.put-key.ensures.updates in
    let plan = beside_plan old first mid q c.args.index n c.args.spot.now c.args.entry.now c.put-leaf.result c.put-key.result c.bit-right.result c.requires.spot c.requires.here c.requires.block c.requires.common c.requires.first c.requires.second bit c.put-leaf.ensures.vacant c.put-leaf.ensures.updates c.put-key.ensures.vacant updates refl in
    let spare = c.put-leaf.ensures.spare in
    let spare' = c.put-key.ensures.spare in
    plan_done old mid c.relink.new.trie q (Some c.args.index) c.args.spot.now.parent (Some c.put-key.result) plan c.requires.block.2
    (differ_more 1 1 (nodes_at old) (nodes_at first) (nodes_at mid) (differ_write old.nodes.slots first.nodes.slots c.put-leaf.result _ c.put-leaf.ensures.updates) (differ_write first.nodes.slots mid.nodes.slots c.put-key.result _ updates))
    (omega (arith, spare, spare')) c.relink.ensures.spare c.relink.ensures.link
