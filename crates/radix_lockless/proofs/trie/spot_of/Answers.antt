use Rattle.std.proofs.Common.{◌≡◌, Some, Bool, true, false, sym, ap, ◌∙◌, arith, lit<, subst}
use Rattle.prefix_width.specs.Prefix.{bit_of}
use Rattle.module_trait.specs.Nodes.{node_at}
use Rattle.radix_lockless.proofs.SpotLemmas.{IsDescent, bits_fall, descent_begins, descent_down, descent_ends, descent_there, led}
use Rattle.radix_lockless.proofs.trie.spot_of.Goals as goal

pub loop-at-init : goal.loop-at-init
loop-at-init g c = descent_begins _ _ _ c.requires.trie.0 c.requires.trie.1

pub at-node-requires : goal.at-node-requires
at-node-requires g c =
    let d = rw c.in-Some.is at c.loop-at.invariant in
    (lit< tt, (lit< tt, descent_there _ _ _ _ _ _ d))

pub returns-then-not-leads_to : goal.returns-then-not-leads_to
returns-then-not-leads_to g c =
    let d = rw c.in-Some.is at c.loop-at.invariant in
    descent_ends _ _ _ _ _ _ c.at-node.result d c.at-node.ensures.value (sym c.leads_to.ensures ∙ c.if-not-leads_to.true)

pub bit-right-requires : goal.bit-right-requires
bit-right-requires g c =
    let l = (led g.row.W c.at-node.result.prefix c.args.prefix.now (sym c.leads_to.ensures ∙ c.if-not-leads_to.false)).0 in
    let k = c.requires.block.2 in
    let e = c.len.ensures.value in
    (lit< tt, omega (arith, l, k, e))

pub loop-at-smaller-then-right : goal.loop-at-smaller-then-right
loop-at-smaller-then-right g c =
    let d = rw c.in-Some.is at c.loop-at.invariant in
    bits_fall _ _ _ _ _ _ c.at-node.result d c.at-node.ensures.value

pub loop-at-preserved-then-right : goal.loop-at-preserved-then-right
loop-at-preserved-then-right g c =
    let d = rw c.in-Some.is at c.loop-at.invariant in
    let q = c.args.prefix.now in
    let node = c.at-node.result in
    let bit : c.bit-right.result ≡ bit_of g.row.W node.prefix.len q.base = c.bit-right.ensures ∙ ap (λ n. bit_of g.row.W n c.addr.result) c.len.ensures.value ∙ ap (λ a. bit_of g.row.W node.prefix.len a) c.addr.ensures in
    subst (λ (b : Bool). IsDescent (node_at c.args.nodes.now.slots) c.args.root q c.loop-at.parent (Some (record { key = c.in-Some.key; node = node; right = b })) node.right) (sym c.if-right.true)
    (descent_down _ _ _ _ _ _ node true d c.at-node.ensures.value (sym c.leads_to.ensures ∙ c.if-not-leads_to.false) (sym bit ∙ c.if-right.true))

pub loop-at-smaller : goal.loop-at-smaller
loop-at-smaller g c =
    let d = rw c.in-Some.is at c.loop-at.invariant in
    bits_fall _ _ _ _ _ _ c.at-node.result d c.at-node.ensures.value

pub loop-at-preserved : goal.loop-at-preserved
loop-at-preserved g c =
    let d = rw c.in-Some.is at c.loop-at.invariant in
    let q = c.args.prefix.now in
    let node = c.at-node.result in
    let bit : c.bit-right.result ≡ bit_of g.row.W node.prefix.len q.base = c.bit-right.ensures ∙ ap (λ n. bit_of g.row.W n c.addr.result) c.len.ensures.value ∙ ap (λ a. bit_of g.row.W node.prefix.len a) c.addr.ensures in
    subst (λ (b : Bool). IsDescent (node_at c.args.nodes.now.slots) c.args.root q c.loop-at.parent (Some (record { key = c.in-Some.key; node = node; right = b })) node.left) (sym c.if-right.false)
    (descent_down _ _ _ _ _ _ node false d c.at-node.ensures.value (sym c.leads_to.ensures ∙ c.if-not-leads_to.false) (sym bit ∙ c.if-right.false))
