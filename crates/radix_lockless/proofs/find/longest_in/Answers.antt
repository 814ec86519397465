use Rattle.std.proofs.Common.{◌+◌, ◌-◌, ◌<◌, ◌≤◌, refl, arith, sym, ◌∙◌}
use Rattle.radix_lockless.proofs.FindLemmas.{walk_begins, walk_down, walk_weaker, walk_low, ends_at_none, ends_outside, ends_deep}
use Rattle.radix_lockless.proofs.StoreLemmas.{seen_at}
use Rattle.radix_lockless.proofs.find.longest_in.Goals as goal

pub loop-at-init : goal.loop-at-init
loop-at-init g c = record {
  walk = walk_weaker _ _ _ _ _ _ _ (omega arith) (walk_begins _ _ c.args.addr.now c.requires.0 c.requires.1);
  grew = omega arith;
  few = omega arith;
}

pub loop-at-preserved : goal.loop-at-preserved
loop-at-preserved g c =
    let walk = rw c.in-Some.is at c.loop-at.invariant.walk in
    let node = g.P.NodeView.node c.at-node.result.now in
    let there = seen_at g.P.NodeView.node (g.N.NodeReads.node c.args.nodes.now) c.in-Some.key c.at-node.result.now (rw c.number.ensures at c.at-node.ensures.value) in
    let low = walk_low _ _ _ _ node _ _ walk there in
    let near : c.at-node.new.steps - c.args.steps.now ≤ node.prefix.len + 1 = omega (arith, low) in
    record {
      walk = rw (c.or-best.ensures, c.index.ensures, c.child-at.ensures) (walk_weaker _ _ _ _ _ _ _ near (walk_down _ _ _ _ _ _ _ _ walk there (sym c.contains.ensures ∙ c.if-not-contains.false) (rw c.len-len.ensures.value at (sym c.bit.ensures))));
      grew = omega arith;
      few = omega (arith, low);
    }

pub returns-then-not-contains-clause-answer : goal.returns-then-not-contains-clause-answer
returns-then-not-contains-clause-answer g c =
    let walk = rw c.in-Some.is at c.loop-at.invariant.walk in
    let there = seen_at g.P.NodeView.node (g.N.NodeReads.node c.args.nodes.now) c.in-Some.key c.at-node.result.now (rw c.number.ensures at c.at-node.ensures.value) in
    ends_outside _ _ _ _ _ _ _ walk there (sym c.contains.ensures ∙ c.if-not-contains.true)

pub returns-then-from-clause-answer : goal.returns-then-from-clause-answer
returns-then-from-clause-answer g c =
    let walk = rw c.in-Some.is at c.loop-at.invariant.walk in
    let node = g.P.NodeView.node c.at-node.result.now in
    let there = seen_at g.P.NodeView.node (g.N.NodeReads.node c.args.nodes.now) c.in-Some.key c.at-node.result.now (rw c.number.ensures at c.at-node.ensures.value) in
    let down = walk_down _ _ _ _ _ _ _ _ walk there (sym c.contains.ensures ∙ c.if-not-contains.false) refl in
    let deep : g.row.W < node.prefix.len + 1 = omega (arith, c.len-len.ensures.value) in
    rw (c.or-best.ensures, c.index.ensures) (ends_deep _ _ _ _ _ _ down deep)

pub returns-in_default-clause-answer : goal.returns-in_default-clause-answer
returns-in_default-clause-answer g c =
    let walk = rw c.in_default.is at c.loop-at.invariant.walk in
    ends_at_none _ _ _ _ _ walk
