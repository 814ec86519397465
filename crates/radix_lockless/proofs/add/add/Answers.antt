use Rattle.std.proofs.Common.{lit<, ◌≡◌, ◌<◌, sym, ◌∙◌, arith}
use Rattle.radix_lockless.proofs.PlanLemmas.{beside_facts, over_facts}
use Rattle.radix_lockless.proofs.SpotLemmas.{differ_from_test}
use Rattle.radix_lockless.proofs.add.add.Goals as goal

pub add_over-requires : goal.add_over-requires
add_over-requires g c =
    let q = c.args.prefix.now in
    let entry = c.in-Some.entry in
    let differ = differ_from_test entry.node.prefix q (sym c.eq.ensures ∙ c.if-eq.false) in
    let whole : c.common_len-len.result ≡ q.len = (let t = c.if-len.true in let v = c.len.ensures.value in omega (arith, t, v)) in
    let facts = over_facts c.args.trie.now q c.args.spot.now entry c.common_len-len.result c.requires.spot c.in-Some.is c.requires.block c.common_len-len.ensures differ whole in
    (lit< tt, (lit< tt, (lit< tt, (lit< tt, (c.requires.spot, (c.in-Some.is, (facts.0, (facts.1, (c.requires.block, c.requires.room)))))))))

pub add_beside-requires : goal.add_beside-requires
add_beside-requires g c =
    let q = c.args.prefix.now in
    let entry = c.in-Some.entry in
    let differ = differ_from_test entry.node.prefix q (sym c.eq.ensures ∙ c.if-eq.false) in
    let first = beside_facts c.args.trie.now q c.args.spot.now entry c.common_len-len.result c.requires.spot c.in-Some.is c.requires.block c.common_len-len.ensures differ in
    let second : c.common_len-len.result < q.len = (let t = c.if-len.false in let v = c.len.ensures.value in let m = c.common_len-len.ensures.second in omega (arith, t, v, m)) in
    (lit< tt, (lit< tt, (lit< tt, (lit< tt, (c.requires.spot, (c.in-Some.is, (c.common_len-len.ensures, (first, (second, (c.requires.block, c.requires.room))))))))))
