use Rattle.std.proofs.Common.{◌≤◌, length, arith}
use Rattle.nhop_index.specs.Indexes.{by_index}
use Rattle.fib_sync.specs.Fresh.{new_pair}
use Rattle.fib_sync.proofs.FreshLemmas.{all_pairs, pair_more}
use Rattle.fib_sync.proofs.fresh.fresh_pairs.Goals as goal

pub loop-i-preserved : goal.loop-i-preserved
loop-i-preserved g c =
    pair_more (new_pair c.args.plan.now c.args.before.now.names) (by_index c.args.indexes.now.names) c.loop-i.i _ c.loop-i.fresh.items c.push_pair.new.fresh.items c.new_pair.result
    c.entry-index.ensures c.loop-i.invariant c.new_pair.ensures c.in_ok-push_pair.ensures

pub returns : goal.returns
returns g c =
    let end : length (by_index c.args.indexes.now.names) ≤ c.loop-i.i = omega (arith, c.loop-i-test.false, c.len-i-end.ensures.count) in
    all_pairs c.args.plan.now c.args.before.now.names c.args.indexes.now.names c.loop-i.i c.loop-i.fresh.items end c.loop-i.invariant
