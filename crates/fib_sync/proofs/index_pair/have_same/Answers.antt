use Rattle.std.proofs.Common.{◌≡◌, length, arith}
use Rattle.nhop_index.specs.Indexes.{by_index}
use Rattle.fib_sync.proofs.EntriesLemmas.{same_list}
use Rattle.fib_sync.proofs.index_pair.have_same.Goals as goal

pub returns : goal.returns
returns g c = λ _.
    let same : length (by_index c.args.last.now.names) ≡ length (by_index c.args.indexes.now.names) = omega (arith, c.len-len.ensures.count, c.len.ensures.count, c.if-len.false) in
    same_list (by_index c.args.last.now.names) (by_index c.args.indexes.now.names) same
    (λ k low. c.loop-i.invariant k (omega (arith, c.loop-i-test.false, c.len-len.ensures.count)))
