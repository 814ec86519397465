use Rattle.std.proofs.Common.{get_or, arith}
use Rattle.fib_pass.proofs.CountLemmas.{packets_more}
use Rattle.fib_pass.proofs.counting.packets_in.Goals as goal

pub loop-next-preserved : goal.loop-next-preserved
loop-next-preserved g c =
    let so = c.loop-next.invariant in
    let more = c.count_packets.ensures in (
      packets_more (λ p. get_or c.args.places.now p 0) c.args.order.now c.loop-next.next c.index-order-next.result c.index-order-next-in-loop-next.result c.loop-next.packets.items c.count_packets.new.packets.items
          c.loop-next-test.true so.0 more.items,
      omega arith,
      omega arith,
    )
