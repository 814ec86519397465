use Rattle.std.proofs.Common.{◌≡◌, ◌+◌, ◌≤◌, ap, length, vec_len, arith}
use Rattle.fib_pass.proofs.ApartLemmas.{pushed, taken_more}
use Rattle.fib_pass.proofs.closing.take_apart.Goals as goal

pub loop-pass-preserved : goal.loop-pass-preserved
loop-pass-preserved g c =
    let inv = c.loop-pass.invariant in
    let parts = c.into_parts-seat.ensures in
    let split = ap length c.in-Some.ensures.steps.0 in
    let ok = c.push.ensures.succeeds (omega arith) in
    let also = c.push-in-loop-pass.ensures.succeeds (omega arith) in
    let taken = taken_more c.args.passes.items c.loop-pass.pass-iterator.rest.items c.next.new.self.rest.items c.in-Some.pass c.loop-pass.seats.items c.push.new.self.items c.loop-pass.beside.items c.push-in-loop-pass.new.self.items
    c.into_parts-seat.result.0 c.into_parts-seat.result.1 c.in-Some.ensures.steps.0 parts.seat parts.lookups parts.pass
    (pushed _ c.push.new.self.items c.loop-pass.seats.items c.into_parts-seat.result.0 ok c.push.ensures.items)
    (pushed _ c.push-in-loop-pass.new.self.items c.loop-pass.beside.items c.into_parts-seat.result.1 also c.push-in-loop-pass.ensures.items)
    inv.seats inv.passes inv.fit in
    record {
      seats = taken.seen;
      passes = taken.whole;
      fit = taken.fit;
      seats_room = omega (arith, c.push.ensures.upper_bound, c.push.ensures.capacity, inv.seats_room);
      beside_room = omega (arith, c.push-in-loop-pass.ensures.upper_bound, c.push-in-loop-pass.ensures.capacity, inv.beside_room);
    }
