use Rattle.std.specs.Arc.{arc_value}
use Rattle.fib_pass.proofs.PassLemmas.{passes_pushed}
use Rattle.fib_pass.proofs.starting.passes_of.Goals as goal

pub loop-seat-preserved : goal.loop-seat-preserved
loop-seat-preserved g c =
    passes_pushed (arc_value c.args.plan.now) c.loop-seat.passes.items _ _ c.in-Some.seat c.seated.result c.loop-seat.seat-iterator.rest.items c.next.new.self.rest.items
    c.in-Some.ensures.steps.0 c.seated.ensures c.in_ok-push.ensures.items c.loop-seat.invariant.0 c.loop-seat.invariant.1
