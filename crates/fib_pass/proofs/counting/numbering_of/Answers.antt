use Rattle.std.proofs.Common.{◌≡◌, refl, ◌+◌, length, arith}
use Rattle.rib_store.specs.Plan.{firsts, named}
use Rattle.fib_pass.proofs.NumberLemmas.{numbers_more, numbers_done, numbers_start}
use Rattle.fib_pass.proofs.counting.numbering_of.Goals as goal

pub loop-place-init : goal.loop-place-init
loop-place-init g c = numbers_start c.args.plan.now c.new-numbering.result.entries c.new-numbering.ensures.empty

pub loop-place-preserved : goal.loop-place-preserved
loop-place-preserved g c =
    numbers_more c.args.plan.now c.nexthop.result.now c.loop-place.place (c.loop-place.place + 1) c.loop-place.numbering.entries c.insert.new.self.entries
    c.nexthop.ensures refl c.in_ok-insert.ensures.entries c.loop-place.invariant

pub returns : goal.returns
returns g c =
    let all : c.loop-place.place ≡ length (firsts (named c.args.plan.now)) = omega (arith, c.nexthops-place-end.ensures.count) in
    numbers_done c.args.plan.now c.loop-place.place c.loop-place.numbering.entries all c.loop-place.invariant
