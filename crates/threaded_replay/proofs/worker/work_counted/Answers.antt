-- The get of the place is the worker's next, and its answer is one more.
use Rattle.std.proofs.Common.{◌≡◌, ◌<◌, ◌+◌, ◌*◌, [], ◌∷◌, Some, rules, subst, arith, length, length-append, add-mul, refl}
use Rattle.std.specs.List.{slice_get}
use Rattle.std.proofs.lemmas.Option.{slice_get_read}
use Rattle.threaded_replay.proofs.ServingLemmas.{serve}
use Rattle.threaded_replay.proofs.worker.work_counted.Goals as goal

pub loop-j-preserved : goal.loop-j-preserved
loop-j-preserved g c =
    let inv = c.loop-j.invariant in
    let sizes = c.requires.sizes in
    let few = c.in-Some.ensures.few in
    let items = c.in_ok-push.ensures.items in
    let lt : c.loop-j.j < length c.args.asks.now = search rules in
    let more = add-mul (length c.loop-j.gots.items) 1 c.args.workers in
    let one = length-append c.loop-j.gots.items (c.in-Some.got ∷ []) in
    let ask = c.index-asks-j.result in
    let here : slice_get c.args.asks.now (c.args.job.number + length c.loop-j.gots.items * c.args.workers) ≡ Some ask =
    subst (λ k. slice_get c.args.asks.now k ≡ Some ask) inv.at (slice_get_read c.args.asks.now (length c.args.asks.now) c.loop-j.j ask refl lt c.index-asks-j.is) in
    record {
      serves = rw items (serve _ _ _ _ _ _ _ _ _ _ inv.serves here c.in-Some.ensures.served);
      at = rw items (rw one (omega (arith, inv.at, more)));
      few = omega (arith, inv.few, few.0, sizes.1);
      few6 = omega (arith, inv.few6, few.1, sizes.1);
    }

pub returns : goal.returns
returns g c =
    let inv = c.loop-j.invariant in
    rw (c.into_pass.ensures, c.into_pass-2.ensures) (record { serves = inv.serves; all = omega (arith, inv.at, c.loop-j-test.false) })
