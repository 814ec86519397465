use Rattle.std.proofs.Common.{rules, ◌≡◌, sym, subst, IfOk, All}
use Rattle.epoch_bench.specs.Reads.{HasRead}
use Rattle.epoch_bench.proofs.Lists.{ok_at}
use Rattle.epoch_bench.proofs.beside.run_beside.Goals as goal

pub gather-requires-clause-read : goal.gather-requires-clause-read
gather-requires-clause-read g c =
    let same : c.in_ok-written.written.control.table ≡ c.in_ok-control.control.table = search rules in
    let mine = c.join-written.ensures.second.1 c.in_ok-control.control.table c.in_ok-control.ensures.table in
    let read = ok_at _ c.in_ok-reads.field-0 c.in_ok-reads.was (λ reads. All (λ r. IfOk r (HasRead c.in_ok-control.control.table c.args.rounds)) reads.items) mine in
    subst (λ table. All (λ r. IfOk r (HasRead table c.args.rounds)) c.in_ok-reads.field-0.items) (sym same) read
