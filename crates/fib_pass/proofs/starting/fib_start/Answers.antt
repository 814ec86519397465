use Rattle.std.proofs.Common.{List, lit<, ◌∙◌, ap, subst, sym, length}
use Rattle.std.specs.Arc.{arc_value}
use Rattle.rib_store.specs.Plan.{Planned, firsts, named}
use Rattle.fib_pass.specs.Views.{AreNewPasses, PassView}
use Rattle.fib_pass.proofs.PassLemmas.{first_seats, new_passes, start_fits, start_lawful}
use Rattle.fib_pass.proofs.starting.fib_start.Goals as goal

pub start-requires : goal.start-requires
start-requires g c =
    let key : Planned g.row.W = arc_value c.in-Ok.for_key in
    let plan : Planned g.row.W = arc_value c.args.plan.now in
    let counted = c.nexthops-numbers.ensures.count ∙ ap (λ (x : Planned g.row.W). length (firsts (named x))) c.deref-2.ensures in
    let lawful = start_lawful g.row.K g.row.LIVE plan key (arc_value c.args.first.now) c.in-Ok.ensures c.requires.lawful in
    let fits = start_fits g.row.K g.row.LIVE plan key c.nexthops-numbers.result c.requires.banks c.in-Ok.ensures counted c.nexthops-numbers.ensures.most in
    (lit< tt, (lit< tt, (c.requires.banks, (c.requires.targets, (lawful, fits)))))

pub returns-clause-passes : goal.returns-clause-passes
returns-clause-passes g c =
    let plan : Planned g.row.W = arc_value c.args.plan.now in
    let first = first_seats c.in_ok-seat.seat.table c.seated.result.table (arc_value c.in-Ok.for_key) plan c.args.passes c.in_ok-seat.seats.items (λ i. (c.seated.ensures i).table) c.in-Ok.ensures c.in_ok-seat.ensures.seats in
    subst (λ (x : List (PassView g.row.W)). AreNewPasses c.seated.result.table plan c.args.passes x) (sym c.in-Ok-passes_of.ensures) (new_passes c.seated.result.table plan c.args.passes c.in_ok-seat.seats.items first)
