use Rattle.std.proofs.Common.{◌≡◌, ◌≤◌, ap, length, lit<, sym, ◌∙◌, arith}
use Rattle.std.specs.Arc.{arc_value}
use Rattle.fib_pass.proofs.PassLemmas.{few_commands, fresh_moved, lawful_moved, published_moved, version_room}
use Rattle.fib_pass.proofs.publisher.Publisher.try_publish.Goals as goal
use Rattle.fib_pass.proofs.publisher.Publisher.try_publish.Goals.{in-Ok, in-Err}

pub try_place-requires : goal.try_place-requires
try_place-requires g c =
    let s = c.self.inside.seat in
    let values = c.ready.inside.copies.values in
    let count : length values ≡ s.own.readers = ap length (λ i. (c.ready.view_is i).values) ∙ c.requires.count ∙ (λ i. (sym c.self.view_is i).own.readers) in
    let lawful = lawful_moved g.row.K g.row.LIVE s c.args.self.now values c.args.ready.values c.self.view_is (λ i. (c.ready.view_is i).values) c.requires.lawful in
    let some : 1 ≤ length values = let one = c.self.invariant.some in omega arith in
    let few = few_commands s.key (arc_value c.self.inside.plan) c.self.invariant.keyed c.self.invariant.room in
    let room = version_room g.row.K g.row.LIVE s.key s.own.version values some few lawful in
    let fresh = fresh_moved g.row.K g.row.LIVE s c.args.self.now c.ready.inside.copies.fresh c.args.ready.fresh c.self.invariant.banks c.self.view_is (λ i. (c.ready.view_is i).fresh) c.requires.fresh in
    (lit< tt, (lit< tt, (lit< tt, (count, (lawful, (room, fresh))))))

pub returns-clause-published_last : goal.returns-clause-published_last
returns-clause-published_last g c =
    elim c.match-try_place.branch [
      | in-Ok w ↦ rw w.result-is (published_moved g.row.K g.row.LIVE c.self.inside.seat c.args.self.now c.ready.inside.copies.fresh c.args.ready.fresh _ _ c.self.view_is (λ i. (c.ready.view_is i).fresh) w.in-Ok.ensures.published_last)
      | in-Err w ↦ rw w.result-is tt
    ]
