use Rattle.std.proofs.Common.{lit<}
use Rattle.fib_pass.proofs.HitLemmas.{hits, lawful_listed, moved_answer, moved_reads, pair_within, sent_index, sent_none, weighted_key}
use Rattle.fib_sync.specs.VersionNames.{names_at}
use Rattle.plan_cut.specs.VersionTable.{answer_at}
use Rattle.fib_pass.proofs.answer.answer_inside.Goals as goal

pub returns-in_default-clause-right : goal.returns-in_default-clause-right
returns-in_default-clause-right g c =
    let key = c.args.standing.now.seat.key in
    let v = c.args.standing.now.version in
    let sent = c.in_default.ensures.sent g.row.K g.row.LIVE key v (weighted_key key c.args.plan.now c.requires.plan.0 c.requires.plan.1) c.value.ensures.lawful in
    moved_answer g.row.LIVE key c.args.plan.now v c.version-version.result c.args.addr c.args.flow _ c.requires.plan.0 c.version-version.ensures
    (sent_none (names_at g.row.K g.row.LIVE key v) (answer_at g.row.LIVE key v c.args.addr c.args.flow) sent)

pub returns-in_default-clause-listed : goal.returns-in_default-clause-listed
returns-in_default-clause-listed g c =
    lawful_listed g.row.K g.row.LIVE c.args.standing.now.seat.key c.args.plan.now c.args.standing.now.version c.version-version.result c.value.result.now c.requires.plan.0 c.version-version.ensures c.value.ensures.lawful

pub returns-in_default-clause-cost : goal.returns-in_default-clause-cost
returns-in_default-clause-cost g c = λ n reads.
    let key = c.args.standing.now.seat.key in
    let v = c.args.standing.now.version in
    c.index_for.ensures.cost g.row.K g.row.LIVE key v n c.value.ensures.lawful
    (moved_reads g.row.K g.row.LIVE key c.args.plan.now v c.version-version.result n c.requires.plan.0 c.version-version.ensures reads)

pub hit-number-requires : goal.hit-number-requires
hit-number-requires g c =
    let key = c.args.standing.now.seat.key in
    let v = c.args.standing.now.version in
    let sent = c.in-Some.ensures.sent g.row.K g.row.LIVE key v (weighted_key key c.args.plan.now c.requires.plan.0 c.requires.plan.1) c.value.ensures.lawful in
    (lit< tt, (sent_index g.row.K g.row.LIVE key v c.in-Some.index c.args.addr c.args.flow sent, c.requires.room))

pub nexthop-requires : goal.nexthop-requires
nexthop-requires g c =
    let fits = pair_within g.row.K g.row.LIVE c.args.standing.now.seat.key c.args.plan.now c.args.standing.now.version c.in-Some.index c.hit-number.result c.requires.plan.0 c.hit-number.ensures.number in
    (lit< tt, (lit< tt, (fits.0, fits.1)))

pub returns-clause-listed : goal.returns-clause-listed
returns-clause-listed g c =
    lawful_listed g.row.K g.row.LIVE c.args.standing.now.seat.key c.args.plan.now c.args.standing.now.version c.version-version.result c.value.result.now c.requires.plan.0 c.version-version.ensures c.value.ensures.lawful

pub returns-clause-right : goal.returns-clause-right
returns-clause-right g c =
    let key = c.args.standing.now.seat.key in
    let v = c.args.standing.now.version in
    let sent = c.in-Some.ensures.sent g.row.K g.row.LIVE key v (weighted_key key c.args.plan.now c.requires.plan.0 c.requires.plan.1) c.value.ensures.lawful in
    (hits g.row.K g.row.LIVE key c.args.plan.now v c.version-version.result c.in-Some.index c.hit-number.result c.args.addr c.args.flow c.nexthop.result.now c.requires.plan.0 c.version-version.ensures c.hit-number.ensures.number c.nexthop.ensures sent).right

pub returns-clause-hits : goal.returns-clause-hits
returns-clause-hits g c =
    let key = c.args.standing.now.seat.key in
    let v = c.args.standing.now.version in
    let sent = c.in-Some.ensures.sent g.row.K g.row.LIVE key v (weighted_key key c.args.plan.now c.requires.plan.0 c.requires.plan.1) c.value.ensures.lawful in
    let is = hits g.row.K g.row.LIVE key c.args.plan.now v c.version-version.result c.in-Some.index c.hit-number.result c.args.addr c.args.flow c.nexthop.result.now c.requires.plan.0 c.version-version.ensures c.hit-number.ensures.number c.nexthop.ensures sent in
    (c.hit-number.result, is.number, λ i. (c.hit-number.ensures.seat i).seat.own.hits)

pub returns-clause-step : goal.returns-clause-step
returns-clause-step g c =
    let key = c.args.standing.now.seat.key in
    let v = c.args.standing.now.version in
    let sent = c.in-Some.ensures.sent g.row.K g.row.LIVE key v (weighted_key key c.args.plan.now c.requires.plan.0 c.requires.plan.1) c.value.ensures.lawful in
    let is = hits g.row.K g.row.LIVE key c.args.plan.now v c.version-version.result c.in-Some.index c.hit-number.result c.args.addr c.args.flow c.nexthop.result.now c.requires.plan.0 c.version-version.ensures c.hit-number.ensures.number c.nexthop.ensures sent in
    (c.in-Some.index, c.hit-number.ensures.step.0, is.named, c.hit-number.ensures.step.1)

pub returns-clause-cost : goal.returns-clause-cost
returns-clause-cost g c = λ n reads.
    let key = c.args.standing.now.seat.key in
    let v = c.args.standing.now.version in
    c.index_for.ensures.cost g.row.K g.row.LIVE key v n c.value.ensures.lawful
    (moved_reads g.row.K g.row.LIVE key c.args.plan.now v c.version-version.result n c.requires.plan.0 c.version-version.ensures reads)
