use Rattle.std.proofs.Common.{lit<, sym, ◌∙◌}
use Rattle.std.specs.Arc.{arc_value}
use Rattle.fib_pass.proofs.ApartLemmas.{seats_table}
use Rattle.fib_pass.proofs.CloseLemmas.{counts_within, few_ends, numbers_are, order_fits, packets_right}
use Rattle.fib_pass.proofs.publisher.Publisher.end.Goals as goal

pub close-requires : goal.close-requires
close-requires g c =
    (lit< tt, (lit< tt, (lit< tt, seats_table c.take_apart-seats.result.0.items c.args.passes.items c.into_parts-seat.result.0.table c.args.self.table c.take_apart-seats.ensures.seats (λ i. (c.into_parts-seat.ensures.seat i).table) c.requires.table)))

pub fill-requires : goal.fill-requires
fill-requires g c =
    let key = c.args.self.key in
    let passes = c.args.passes.items in
    let sheet = c.args.sheet in
    let is = c.requires.sheet in
    let numbers = numbers_are g.row.K (arc_value c.into_parts-seat.result.1) c.into_parts-seat.result.0 c.args.self c.into_parts-seat.ensures.seat c.into_parts-seat.ensures.publisher in
    let within = counts_within key passes sheet is c.into_parts-seat.result.0.own.numbers _ c.in-Ok.closed.counts.items numbers c.in-Ok.ensures.counts in
    let few = few_ends key passes sheet is c.args.self.own.readers c.into_parts-seat.result.0.own.readers c.take_apart-seats.result.0.items c.take_apart-seats.ensures.seats c.in-Ok.ensures.all.count (λ i. (c.into_parts-seat.ensures.seat i).own.readers) c.requires.few in
    (lit< tt, (lit< tt, (within, ((_, is.places), (order_fits key passes sheet is, (is.packets, (few, is.few)))))))

pub returns-in-Ok-clause-packets : goal.returns-in-Ok-clause-packets
returns-in-Ok-clause-packets g c =
    let numbers = numbers_are g.row.K (arc_value c.into_parts-seat.result.1) c.into_parts-seat.result.0 c.args.self c.into_parts-seat.ensures.seat c.into_parts-seat.ensures.publisher in
    c.fill.ensures.packets
    ∙ packets_right c.args.self.key c.args.passes.items c.args.sheet c.requires.sheet c.into_parts-seat.result.0.own.numbers c.take_apart-seats.result.0.items c.in-Ok.closed.counts.items numbers c.take_apart-seats.ensures.seats c.in-Ok.ensures.counts
