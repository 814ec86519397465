use Rattle.std.proofs.Common.{◌≡◌, ◌<◌, ◌≤◌, ◌+◌, ◌*◌, ◌/◌, ◌%◌, ℕ, suc, List, ◌∷◌, map, refl, sym, ap, ◌∙◌, arith, Option, Some, length, subst, set, get_or}
use Rattle.std.specs.Arc.{arc_value}
use Rattle.prefix_width.specs.Limits.{last_index}
use Rattle.epoch_core.specs.Counts.{from_greatest, IsCounted}
use Rattle.epoch_core.specs.Rule.{at_key, names_at_key, control_own, index_word}
use Rattle.epoch_core.specs.declared.view.ControlOwn.{ControlOwn}
use Rattle.epoch_core.proofs.SeatLemmas.{word_room}
use Rattle.epoch_core.proofs.TallyLemmas.{after_tally, counted_after, tallied_length, tallied_more}
use Rattle.epoch_core.proofs.WordSteps.{tallying_at}
use Rattle.epoch_core.proofs.words.tally.Goals as goal

pub load-found-requires : goal.load-found-requires
load-found-requires g c = let asked = c.requires in let sized = asked.table.1 in let G : ℕ = last_index g.row.K g.row.LIVE in let low = asked.index.0 in (
  asked.table.0,
  word_room _ _ _ _ asked.table.1 asked.table.0 (index_word c.args.index) (omega arith),
  tallying_at g.row.K (last_index g.row.K g.row.LIVE) sized.0.0.0 (at_key (λ q v c'. g.T.Lawful.is_lawful q v (arc_value c'))) (names_at_key g.T.Lawful.names) _ _ _ _ c.args.index _ (control_own c.args.place.now) asked.role asked.ended low refl,
)

pub bounds-counts-number : goal.bounds-counts-number
bounds-counts-number g c =
    let d = after_tally c.args.place.now c.load-found.new.seat _ c.args.index c.load-found.result c.requires.role refl c.load-found.ensures.2 in
    let low = d.number in let long = c.requires.counts.long in omega arith

pub overflow_add-counts : goal.overflow_add-counts
overflow_add-counts g c =
    let d = after_tally c.args.place.now c.load-found.new.seat _ c.args.index c.load-found.result c.requires.role refl c.load-found.ensures.2 in
    let low = d.number in let few = d.small in
    let each = c.requires.counts.each (c.load-found.result / 4294967296) low in
    let booked = d.booked (c.load-found.result / 4294967296) in
    let tallied = c.requires.counts.small (c.load-found.result / 4294967296) in
    let many : length (control_own c.args.place.now).tallied ≡ c.args.index = tallied_length _ _ c.requires.tallied in
    let index = c.requires.index.1 in
    omega arith

pub bounds-counts-number-2 : goal.bounds-counts-number-2
bounds-counts-number-2 g c =
    let d = after_tally c.args.place.now c.load-found.new.seat _ c.args.index c.load-found.result c.requires.role refl c.load-found.ensures.2 in
    let low = d.number in let long = c.requires.counts.long in omega arith

pub returns-clause-seat : goal.returns-clause-seat
returns-clause-seat g c =
    let d = after_tally c.args.place.now c.load-found.new.seat _ c.args.index c.load-found.result c.requires.role refl c.load-found.ensures.2 in
    (c.load-found.ensures.0, d.slots, d.key, d.steps)

pub returns-clause-role : goal.returns-clause-role
returns-clause-role g c =
    let d = after_tally c.args.place.now c.load-found.new.seat _ c.args.index c.load-found.result c.requires.role refl c.load-found.ensures.2 in d.role

pub returns-clause-own : goal.returns-clause-own
returns-clause-own g c =
    let d = after_tally c.args.place.now c.load-found.new.seat _ c.args.index c.load-found.result c.requires.role refl c.load-found.ensures.2 in
    d.own ∙ (λ i. let o : ControlOwn = record (control_own c.args.place.now) { tallied = (sym d.own i).tallied } in o)

pub returns-clause-tallied : goal.returns-clause-tallied
returns-clause-tallied g c =
    let d = after_tally c.args.place.now c.load-found.new.seat _ c.args.index c.load-found.result c.requires.role refl c.load-found.ensures.2 in
    ap (λ (o : ControlOwn). map (λ c. c.0) o.tallied) d.own ∙ tallied_more _ _ c.load-found.result c.requires.tallied

pub returns-clause-counts : goal.returns-clause-counts
returns-clause-counts g c =
    let d = after_tally c.args.place.now c.load-found.new.seat _ c.args.index c.load-found.result c.requires.role refl c.load-found.ensures.2 in
    subst (λ (o : ControlOwn). IsCounted o (set c.args.counts.now (c.load-found.result / 4294967296) (get_or c.args.counts.now (c.load-found.result / 4294967296) 0 + c.load-found.result % 4294967296))) (sym d.own)
    (counted_after (control_own c.args.place.now) c.args.counts.now c.args.index c.load-found.result c.requires.counts d.number d.small)
