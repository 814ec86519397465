use Rattle.std.proofs.Common.{◌≡◌, ◌<◌, ◌+◌, ◌*◌, ◌/◌, ◌%◌, ℕ, List, ◌∷◌, lit≤, refl, sym, ap, ◌∙◌, arith, Option, Some, length, subst, set, get_or}
use Rattle.std.specs.Arc.{arc_value}
use Rattle.epoch_core.specs.Rule.{at_key, names_at_key, control_own, control_own_of, index_word}
use Rattle.epoch_core.specs.declared.view.ControlOwn.{ControlOwn}
use Rattle.epoch_core.specs.SeatViews.{IsBooked}
use Rattle.epoch_core.proofs.ControlLemmas.{AfterReassign, after_reassign, books_after}
use Rattle.epoch_core.proofs.SeatLemmas.{word_room}
use Rattle.epoch_core.proofs.WordSteps.{reassigning_at}
use Rattle.prefix_width.specs.Limits.{last_index}
use Rattle.epoch_core.proofs.words.reassign.Goals as goal

pub swap-found-requires : goal.swap-found-requires
swap-found-requires g c = let asked = c.requires in let index : c.from-word.result ≡ c.args.index = c.from-word.ensures in let number = c.from.ensures in
    let low = asked.index in let G : ℕ = last_index g.row.K g.row.LIVE in (
      asked.table.0,
      word_room _ _ _ _ asked.table.1 asked.table.0 (index_word c.from-word.result) (omega arith),
      reassigning_at g.row.K (last_index g.row.K g.row.LIVE) asked.table.1.0.0.0 (at_key (λ q v c'. g.T.Lawful.is_lawful q v (arc_value c'))) (names_at_key g.T.Lawful.names) _ _ _ _ _ c.args.index c.args.number _ (control_own c.args.place.now)
          asked.role asked.passed low.0 low.1 low.2 asked.free asked.once asked.untallied (ap (λ k. index_word k) index) (ap (λ k. k * 4294967296) number),
    )

pub bounds-booked-old : goal.bounds-booked-old
bounds-booked-old g c = let swapped = c.swap-found.ensures in let d = after_reassign c.args.place.now c.swap-found.new.seat _ _ c.args.index c.args.number c.swap-found.result c.requires.role (ap (λ k. index_word k) c.from-word.ensures) (ap (λ k. k * 4294967296) c.from.ensures) swapped.2 in let l = d.number in let b = c.requires.books in let n = b.0 in omega arith

pub overflow_add-booked : goal.overflow_add-booked
overflow_add-booked g c = let swapped = c.swap-found.ensures in let d = after_reassign c.args.place.now c.swap-found.new.seat _ _ c.args.index c.args.number c.swap-found.result c.requires.role (ap (λ k. index_word k) c.from-word.ensures) (ap (λ k. k * 4294967296) c.from.ensures) swapped.2 in let l = d.number in let b = c.requires.books in let n = b.1 (c.swap-found.result / 4294967296) l in let r = d.room in omega arith

pub bounds-booked-old-2 : goal.bounds-booked-old-2
bounds-booked-old-2 g c = let swapped = c.swap-found.ensures in let d = after_reassign c.args.place.now c.swap-found.new.seat _ _ c.args.index c.args.number c.swap-found.result c.requires.role (ap (λ k. index_word k) c.from-word.ensures) (ap (λ k. k * 4294967296) c.from.ensures) swapped.2 in let l = d.number in let b = c.requires.books in let n = b.0 in omega arith

pub returns-clause-seat : goal.returns-clause-seat
returns-clause-seat g c = let did = c.swap-found.ensures in let swapped = c.swap-found.ensures in let d = after_reassign c.args.place.now c.swap-found.new.seat _ _ c.args.index c.args.number c.swap-found.result c.requires.role (ap (λ k. index_word k) c.from-word.ensures) (ap (λ k. k * 4294967296) c.from.ensures) swapped.2 in (did.0, d.slots, d.key)

pub returns-clause-role : goal.returns-clause-role
returns-clause-role g c = let swapped = c.swap-found.ensures in let d = after_reassign c.args.place.now c.swap-found.new.seat _ _ c.args.index c.args.number c.swap-found.result c.requires.role (ap (λ k. index_word k) c.from-word.ensures) (ap (λ k. k * 4294967296) c.from.ensures) swapped.2 in d.role

pub returns-clause-own : goal.returns-clause-own
returns-clause-own g c = let swapped = c.swap-found.ensures in let d = after_reassign c.args.place.now c.swap-found.new.seat _ _ c.args.index c.args.number c.swap-found.result c.requires.role (ap (λ k. index_word k) c.from-word.ensures) (ap (λ k. k * 4294967296) c.from.ensures) swapped.2 in d.own ∙ (λ i. let o : ControlOwn = record (control_own c.args.place.now) { done = (c.args.index, c.args.number) ∷ (control_own c.args.place.now).done; booked = (sym d.own i).booked } in o)

pub returns-clause-books : goal.returns-clause-books
returns-clause-books g c = let swapped = c.swap-found.ensures in let d = after_reassign c.args.place.now c.swap-found.new.seat _ _ c.args.index c.args.number c.swap-found.result c.requires.role (ap (λ k. index_word k) c.from-word.ensures) (ap (λ k. k * 4294967296) c.from.ensures) swapped.2 in
    subst (λ (o : ControlOwn). IsBooked o (set c.args.booked.now (c.swap-found.result / 4294967296) (get_or c.args.booked.now (c.swap-found.result / 4294967296) 0 + c.swap-found.result % 4294967296))) (sym d.own)
    (books_after (control_own c.args.place.now) c.args.booked.now c.args.index c.args.number c.swap-found.result c.requires.books d.number)

pub returns-clause-step : goal.returns-clause-step
returns-clause-step g c = let swapped = c.swap-found.ensures in let d = after_reassign c.args.place.now c.swap-found.new.seat _ _ c.args.index c.args.number c.swap-found.result c.requires.role (ap (λ k. index_word k) c.from-word.ensures) (ap (λ k. k * 4294967296) c.from.ensures) swapped.2 in
    (c.swap-found.result, d.step)
