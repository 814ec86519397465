use Rattle.std.proofs.Common.{◌≡◌, ◌<◌, ◌≤◌, ◌+◌, ℕ, List, refl, sym, ap, ◌∙◌, arith, Option, Some, length, subst, lit<}
use Rattle.std.specs.Prelude.{slice_index_or}
use Rattle.std.specs.Arc.{arc_value}
use Rattle.std.specs.Vec.{with_items}
use Rattle.std.proofs.lemmas.List.{with_items_is}
use Rattle.atomic_table.specs.Seated.{TableId}
use Rattle.prefix_width.specs.Limits.{last_index}
use Rattle.epoch_core.specs.Counts.{hits_of, rising_counts}
use Rattle.epoch_core.specs.Rule.{at_key, names_at_key, control_own, IsSized}
use Rattle.epoch_core.specs.SeatViews.{IsBooked}
use Rattle.epoch_core.specs.declared.view.ControlOwn.{ControlOwn}
use Rattle.epoch_core.proofs.ClosingLemmas.{closing_at}
use Rattle.epoch_core.proofs.SeatLemmas.{room}
use Rattle.epoch_core.proofs.TallyLemmas.{rising_same}
use Rattle.epoch_core.proofs.control.ControlSeat.finish.Goals as goal

pub tally_all-requires : goal.tally_all-requires
tally_all-requires g c = let inv = c.self.invariant in
    let at = ap (λ t. t.shared.table_id) (sym c.deref.ensures) in
    let G : ℕ = last_index g.row.K g.row.LIVE in
    let last : c.from-words.result ≡ G = c.from-words.ensures ∙ c.last_index.ensures in
    let same : c.from-words.result ≡ c.last_index.result = c.from-words.ensures in
    let low = c.last_index.type_inv in (
      lit< tt,
      (
        (inv.table ∙ at, subst (λ (z : TableId). IsSized g.row.K g.row.LIVE z) (sym inv.table) inv.sized),
        (
          inv.role,
          (
            subst (λ v. v.own.readers ≤ length v.own.ended) (sym c.self.view_is) c.requires.ended,
            (
              (ap (λ n. n + 1) last, omega arith),
              (
                inv.clear.1,
                subst (λ (l : List ℕ). IsBooked (control_own c.self.inside.place) l) (sym c.deref_mut.ensures.value) inv.books,
              ),
            ),
          ),
        ),
      ),
    )

pub load-version-requires : goal.load-version-requires
load-version-requires g c = let inv = c.self.invariant in let tallied = c.tally_all.ensures in
    let at = ap (λ t. t.shared.table_id) (sym c.deref-2.ensures) in (
      tallied.seat.0 ∙ (inv.table ∙ at),
      room _ _ _ _ inv.sized at 0 (lit< tt),
      closing_at g.row.K (last_index g.row.K g.row.LIVE) inv.sized.0.0.0 (at_key (λ q v c'. g.T.Lawful.is_lawful q v (arc_value c'))) (names_at_key g.T.Lawful.names) _ _ _ _ (control_own c.tally_all.new.place) tallied.role,
    )

pub gather-requires : goal.gather-requires
gather-requires g c = let inv = c.self.invariant in let tallied = c.tally_all.ensures in
    let whole : (with_items c.self.inside.booked c.tally_all.new.counts).items ≡ c.tally_all.new.counts = with_items_is c.self.inside.booked c.tally_all.new.counts (c.tally_all.auto.counts ∙ c.deref_mut.ensures.len) in
    let long : length c.deref-3.result.now ≡ (control_own c.tally_all.new.place).numbers + 1 = ap (λ l. length l) (c.deref-3.ensures.value ∙ whole) ∙ tallied.counts.long in
    let numbers : (control_own c.tally_all.new.place).numbers ≡ c.args.self.own.numbers = ap (λ o. o.numbers) tallied.own ∙ ap (λ v. v.own.numbers) c.self.view_is in
    let most : (control_own c.self.inside.place).numbers ≤ 1048576 = inv.names_fit.few in
    let before : (control_own c.self.inside.place).numbers ≡ c.args.self.own.numbers = ap (λ v. v.own.numbers) c.self.view_is in
    let space = c.requires.list.1 in
    record { empty = c.requires.list.0; room = (omega arith, omega arith) }

pub returns-clause-counts : goal.returns-clause-counts
returns-clause-counts g c = let inv = c.self.invariant in let tallied = c.tally_all.ensures in
    let d = control_own c.tally_all.new.place in
    let told = c.load-version.ensures.2.1 d tallied.role in
    let whole : (with_items c.self.inside.booked c.tally_all.new.counts).items ≡ c.tally_all.new.counts = with_items_is c.self.inside.booked c.tally_all.new.counts (c.tally_all.auto.counts ∙ c.deref_mut.ensures.len) in
    let items : c.deref-3.result.now ≡ c.tally_all.new.counts = c.deref-3.ensures.value ∙ whole in
    let long = tallied.counts.long in
    let ended : d.ended ≡ c.args.self.own.ended = ap (λ o. o.ended) tallied.own ∙ ap (λ v. v.own.ended) c.self.view_is in
    let numbers : d.numbers ≡ c.args.self.own.numbers = ap (λ o. o.numbers) tallied.own ∙ ap (λ v. v.own.numbers) c.self.view_is in
    let many : d.readers ≤ length d.ended = subst (λ (o : ControlOwn). o.readers ≤ length o.ended) (sym tallied.own) (subst (λ v. v.own.readers ≤ length v.own.ended) (sym c.self.view_is) c.requires.ended) in
    let sums = told.4 many tallied.tallied in
    c.gather.ensures
    ∙ (ap (λ (l : List ℕ). rising_counts (λ p. slice_index_or l p 0) (length l)) items
    ∙ (ap (rising_counts (λ p. slice_index_or c.tally_all.new.counts p 0)) long
    ∙ (rising_same (λ p. slice_index_or c.tally_all.new.counts p 0) (λ p. hits_of p d.ended) (d.numbers + 1) (λ p l. tallied.counts.each p (omega arith) ∙ sym (sums p))
    ∙ (λ i. rising_counts (λ p. hits_of p (ended i)) (numbers i + 1)))))

pub returns-clause-none_above : goal.returns-clause-none_above
returns-clause-none_above g c = let inv = c.self.invariant in let tallied = c.tally_all.ensures in
    let d = control_own c.tally_all.new.place in
    let told = c.load-version.ensures.2.1 d tallied.role in
    let ended : d.ended ≡ c.args.self.own.ended = ap (λ o. o.ended) tallied.own ∙ ap (λ v. v.own.ended) c.self.view_is in
    let numbers : d.numbers ≡ c.args.self.own.numbers = ap (λ o. o.numbers) tallied.own ∙ ap (λ v. v.own.numbers) c.self.view_is in
    let many : d.readers ≤ length d.ended = subst (λ (o : ControlOwn). o.readers ≤ length o.ended) (sym tallied.own) (subst (λ v. v.own.readers ≤ length v.own.ended) (sym c.self.view_is) c.requires.ended) in
    let sums = told.4 many tallied.tallied in
    λ p l. sym (ap (hits_of p) ended) ∙ (sums p ∙ tallied.counts.above p (omega arith))
