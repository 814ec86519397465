use Rattle.std.proofs.Common.{refl, ◌≡◌, ◌<◌, ◌+◌, lit<, ℕ, List, sym, ap, ◌∙◌, arith, true, Option, Some, subst}
use Rattle.std.specs.Arc.{arc_value}
use Rattle.epoch_core.specs.declared.event.Event.TheVariants as event
use Rattle.epoch_core.specs.declared.view.Made.{Made}
use Rattle.epoch_core.specs.History.{OneMore, EnterSteps}
use Rattle.epoch_core.specs.Rule.{at_key, names_at_key, slot_of, own, announcement_word}
use Rattle.epoch_core.specs.declared.view.Role.TheVariants.{Reader}
use Rattle.epoch_core.specs.Plays.{view}
use Rattle.epoch_core.specs.Step.{has_pair, looked_own, announced_own, entered_own}
use Rattle.epoch_core.specs.declared.view.Phase.TheVariants.{Holding}
use Rattle.epoch_core.proofs.EntrySteps.{may_take}
use Rattle.epoch_core.proofs.ReaderSteps.{may_load, announcing_at}
use Rattle.epoch_core.proofs.SeatLemmas.{role_of, carries, after_looks, after_announces, after_enters, after_exchange, in_hand_at, same_value, renumber, room}
use Rattle.prefix_width.specs.Limits.{last_index}
use Rattle.epoch_core.proofs.reader.ReaderSeat.enter.Goals as goal

pub load-found-requires : goal.load-found-requires
load-found-requires g c = let inv = c.self.invariant in let at = ap (λ t. t.shared.table_id) (sym c.deref.ensures) in (
  inv.reader.table ∙ at,
  room _ _ _ _ inv.reader.sized at 0 (lit< tt),
  may_load g.row.K (last_index g.row.K g.row.LIVE) inv.reader.sized.0.0.0 (at_key (λ q v c'. g.T.Lawful.is_lawful q v (arc_value c'))) (names_at_key g.T.Lawful.names) _ _ _ _ _ (own c.self.inside.place) (role_of _ _ _ _ _ _ _ inv.reader) inv.idle,
)

pub store-requires : goal.store-requires
store-requires g c = let inv = c.self.invariant in let at = ap (λ t. t.shared.table_id) (sym c.deref.ensures) in
    let looked = c.load-found.ensures in let now = after_looks _ _ c.self.inside.place c.load-found.new.seat _ _ _ _ inv.reader looked.0 _ looked.2 in
    let near : c.self.inside.index < 64 = inv.reader.number in (
      now.0.reader.table ∙ at,
      room _ _ _ _ inv.reader.sized at (announcement_word c.self.inside.index) (omega arith),
      announcing_at g.row.K (last_index g.row.K g.row.LIVE) inv.reader.sized.0.0.0 (at_key (λ q v c'. g.T.Lawful.is_lawful q v (arc_value c'))) (names_at_key g.T.Lawful.names) _ _ _ _ _ _ c.self.inside.index (own c.load-found.new.seat) (role_of _ _ _ _ _ _ _ now.0.reader)
          (ap (λ o. o.phase) now.0.facts ∙ inv.idle) refl (ap (λ o. o.last + 1) (sym now.0.facts)),
    )

pub load-current-requires : goal.load-current-requires
load-current-requires g c = let inv = c.self.invariant in let at = ap (λ t. t.shared.table_id) (sym c.deref.ensures) in
    let looked = c.load-found.ensures in let now = after_looks _ _ c.self.inside.place c.load-found.new.seat _ _ _ _ inv.reader looked.0 _ looked.2 in
    let stood = c.store.ensures in let then_all = after_announces _ _ c.load-found.new.seat c.store.new.seat _ _ _ _ now.0.reader stood.0 stood.2 in let then = then_all.0 in (
      then.reader.table ∙ at,
      room _ _ _ _ then.reader.sized at 0 (lit< tt),
      may_take g.row.K (last_index g.row.K g.row.LIVE) inv.reader.sized.0.0.0 (at_key (λ q v c'. g.T.Lawful.is_lawful q v (arc_value c'))) (names_at_key g.T.Lawful.names) _ _ _ _ _ (own c.store.new.seat) _ (role_of _ _ _ _ _ _ _ then.reader) (ap (λ o. o.phase) then.facts),
    )

pub exchange-requires : goal.exchange-requires
exchange-requires g c = let inv = c.self.invariant in let at = ap (λ t. t.shared.table_id) (sym c.deref.ensures) in
    let looked = c.load-found.ensures in let now = after_looks _ _ c.self.inside.place c.load-found.new.seat _ _ _ _ inv.reader looked.0 _ looked.2 in
    let stood = c.store.ensures in let then_all = after_announces _ _ c.load-found.new.seat c.store.new.seat _ _ _ _ now.0.reader stood.0 stood.2 in let then = then_all.0 in
    let entered = c.load-current.ensures in let in_ = after_enters _ _ c.store.new.seat c.load-current.new.seat _ _ _ _ then.reader entered.0 (at_key (λ q v c'. g.T.Lawful.is_lawful q v (arc_value c'))) (names_at_key g.T.Lawful.names) _ _ entered.2 in (
      in_.1.reader.table ∙ at,
      in_hand_at _ _ _ _ _ (carries _ _ _ _ _ _ _ in_.1.reader) c.slot_of.ensures,
    )

pub invariant_of-result : goal.invariant_of-result
invariant_of-result g c = let inv = c.self.invariant in
    let looked = c.load-found.ensures in let now = after_looks _ _ c.self.inside.place c.load-found.new.seat _ _ _ _ inv.reader looked.0 _ looked.2 in
    let stood = c.store.ensures in let then_all = after_announces _ _ c.load-found.new.seat c.store.new.seat _ _ _ _ now.0.reader stood.0 stood.2 in let then = then_all.0 in
    let entered = c.load-current.ensures in let in_ = after_enters _ _ c.store.new.seat c.load-current.new.seat _ _ _ _ then.reader entered.0 (at_key (λ q v c'. g.T.Lawful.is_lawful q v (arc_value c'))) (names_at_key g.T.Lawful.names) _ _ entered.2 in
    let moved = c.exchange.ensures in let out_all = after_exchange _ _ c.load-current.new.seat c.exchange.new.seat _ _ _ _ in_.1.reader moved.0 _ _ moved.3 in let out = out_all.0 in
    let facts = out.facts ∙ (in_.1.facts ∙ ap (entered_own c.load-current.result) (then.facts ∙ ap announced_own now.0.facts)) in
    let got : c.exchange.result ≡ Some in_.0 = same_value _ _ _ _ _ _ _ (carries _ _ _ _ _ _ _ in_.1.reader) moved.2 in
    let same : c.unwrap-value.result ≡ in_.0 = cc in record {
      reader = renumber _ _ _ _ _ _ _ _ _ out.reader c.slot_of.ensures;
      holding = ap (λ o. o.phase) facts ∙ ap (λ o. Holding o.last c.load-current.result) (sym facts);
      seen = ap (λ o. o.seen) facts;
      fair = let L = at_key (λ q v c'. g.T.Lawful.is_lawful q v (arc_value c')) in subst (λ (u : Option g.row.Q.Denot × _). L u.0 c.load-current.result u.1) (λ i. (then.reader.keyed i, sym same i)) in_.2;
      within = λ i p has. in_.5 i p (subst (λ (q : Option g.row.Q.Denot). has_pair i p (names_at_key g.T.Lawful.names q c.load-current.result) ≡ true) (sym then.reader.keyed) has);
    }

-- the version that the seat says it looked at last is what the look found
last_is : (g : _) (c : goal.After-unwrap-value g) → (own c.exchange.new.seat).last ≡ c.load-found.result
last_is g c = let inv = c.self.invariant in
    let looked = c.load-found.ensures in let now = after_looks _ _ c.self.inside.place c.load-found.new.seat _ _ _ _ inv.reader looked.0 _ looked.2 in
    let stood = c.store.ensures in let then_all = after_announces _ _ c.load-found.new.seat c.store.new.seat _ _ _ _ now.0.reader stood.0 stood.2 in let then = then_all.0 in
    let entered = c.load-current.ensures in let in_ = after_enters _ _ c.store.new.seat c.load-current.new.seat _ _ _ _ then.reader entered.0 (at_key (λ q v c'. g.T.Lawful.is_lawful q v (arc_value c'))) (names_at_key g.T.Lawful.names) _ _ entered.2 in
    let moved = c.exchange.ensures in let out_all = after_exchange _ _ c.load-current.new.seat c.exchange.new.seat _ _ _ _ in_.1.reader moved.0 _ _ moved.3 in let out = out_all.0 in
    ap (λ o. o.last) (out.facts ∙ (in_.1.facts ∙ ap (entered_own c.load-current.result) (then.facts ∙ ap announced_own now.0.facts)))

pub returns-clause-history : goal.returns-clause-history
returns-clause-history g c = let inv = c.self.invariant in let L = at_key (λ q v c'. g.T.Lawful.is_lawful q v (arc_value c')) in
    let looked = c.load-found.ensures in let now = after_looks _ _ c.self.inside.place c.load-found.new.seat _ _ _ _ inv.reader looked.0 _ looked.2 in
    let stood = c.store.ensures in let then_all = after_announces _ _ c.load-found.new.seat c.store.new.seat _ _ _ _ now.0.reader stood.0 stood.2 in
    let entered = c.load-current.ensures in let in_ = after_enters _ _ c.store.new.seat c.load-current.new.seat _ _ _ _ then_all.0.reader entered.0 L (names_at_key g.T.Lawful.names) _ _ entered.2 in
    let moved = c.exchange.ensures in let out_all = after_exchange _ _ c.load-current.new.seat c.exchange.new.seat _ _ _ _ in_.1.reader moved.0 _ _ moved.3 in
    let found = ap (λ o. o.last) now.0.facts in
    let last = last_is g c in
    let l1 = c.load-found.new.seat.me.0.steps in
    let l2 = c.store.new.seat.me.0.steps in
    let r = c.self.inside.index in
    subst (λ v. EnterSteps v.number v.steps (own c.exchange.new.seat).last c.load-current.result c.exchange.new.seat.me.0.steps) c.self.view_is
    (subst (λ (u : ℕ × List Made). EnterSteps r c.self.inside.place.me.0.steps u.0 c.load-current.result u.1) (λ i. (sym last i, sym out_all.1 i))
    (l1, l2, now.3, subst (λ n. OneMore l1 (event.Announce r) (n + 1) l2) found then_all.1, in_.4))
