use Rattle.std.proofs.Common.{refl, sym, ap, ◌∙◌, ◌<◌, arith, Option, Some, [], ◌∷◌, subst}
use Rattle.std.specs.Arc.{arc_value}
use Rattle.epoch_core.specs.declared.event.Event.TheVariants as event
use Rattle.epoch_core.specs.History.{OneMore}
use Rattle.epoch_core.specs.Rule.{at_key, names_at_key, slot_of, own, announcement_word}
use Rattle.epoch_core.specs.Step.{left_own}
use Rattle.epoch_core.proofs.EntrySteps.{leaving_at}
use Rattle.epoch_core.proofs.SeatLemmas.{role_of, carries, after_exchange, after_leaves, room}
use Rattle.prefix_width.specs.Limits.{last_index}
use Rattle.epoch_core.proofs.reader.Standing.leave.Goals as goal

pub store-requires : goal.store-requires
store-requires g c = let inv = c.self.invariant in let at = ap (λ t. t.shared.table_id) (sym c.deref.ensures) in
    let moved = c.exchange.ensures in let out_all = after_exchange _ _ c.self.inside.place c.exchange.new.seat _ _ _ _ inv.reader moved.0 _ _ moved.3 in let out = out_all.0 in
    let near : c.self.inside.index < 64 = inv.reader.number in (
      out.reader.table ∙ at,
      room _ _ _ _ inv.reader.sized at (announcement_word c.self.inside.index) (omega arith),
      leaving_at g.row.K (last_index g.row.K g.row.LIVE) inv.reader.sized.0.0.0 (at_key (λ q v c'. g.T.Lawful.is_lawful q v (arc_value c'))) (names_at_key g.T.Lawful.names) _ _ _ _ _ c.self.inside.index (own c.exchange.new.seat) _ c.self.inside.version c.self.inside.value _ (role_of _ _ _ _ _ _ _ out.reader)
          (ap (λ o. o.phase) out.facts ∙ inv.holding) (carries _ _ _ _ _ _ _ out.reader ∙ ap (λ k. (k, Some c.self.inside.value) ∷ []) c.slot_of.ensures)
          (let P = λ (q : Option g.row.Q.Denot). at_key (λ q v c'. g.T.Lawful.is_lawful q v (arc_value c')) q c.self.inside.version c.self.inside.value in subst P (sym out.reader.keyed) inv.fair) refl,
    )

pub invariant_of-result : goal.invariant_of-result
invariant_of-result g c = let inv = c.self.invariant in
    let moved = c.exchange.ensures in let out_all = after_exchange _ _ c.self.inside.place c.exchange.new.seat _ _ _ _ inv.reader moved.0 _ _ moved.3 in let out = out_all.0 in
    let went = c.store.ensures in let now = (after_leaves _ _ c.exchange.new.seat c.store.new.seat _ _ _ _ out.reader went.0 went.2).0 in record {
      reader = now.reader;
      idle = ap (λ o. o.phase) now.facts;
      seen = ap (λ o. o.seen) (now.facts ∙ ap left_own out.facts) ∙ inv.seen;
    }

pub returns-clause-step : goal.returns-clause-step
returns-clause-step g c = let inv = c.self.invariant in
    let moved = c.exchange.ensures in let out_all = after_exchange _ _ c.self.inside.place c.exchange.new.seat _ _ _ _ inv.reader moved.0 _ _ moved.3 in
    let went = c.store.ensures in let now = after_leaves _ _ c.exchange.new.seat c.store.new.seat _ _ _ _ out_all.0.reader went.0 went.2 in
    subst (λ v. OneMore v.seat.steps (event.Leave v.seat.number) 0 c.store.new.seat.me.0.steps) c.self.view_is
    (subst (λ l. OneMore l (event.Leave c.self.inside.index) 0 c.store.new.seat.me.0.steps) out_all.1 now.1)
