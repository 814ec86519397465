use Rattle.std.proofs.Common.{◌≤◌, lit≤, lit<, sym, ap, ◌∙◌, subst}
use Rattle.std.specs.Arc.{arc_value}
use Rattle.epoch_core.specs.declared.event.Event.TheVariants as event
use Rattle.epoch_core.specs.History.{OneMore}
use Rattle.epoch_core.specs.Rule.{at_key, names_at_key, own}
use Rattle.epoch_core.proofs.ReaderSteps.{may_load}
use Rattle.epoch_core.proofs.SeatLemmas.{role_of, after_looks, room}
use Rattle.prefix_width.specs.Limits.{last_index}
use Rattle.epoch_core.proofs.reader.ReaderSeat.look.Goals as goal

pub load-found-requires : goal.load-found-requires
load-found-requires g c = let inv = c.self.invariant in let at = ap (λ t. t.shared.table_id) (sym c.deref.ensures) in (
  inv.reader.table ∙ at,
  room _ _ _ _ inv.reader.sized at 0 (lit< tt),
  may_load g.row.K (last_index g.row.K g.row.LIVE) inv.reader.sized.0.0.0 (at_key (λ q v c'. g.T.Lawful.is_lawful q v (arc_value c'))) (names_at_key g.T.Lawful.names) _ _ _ _ _ (own c.self.inside.place) (role_of _ _ _ _ _ _ _ inv.reader) inv.idle,
)

pub invariant_of-self : goal.invariant_of-self
invariant_of-self g c = let inv = c.self.invariant in let did = c.load-found.ensures in let now = after_looks _ _ c.self.inside.place c.load-found.new.seat _ _ _ _ inv.reader did.0 _ did.2 in record {
  reader = now.0.reader;
  idle = ap (λ o. o.phase) now.0.facts ∙ inv.idle;
  seen = ap (λ o. o.seen) now.0.facts;
}

pub returns-clause-step : goal.returns-clause-step
returns-clause-step g c = let inv = c.self.invariant in let did = c.load-found.ensures in let now = after_looks _ _ c.self.inside.place c.load-found.new.seat _ _ _ _ inv.reader did.0 _ did.2 in
    subst (λ v. OneMore v.steps (event.Look v.number) c.load-found.result c.load-found.new.seat.me.0.steps) c.self.view_is now.3
