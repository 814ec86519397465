use Rattle.std.proofs.Common.{rules, ◌≡◌, lit≤, lit<, refl, sym, ap, ◌∙◌, max}
use Rattle.std.specs.Arc.{arc_value}
use Rattle.epoch_core.specs.Rule.{at_key, names_at_key, own, note_number}
use Rattle.epoch_core.specs.Step.{told_own}
use Rattle.epoch_core.specs.Plays.{learnt, view}
use Rattle.epoch_core.proofs.SeatSteps.{learns_at}
use Rattle.epoch_core.proofs.SeatLemmas.{room, role_of, carries, after}
use Rattle.prefix_width.specs.Limits.{last_index}
use Rattle.epoch_core.proofs.reader.ReaderSeat.learn.Goals as goal

pub join_seat-requires : goal.join_seat-requires
join_seat-requires g c = let inv = c.self.invariant in let note = c.note.invariant in let at = ap (λ t. t.shared.table_id) (sym c.deref.ensures) in let same : c.note.inside.place.table_id ≡ c.self.inside.place.table_id = search rules in (
  inv.reader.table ∙ at,
  same ∙ (inv.reader.table ∙ at),
  note.bare,
  room _ _ _ _ inv.reader.sized at 0 (lit< tt),
  learns_at g.row.K (last_index g.row.K g.row.LIVE) inv.reader.sized.0.0.0 (at_key (λ q v c'. g.T.Lawful.is_lawful q v (arc_value c'))) (names_at_key g.T.Lawful.names) _ _ _ _ (own c.self.inside.place) _ _ (note_number c.note.inside.place) c.note.inside.version _ (role_of _ _ _ _ _ _ _ inv.reader) inv.idle note.role refl,
)

pub invariant_of-self : goal.invariant_of-self
invariant_of-self g c = let inv = c.self.invariant in let note = c.note.invariant in let did = c.join_seat.ensures in let role = role_of _ _ _ _ _ _ _ inv.reader in
    let now = after _ _ c.self.inside.place c.join_seat.new.seat _ _ _ _ _ (told_own c.note.inside.version (own c.self.inside.place)) inv.reader did.0
    (ap (λ m. m.0) did.2 ∙ (λ i. view c.self.inside.place.me.0.key (learnt (role i) (note.role i)) (ap (λ m. m.0.steps) (sym did.2) i))) (ap (λ m. m.1) did.2 ∙ carries _ _ _ _ _ _ _ inv.reader) in record {
      reader = now.reader;
      idle = ap (λ o. o.phase) now.facts ∙ inv.idle;
      seen = ap (λ o. o.seen) now.facts ∙ (ap (λ n. max n c.note.inside.version) inv.seen ∙ sym c.max-self-inside.ensures);
    }
