use Rattle.std.proofs.Common.{◌≡◌, ◌<◌, ◌+◌, lit≤, refl, sym, ap, ◌∙◌, subst, arith, true}
use Rattle.std.specs.Arc.{arc_value}
use Rattle.epoch_core.specs.Rule.{at_key, names_at_key, control_own, announcement_word}
use Rattle.epoch_core.specs.declared.event.Event.TheVariants as event
use Rattle.epoch_core.specs.History.{OneMore}
use Rattle.epoch_core.specs.Plays.{view}
use Rattle.epoch_core.specs.Step.{may_pass}
use Rattle.epoch_core.proofs.ControlSteps.{scanning_at}
use Rattle.epoch_core.proofs.SeatLemmas.{room}
use Rattle.epoch_core.proofs.ControlLemmas.{found_low, passed_on, scanned_is, scanned_step}
use Rattle.prefix_width.specs.Limits.{last_index}
use Rattle.epoch_core.proofs.control.ControlSeat.scan.Goals as goal

pub load-stands-requires : goal.load-stands-requires
load-stands-requires g c = let inv = c.self.invariant in let at = ap (λ t. t.shared.table_id) (sym c.deref.ensures) in let counts = inv.counts in let numbers = inv.numbers in let asked = c.requires in
    let desk_is = ap (λ s. s.own) c.self.view_is in let more : (control_own c.self.inside.place).passed < (control_own c.self.inside.place).readers = rw desk_is asked in let word = c.from-reader.ensures in
    let index : c.from-reader.result ≡ (control_own c.self.inside.place).passed = word ∙ sym numbers.1 in (
      inv.table ∙ at,
      room _ _ _ _ inv.sized at (announcement_word c.from-reader.result) (omega arith),
      scanning_at g.row.K (last_index g.row.K g.row.LIVE) inv.sized.0.0.0 (at_key (λ q v c'. g.T.Lawful.is_lawful q v (arc_value c'))) (names_at_key g.T.Lawful.names) _ _ _ _ _ (control_own c.self.inside.place) inv.role more (ap (λ k. announcement_word k) index),
    )

pub may_go-requires-clause-numbers : goal.may_go-requires-clause-numbers
may_go-requires-clause-numbers g c = let inv = c.self.invariant in let did = c.load-stands.ensures in let l = found_low _ _ (at_key (λ q v c'. g.T.Lawful.is_lawful q v (arc_value c'))) (names_at_key g.T.Lawful.names) c.self.inside.place c.load-stands.new.seat _ _ _ _ _ _ inv did.0 _ did.2 in (inv.low, l)

pub invariant_of-self : goal.invariant_of-self
invariant_of-self g c = let inv = c.self.invariant in let did = c.load-stands.ensures in let desk_is = ap (λ s. s.own) c.self.view_is in let asked = c.requires in
    let more : (control_own c.self.inside.place).passed < (control_own c.self.inside.place).readers = rw desk_is asked in let counts = inv.counts in let numbers = inv.numbers in
    let may : may_pass g.row.K c.self.inside.version c.load-stands.result ≡ true = cc in
    (passed_on _ _ (at_key (λ q v c'. g.T.Lawful.is_lawful q v (arc_value c'))) (names_at_key g.T.Lawful.names) c.self.inside.place c.load-stands.new.seat _ _ _ _ _ _ inv did.0 _ did.2 may (omega arith)).0

-- the scan is the control's last step
step_made : (g : _) (c : goal.After-load-stands g) → ((control_own c.load-stands.new.seat).found.0 ≡ c.args.self.now.own.passed) × OneMore c.args.self.now.steps (event.Scan c.args.self.now.own.passed) (control_own c.load-stands.new.seat).found.1 c.load-stands.new.seat.me.0.steps
step_made g c = let inv = c.self.invariant in let did = c.load-stands.ensures in
    let L = at_key (λ q v c'. g.T.Lawful.is_lawful q v (arc_value c')) in
    let now = scanned_is _ _ L (names_at_key g.T.Lawful.names) c.self.inside.place c.load-stands.new.seat _ _ _ _ _ _ inv did.0 _ did.2 in
    let one = scanned_step _ _ L (names_at_key g.T.Lawful.names) c.self.inside.place c.load-stands.new.seat _ _ _ _ _ _ inv did.0 _ did.2 in
    let l = c.load-stands.new.seat.me.0.steps in
    let at : (control_own c.load-stands.new.seat).found ≡ ((control_own c.self.inside.place).passed, c.load-stands.result) = ap (λ d. d.found) now in
    subst (λ v. ((control_own c.load-stands.new.seat).found.0 ≡ v.own.passed) × OneMore v.steps (event.Scan v.own.passed) (control_own c.load-stands.new.seat).found.1 l) c.self.view_is
    (ap (λ p. p.0) at, subst (λ n. OneMore c.self.inside.place.me.0.steps (event.Scan (control_own c.self.inside.place).passed) n l) (ap (λ p. p.1) (sym at)) one)

pub returns-then-may_go-clause-step : goal.returns-then-may_go-clause-step
returns-then-may_go-clause-step g c = step_made g c.before.before.before

pub returns-else-may_go-clause-step : goal.returns-else-may_go-clause-step
returns-else-may_go-clause-step g c = step_made g c.before.before

pub may_go-requires-clause-banks : goal.may_go-requires-clause-banks
may_go-requires-clause-banks g c = let inv = c.self.invariant in inv.sized.0.0
