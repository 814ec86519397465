use Rattle.std.proofs.Common.{◌≡◌, ◌<◌, ◌+◌, ◌/◌, ℕ, List, true, lit≤, refl, sym, ap, ◌∙◌, arith, Option, Some, length, subst}
use Rattle.std.specs.Arc.{arc_value}
use Rattle.epoch_core.specs.Rule.{at_key, names_at_key, own, index_word}
use Rattle.epoch_core.specs.declared.event.Event.TheVariants as event
use Rattle.epoch_core.specs.History.{OneMore}
use Rattle.epoch_core.specs.declared.view.Phase.TheVariants.{Holding}
use Rattle.epoch_core.specs.Step.{has_index, has_pair, hit_own, most_hits, version_in_hand}
use Rattle.epoch_core.specs.SeatViews.{StandingView}
use Rattle.epoch_core.proofs.SeatLemmas.{role_of, after_hits, word_room}
use Rattle.epoch_core.proofs.WordLemmas.{index_pair}
use Rattle.epoch_core.proofs.WordSteps.{hitting_at}
use Rattle.prefix_width.specs.Limits.{last_index}
use Rattle.epoch_core.proofs.reader.Standing.hit.Goals as goal

pub fetch_add-found-requires : goal.fetch_add-found-requires
fetch_add-found-requires g c = let inv = c.self.invariant in let at = ap (λ t. t.shared.table_id) (sym c.deref.ensures) in
    let value = c.self.view_is in
    let index : c.from-word.result ≡ c.args.index = c.from-word.ensures in
    let names = names_at_key g.T.Lawful.names in
    let key : c.self.inside.place.me.0.key ≡ Some (arc_value c.self.inside.board).shared.key.key = inv.reader.keyed in
    let named : has_index c.args.index (names c.self.inside.place.me.0.key c.self.inside.version) ≡ true =
    subst (λ (q : Option g.row.Q.Denot). has_index c.args.index (names q c.self.inside.version) ≡ true) (sym key)
    (subst (λ (l : List (ℕ × ℕ)). has_index c.args.index l ≡ true) (λ i. g.T.Lawful.names (sym value i).seat.key (sym value i).version) c.requires.named) in
    let few : length (own c.self.inside.place).hits < most_hits = subst (λ (l : List ℕ). length l < most_hits) (sym (ap (λ v. v.seat.own.hits) value)) c.requires.room in
    let pair = index_pair c.args.index _ named in
    let low = (inv.within c.args.index pair.0 (subst (λ (q : Option g.row.Q.Denot). has_pair c.args.index pair.0 (names q c.self.inside.version) ≡ true) key pair.1)).1 in
    let G : ℕ = last_index g.row.K g.row.LIVE in (
      inv.reader.table ∙ at,
      word_room _ _ _ _ inv.reader.sized at (index_word c.from-word.result) (omega arith),
      hitting_at g.row.K (last_index g.row.K g.row.LIVE) inv.reader.sized.0.0.0 (at_key (λ q v c'. g.T.Lawful.is_lawful q v (arc_value c'))) names _ _ _ _ _ c.self.inside.index c.args.index (own c.self.inside.place) _ c.self.inside.version
          (role_of _ _ _ _ _ _ _ inv.reader) inv.holding named few (ap (λ k. index_word k) index),
    )

pub invariant_of-self : goal.invariant_of-self
invariant_of-self g c = let inv = c.self.invariant in let did = c.fetch_add-found.ensures in
    let now = after_hits _ _ c.self.inside.place c.fetch_add-found.new.seat _ _ _ _ inv.reader did.0 (names_at_key g.T.Lawful.names) _ _ c.args.index (ap (λ k. index_word k) c.from-word.ensures) did.2 in record {
      reader = now.0.reader;
      holding = ap (λ o. o.phase) now.0.facts ∙ (inv.holding ∙ ap (λ o. Holding o.last c.self.inside.version) (sym now.0.facts));
      seen = ap (λ o. o.seen) now.0.facts ∙ inv.seen;
      fair = inv.fair;
      within = inv.within;
    }

pub returns-clause-number : goal.returns-clause-number
returns-clause-number g c = let inv = c.self.invariant in let did = c.fetch_add-found.ensures in
    let now = after_hits _ _ c.self.inside.place c.fetch_add-found.new.seat _ _ _ _ inv.reader did.0 (names_at_key g.T.Lawful.names) _ _ c.args.index (ap (λ k. index_word k) c.from-word.ensures) did.2 in
    let value = c.self.view_is in
    let index : c.from-word.result ≡ c.args.index = c.from-word.ensures in
    let pair = index_pair c.args.index _ c.requires.named in
    let names = names_at_key g.T.Lawful.names in
    let there : has_pair c.args.index pair.0 (names c.self.inside.place.me.0.key (version_in_hand (own c.self.inside.place).phase)) ≡ true =
    subst (λ (u : Option g.row.Q.Denot × ℕ). has_pair c.args.index pair.0 (names u.0 u.1) ≡ true)
    (λ i. (((ap (λ v. Some v.seat.key) (sym value)) ∙ sym inv.reader.keyed) i, (ap (λ v. v.version) (sym value) ∙ ap version_in_hand (sym inv.holding)) i)) pair.1 in
    let found = now.1 pair.0 there in
    subst (λ n. has_pair c.args.index n (g.T.Lawful.names c.args.self.now.seat.key c.args.self.now.version) ≡ true) (sym found) pair.1

pub returns-clause-step : goal.returns-clause-step
returns-clause-step g c = let inv = c.self.invariant in let did = c.fetch_add-found.ensures in
    let now = after_hits _ _ c.self.inside.place c.fetch_add-found.new.seat _ _ _ _ inv.reader did.0 (names_at_key g.T.Lawful.names) _ _ c.args.index (ap (λ k. index_word k) c.from-word.ensures) did.2 in
    (c.fetch_add-found.result, subst (λ v. OneMore v.seat.steps (event.Hit v.seat.number c.args.index) c.fetch_add-found.result c.fetch_add-found.new.seat.me.0.steps) c.self.view_is now.2)

pub returns-clause-seat : goal.returns-clause-seat
returns-clause-seat g c = let inv = c.self.invariant in let did = c.fetch_add-found.ensures in
    let now = after_hits _ _ c.self.inside.place c.fetch_add-found.new.seat _ _ _ _ inv.reader did.0 (names_at_key g.T.Lawful.names) _ _ c.args.index (ap (λ k. index_word k) c.from-word.ensures) did.2 in
    let steps = c.fetch_add-found.new.seat.me.0.steps in
    let n : ℕ = c.fetch_add-found.result / 4294967296 in
    (λ i. let v : StandingView g.row.Q.Denot g.row.T.Denot = record { seat = record { table = did.0 i; key = (arc_value c.self.inside.board).shared.key.key; number = c.self.inside.index; own = now.0.facts i; steps = steps }; version = c.self.inside.version; value = arc_value c.self.inside.value } in v)
    ∙ ap (λ (v : StandingView g.row.Q.Denot g.row.T.Denot). let u : StandingView g.row.Q.Denot g.row.T.Denot = record v { seat = record v.seat { own = hit_own n v.seat.own; steps = steps } } in u) c.self.view_is
