use Rattle.std.proofs.Common.{◌≡◌, ◌<◌, ◌≤◌, ◌+◌, ◌%◌, ℕ, List, [], true, lit≤, lit<, refl, sym, ap, ◌∙◌, arith, subst, map, length, vec_len, Option, Some}
use Rattle.std.proofs.Math.Nat.{mod-lt}
use Rattle.std.specs.Arc.{arc_value}
use Rattle.std.specs.Prelude.{All}
use Rattle.atomic_table.specs.Seated.{TableId}
use Rattle.std.proofs.lemmas.List.{with_items_is}
use Rattle.std.specs.Vec.{with_items}
use Rattle.epoch_core.specs.declared.view.ControlOwn.{ControlOwn}
use Rattle.epoch_core.specs.declared.view.Role.TheVariants.{Control}
use Rattle.epoch_core.specs.SeatViews.{IsBooked}
use Rattle.epoch_core.specs.Fresh.{IsFresh, NamesFit, latest_first}
use Rattle.epoch_core.specs.Rule.{at_key, names_at_key, control_own, control_own_of, IsSized}
use Rattle.epoch_core.specs.declared.event.Event.TheVariants as event
use Rattle.epoch_core.specs.History.{OneMore, ReassignSteps}
use Rattle.epoch_core.specs.declared.view.Made.{Made}
use Rattle.epoch_core.specs.Plays.{Each, published_control}
use Rattle.epoch_core.specs.Step.{are_distinct, each_among}
use Rattle.epoch_core.proofs.ControlSteps.{publishing_at}
use Rattle.epoch_core.proofs.FreshLemmas.{among_latest}
use Rattle.epoch_core.proofs.SeatLemmas.{room}
use Rattle.epoch_core.proofs.ControlLemmas.{all_each, map_all}
use Rattle.prefix_width.specs.Limits.{last_index}
use Rattle.epoch_core.proofs.control.ControlSeat.publish.Goals as goal

pub reassign_all-requires : goal.reassign_all-requires
reassign_all-requires g c = let inv = c.self.invariant in let value = c.self.view_is in
    let at = ap (λ t. t.shared.table_id) (sym c.deref.ensures) in
    let desk_is = ap (λ s. s.own) value in (
      lit< tt,
      (
        (inv.table ∙ at, subst (λ (z : TableId). IsSized g.row.K g.row.LIVE z) (sym inv.table) inv.sized),
        (
          inv.role,
          (
            (rw desk_is c.requires.count.1, inv.clear.0),
            (
              inv.clear.1,
              (
                subst (λ (u : Option g.row.Q.Denot). IsFresh g.row.K (last_index g.row.K g.row.LIVE) (control_own c.self.inside.place).numbers (control_own c.self.inside.place).version (names_at_key g.T.Lawful.names u) c.args.fresh.now) (sym inv.keyed)
                    (subst (λ v. IsFresh g.row.K (last_index g.row.K g.row.LIVE) v.own.numbers v.own.version (g.T.Lawful.names v.key) c.args.fresh.now) (sym value) c.requires.fresh),
                subst (λ (l : List ℕ). IsBooked (control_own c.self.inside.place) l) (sym c.deref_mut.ensures.value) inv.books,
              ),
            ),
          ),
        ),
      ),
    )

pub hand_out-requires : goal.hand_out-requires
hand_out-requires g c = let inv = c.self.invariant in let key = ap (λ s. s.key) c.self.view_is in let desk_is = ap (λ s. s.own) c.self.view_is in
    let at = ap (λ t. t.shared.table_id) (sym c.deref-2.ensures) in
    let given = c.reassign_all.ensures in
    let version : c.args.self.now.own.version ≡ c.self.inside.version = sym (ap (λ d. d.version) desk_is) ∙ inv.numbers.0 in
    let L = at_key (λ q v c'. g.T.Lawful.is_lawful q v (arc_value c')) in
    let all : (control_own c.self.inside.place).passed ≡ (control_own c.self.inside.place).readers = rw desk_is c.requires.count.1 in
    let long : vec_len c.args.handles ≡ (control_own c.self.inside.place).readers = c.requires.count.0 ∙ sym (ap (λ d. d.readers) desk_is) in
    let counts = inv.counts in let numbers = inv.numbers in let hands = inv.hands in let banks = inv.sized.0.0 in
    let two = banks.0 in let bank : (c.self.inside.version + 1) % g.row.K < g.row.K = mod-lt (c.self.inside.version + 1) (omega arith) in let most : g.row.K ≤ 8 = banks.1 in
    let few : vec_len c.args.handles ≤ 64 = omega arith in
    let wide : length c.from_fn-replaced.result ≡ 64 = search in (
      lit< tt,
      (
        omega arith,
        (
          (given.seat.0 ∙ (inv.table ∙ at), omega arith, few),
          (
            (hands.0, given.seat.1 ∙ hands.1, omega arith),
            subst (λ (u : Option g.row.Q.Denot × ℕ). Each (L u.0 (u.1 + 1)) c.args.handles.items) (λ i. ((ap (λ q. Some q) (sym key) ∙ sym (given.seat.2 ∙ inv.keyed)) i, version i))
                (all_each (λ x. g.T.Lawful.is_lawful c.args.self.now.key (c.args.self.now.own.version + 1) x) (λ x. arc_value x) c.args.handles.items (map_all (λ x. g.T.Lawful.is_lawful c.args.self.now.key (c.args.self.now.own.version + 1) x) (λ x. arc_value x) c.args.handles.items c.requires.lawful)),
          ),
        ),
      ),
    )

pub store-requires : goal.store-requires
store-requires g c = let inv = c.self.invariant in let at = ap (λ t. t.shared.table_id) (sym c.deref-3.ensures) in let did = c.hand_out.ensures in let desk_is = ap (λ s. s.own) c.self.view_is in
    let given = c.reassign_all.ensures in let d = control_own c.reassign_all.new.place in
    let numbers : d.version ≡ c.self.inside.version = ap (λ o. o.version) given.own ∙ inv.numbers.0 in
    let all : d.passed ≡ d.readers = ap (λ o. o.passed) given.own ∙ (rw desk_is c.requires.count.1 ∙ sym (ap (λ o. o.readers) given.own)) in
    let long : vec_len c.args.handles ≡ d.readers = c.requires.count.0 ∙ (sym (ap (λ o. o.readers) desk_is) ∙ sym (ap (λ o. o.readers) given.own)) in
    let low : c.self.inside.version + 1 < 4294967296 = let r = c.requires.room in let v = ap (λ s. s.own.version) c.self.view_is in let n = inv.numbers.0 in omega arith in
    let value = c.self.view_is in
    let names = names_at_key g.T.Lawful.names in
    let key = ap (λ m. m.key) did.seat.2 ∙ (given.seat.2 ∙ inv.keyed) in
    let is_done : d.done ≡ latest_first c.args.fresh.now [] = ap (λ o. o.done) given.own in
    let version : c.args.self.now.own.version ≡ c.self.inside.version = sym (ap (λ v. v.own.version) value) ∙ inv.numbers.0 in
    let version' : c.args.self.now.own.version ≡ d.version = version ∙ sym numbers in
    let one : are_distinct (names c.hand_out.new.place.me.0.key (c.self.inside.version + 1)) ≡ true =
    subst (λ (u : Option g.row.Q.Denot × ℕ). are_distinct (names u.0 (u.1 + 1)) ≡ true) (λ i. ((ap (λ v. Some v.key) (sym value) ∙ sym key) i, version i)) c.requires.names.0 in
    let two : each_among (names c.hand_out.new.place.me.0.key (c.self.inside.version + 1)) (names c.hand_out.new.place.me.0.key d.version) d.done ≡ true =
    subst (λ (u : Option g.row.Q.Denot × ℕ × ℕ × List (ℕ × ℕ)). each_among (names u.0 (u.1 + 1)) (names u.0 u.2) u.3 ≡ true)
    (λ i. ((ap (λ v. Some v.key) (sym value) ∙ sym key) i, version i, version' i, sym is_done i))
    (among_latest (g.T.Lawful.names c.args.self.now.key (c.args.self.now.own.version + 1)) (g.T.Lawful.names c.args.self.now.key c.args.self.now.own.version) c.args.fresh.now c.requires.names.1) in
    let P = λ (q : Option g.row.Q.Denot). Each (at_key (λ q v c'. g.T.Lawful.is_lawful q v (arc_value c')) q (c.self.inside.version + 1)) did.hands.0 in (
      did.seat.0 ∙ (given.seat.0 ∙ (inv.table ∙ at)),
      room _ _ _ _ inv.sized at 0 (lit< tt),
      publishing_at g.row.K (last_index g.row.K g.row.LIVE) inv.sized.0.0.0 (at_key (λ q v c'. g.T.Lawful.is_lawful q v (arc_value c'))) names _ _ _ _ _ d did.hands.0 ((c.self.inside.version + 1) % g.row.K) (ap (λ m. m.role) did.seat.2 ∙ given.role) all did.hands.1
          (did.hands.2 ∙ long) (subst P (ap (λ m. m.key) (sym did.seat.2)) did.hands.3) low one two (ap (λ v. v + 1) (sym numbers)) refl,
    )

pub returns-clause-steps : goal.returns-clause-steps
returns-clause-steps g c = let inv = c.self.invariant in let did = c.hand_out.ensures in
    let given = c.reassign_all.ensures in let d = control_own c.reassign_all.new.place in
    let value = c.self.view_is in
    let names = names_at_key g.T.Lawful.names in
    let role = ap (λ m. m.role) did.seat.2 ∙ given.role in
    let went = c.store.ensures.2.1 d role in
    let key = ap (λ m. m.key) did.seat.2 ∙ (given.seat.2 ∙ inv.keyed) in
    let version : d.version ≡ c.args.self.now.own.version = ap (λ o. o.version) given.own ∙ ap (λ v. v.own.version) value in (
      c.reassign_all.new.place.me.0.steps,
      subst (λ (l : List Made). ReassignSteps l (latest_first c.args.fresh.now []) c.reassign_all.new.place.me.0.steps) (ap (λ v. v.steps) value) given.steps,
      subst (λ (u : List Made × Option g.row.Q.Denot × ℕ). OneMore u.0 (event.Publish (names u.1 (u.2 + 1))) (u.2 + 1) c.store.new.seat.me.0.steps)
          (λ i. (ap (λ m. m.steps) did.seat.2 i, (key ∙ ap (λ v. Some v.key) value) i, version i)) went.1,
    )

pub invariant_of-self : goal.invariant_of-self
invariant_of-self g c = let inv = c.self.invariant in let did = c.hand_out.ensures in let went = c.store.ensures in
    let given = c.reassign_all.ensures in let d = control_own c.reassign_all.new.place in
    let role = ap (λ m. m.role) did.seat.2 ∙ given.role in
    let goes = went.2.1 d role in
    let own : control_own c.store.new.seat ≡ published_control d = ap (λ v. control_own_of v.role) goes.0 in
    let numbers : (control_own c.store.new.seat).numbers ≡ (control_own c.self.inside.place).numbers = ap (λ o. o.numbers) own ∙ ap (λ o. o.numbers) given.own in
    let version : c.args.self.now.own.version ≡ c.self.inside.version = sym (ap (λ v. v.own.version) c.self.view_is) ∙ inv.numbers.0 in
    let room = c.requires.room in
    let whole : (with_items c.self.inside.booked c.reassign_all.new.booked).items ≡ c.reassign_all.new.booked = with_items_is c.self.inside.booked c.reassign_all.new.booked (c.reassign_all.auto.booked ∙ c.deref_mut.ensures.len) in
    let books : IsBooked (control_own c.store.new.seat) c.reassign_all.new.booked = subst (λ (o : ControlOwn). IsBooked o c.reassign_all.new.booked) (sym own) given.books in
    record {
      table = went.0 ∙ (did.seat.0 ∙ (given.seat.0 ∙ inv.table));
      sized = inv.sized;
      role = ap (λ v. v.role) goes.0 ∙ ap (λ (o : ControlOwn). Control o) (sym own);
      keyed = ap (λ v. v.key) goes.0 ∙ (ap (λ m. m.key) did.seat.2 ∙ (given.seat.2 ∙ inv.keyed));
      counts = (ap (λ o. o.readers) own ∙ (ap (λ o. o.readers) given.own ∙ inv.counts.0), inv.counts.1, omega arith);
      low = omega arith;
      numbers = (ap (λ o. o.version) own ∙ (ap (λ o. o.version + 1) given.own ∙ ap (λ n. n + 1) inv.numbers.0), ap (λ o. o.passed) own);
      hands = ([], went.2.0, refl, tt);
      clear = (ap (λ o. o.done) own, ap (λ o. o.tallied) own ∙ (ap (λ o. o.tallied) given.own ∙ inv.clear.1));
      books = subst (λ (l : List ℕ). IsBooked (control_own c.store.new.seat) l) (sym whole) books;
      names_fit = subst (λ (n : ℕ). NamesFit (last_index g.row.K g.row.LIVE) n (names_at_key g.T.Lawful.names (Some (arc_value c.self.inside.board).shared.key.key))) (sym numbers) inv.names_fit;
    }
