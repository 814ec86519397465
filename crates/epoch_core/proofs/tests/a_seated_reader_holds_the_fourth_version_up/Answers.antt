use Rattle.std.proofs.Common.{lit<, rules, ◌≡◌, zero, suc, [], ◌∷◌, ◌++◌, slice_index_or, vec_len, Some, ◌-◌, sym, ap, ◌∙◌, subst, arith}
use Rattle.std.specs.Prelude.{All}
use Rattle.epoch_core.proofs.tests.a_seated_reader_holds_the_fourth_version_up.Goals as goal

all_of_one : {A : Type 0} (P : A → Type 0) (x : A) → P x → All P (x ∷ [])
all_of_one P x p zero d l = p
all_of_one P x p (suc k) d l = absurd (omega arith)

pub close-requires-2 : goal.close-requires-2
close-requires-2 g c =
    let items : c.push.new.self.items ≡ c.in-Err-Missing.seats.items ++ c.leave-seat-2.result ∷ [] = search rules in
    let none : c.in-Err-Missing.seats.items ≡ [] = search rules in
    let one : c.push.new.self.items ≡ c.leave-seat-2.result ∷ [] = items ∙ ap (λ xs. xs ++ c.leave-seat-2.result ∷ []) none in
    let left : c.leave-seat-2.result.table ≡ c.learn.new.self.table = ap (λ s. s.table) c.leave-seat-2.ensures.seat ∙ c.enter-standing-2.ensures.seat.0 in
    let learnt : c.learn.new.self.table ≡ c.look.new.self.table = ap (λ s. s.table) c.learn.ensures in
    let looked : c.look.new.self.table ≡ c.expect-seat.result.table = ap (λ s. s.table) c.look.ensures.seat ∙ (ap (λ s. s.table) c.leave-seat.ensures.seat ∙ c.enter-standing.ensures.seat.0) in
    let told : c.tell.new.self.table ≡ c.loop-stamp.control.table = ap (λ s. s.table) c.in_ok-note.ensures.seat ∙ (c.try_place-3.ensures.seat.0 ∙ c.try_place-2.ensures.seat.0) in
    let given : c.in-Err-Missing.control.table ≡ c.tell.new.self.table = search rules in
    let kept : c.in-Err-Missing.control.table ≡ c.loop-stamp.control.table = given ∙ told in
    let firsts = c.in-Ok.ensures.seats in
    let count = firsts.0 in
    let room = c.in-Ok.seats.ok in
    let last = c.pop.ensures.value c.expect-seat.result (omega arith) in
    let got : c.pop.result ≡ Some c.expect-seat.result = search rules in
    let first : vec_len c.in-Ok.seats - 1 ≡ 0 = omega arith in
    let some : Some c.expect-seat.result ≡ Some (slice_index_or c.in-Ok.seats.items 0 c.expect-seat.result) = sym got ∙ (last ∙ ap (λ n. Some (slice_index_or c.in-Ok.seats.items n c.expect-seat.result)) first) in
    let is : c.expect-seat.result ≡ slice_index_or c.in-Ok.seats.items 0 c.expect-seat.result = cc in
    let begun : c.expect-seat.result.table ≡ c.loop-stamp.control.table = ap (λ s. s.table) (is ∙ firsts.1 0 c.expect-seat.result (omega arith)) ∙ sym c.loop-stamp.invariant.1 in
    let same : c.leave-seat-2.result.table ≡ c.in-Err-Missing.control.table = left ∙ (learnt ∙ (looked ∙ (begun ∙ sym kept))) in
    let it : All (λ s. s.table ≡ c.in-Err-Missing.control.table) c.push.new.self.items = subst (λ xs. All (λ s. s.table ≡ c.in-Err-Missing.control.table) xs) (sym one) (all_of_one (λ s. s.table ≡ c.in-Err-Missing.control.table) c.leave-seat-2.result same) in
    (lit< tt, (lit< tt, (lit< tt, it)))

pub learn-requires : goal.learn-requires
learn-requires g c =
    let looked : c.look.new.self.table ≡ c.expect-seat.result.table = ap (λ s. s.table) c.look.ensures.seat ∙ (ap (λ s. s.table) c.leave-seat.ensures.seat ∙ c.enter-standing.ensures.seat.0) in
    let firsts = c.in-Ok.ensures.seats in
    let count = firsts.0 in
    let room = c.in-Ok.seats.ok in
    let last = c.pop.ensures.value c.expect-seat.result (omega arith) in
    let got : c.pop.result ≡ Some c.expect-seat.result = search rules in
    let first : vec_len c.in-Ok.seats - 1 ≡ 0 = omega arith in
    let some : Some c.expect-seat.result ≡ Some (slice_index_or c.in-Ok.seats.items 0 c.expect-seat.result) = sym got ∙ (last ∙ ap (λ n. Some (slice_index_or c.in-Ok.seats.items n c.expect-seat.result)) first) in
    let is : c.expect-seat.result ≡ slice_index_or c.in-Ok.seats.items 0 c.expect-seat.result = cc in
    let begun : c.expect-seat.result.table ≡ c.loop-stamp.control.table = ap (λ s. s.table) (is ∙ firsts.1 0 c.expect-seat.result (omega arith)) ∙ sym c.loop-stamp.invariant.1 in
    let note : c.in_ok-note.note.table ≡ c.try_place-3.new.self.table = ap (λ n. n.table) c.in_ok-note.ensures.note in
    let it : c.in_ok-note.note.table ≡ c.look.new.self.table = note ∙ (c.try_place-3.ensures.seat.0 ∙ (c.try_place-2.ensures.seat.0 ∙ (sym begun ∙ sym looked))) in
    (lit< tt, (lit< tt, it))
