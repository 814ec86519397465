use Rattle.std.proofs.Common.{rules, ◌≡◌, ◌∙◌, ap, sym, subst, ◌+◌, ◌*◌, ◌≤◌, IfOk, length, length-append, All, ℕ, [], ◌∷◌, arith}
use Rattle.std.proofs.lemmas.List.Elements.{All-tail, All-push}
use Rattle.epoch_bench.specs.Reads.{rightly, HasRead}
use Rattle.epoch_bench.proofs.Lists.{times_next, ok_at}
use Rattle.epoch_bench.proofs.beside.gather.Goals as goal

pub loop-outcome-preserved : goal.loop-outcome-preserved
loop-outcome-preserved c =
    let inv = c.loop-outcome.invariant in
    let n : ℕ = length c.loop-outcome.all.seats.items in
    let r : ℕ = c.args.rounds in
    let few : r ≤ 1000000000 = c.requires.few.1 in
    let bound : n * r ≤ n * 1000000000 = inv.4 in
    let items = c.in_ok-push.ensures.items in
    let grown = ap length items in
    let more : length c.push.new.self.items ≡ n + 1 = omega (arith, grown, length-append c.loop-outcome.all.seats.items (c.in_ok-read.read.seat ∷ [])) in
    let steps = c.in-Some.ensures.steps.0 in
    let left = subst (All (λ x. IfOk x (HasRead c.args.control.now.table r))) steps inv.0 in
    let head = ok_at c.in-Some.outcome c.in_ok-read.read c.in_ok-read.was (HasRead c.args.control.now.table r) (left 0 c.in-Some.outcome (omega arith)) in
    let sums : record { entered = c.loop-outcome.all.found.entered + c.in_ok-read.read.found.entered; equal = c.loop-outcome.all.found.equal + c.in_ok-read.read.found.equal; fell = c.loop-outcome.all.found.fell + c.in_ok-read.read.found.fell } ≡ rightly (n * r + r) = λ i. record { entered = (inv.3 i).entered + (head.2 i).entered; equal = (inv.3 i).equal + (head.2 i).equal; fell = (inv.3 i).fell + (head.2 i).fell } in
    let all : c.add.new.self ≡ rightly (n * r + r) = c.add.ensures ∙ sums in
    let most : (n + 1) * r ≤ (n + 1) * 1000000000 = omega (arith, times_next n r) in (
      All-tail (λ x. IfOk x (HasRead c.args.control.now.table r)) _ _ left,
      subst (All (λ s. s.table ≡ c.args.control.now.table)) (sym items) (All-push (λ s. s.table ≡ c.args.control.now.table) _ _ inv.1 head.0),
      search rules,
      all ∙ ap rightly (times_next n r ∙ ap (λ m. m * r) (sym more)),
      subst (λ m. m * r ≤ m * 1000000000) (sym more) most,
    )
