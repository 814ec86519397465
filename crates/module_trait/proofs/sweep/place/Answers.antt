use Rattle.std.proofs.Common.{◌≡◌, ◌++◌, ◌+◌, ◌-◌, ◌^◌, ◌<◌, ◌≤◌, ◌∙◌, All, sym, ap, subst, arith, length}
use Rattle.std.proofs.lemmas.Bool.{lt-ltb, cond-true, cond-false}
use Rattle.std.proofs.lemmas.Nat.{pow_pos}
use Rattle.module_trait.specs.Starts.{end_of}
use Rattle.module_trait.specs.Sweep.{IsPast, begun, with_end}
use Rattle.module_trait.proofs.BeforeLemmas.{last_split}
use Rattle.module_trait.proofs.SweepLemmas.{reaches, placed, not_below}
use Rattle.module_trait.proofs.sweep.place.Goals as goal

pub returns-in_ok-end_at-clause-sweep : goal.returns-in_ok-end_at-clause-sweep
returns-in_ok-end_at-clause-sweep g c = λ front sweep after.
    let w = g.row.W in
    let row = c.args.row.now in
    let ahead = c.pass.new.ahead.items in
    let base : c.value-base.result ≡ row.0.base = c.value-base.ensures.value ∙ c.first.ensures in
    let below = c.in_ok-pass.ensures.below (subst (λ b. All (λ c. c.0 ≤ b) c.args.cells.now.items) (sym base) (reaches w front c.args.cells.now.items c.args.ahead.now.items row sweep after)) in
    let some : 0 < length c.pass.new.cells.items = (let len = c.pass.new.cells.ok in let had = c.requires in let more = c.in_ok-pass.ensures.len in omega (arith, len, had, more)) in
    let cut = last_split c.pass.new.cells.items some in
    let most = cut.0 in
    let last = cut.1 in
    let pos = pow_pos (w - row.0.len) in
    let at = c.value-last.ensures.value ∙ c.last.ensures in
    let end : c.value-last.result + 1 ≡ end_of w row.0 = omega (arith, at, pos) in
    let fits : end_of w row.0 < 2 ^ w = (let greatest = c.value.ensures.value ∙ c.greatest.ensures in let less = c.if-last-value.true in omega (arith, end, greatest, less)) in
    let outer = c.in_ok-outer.ensures.outer most last cut.2 in
    placed w front row c.args.cells.now.items c.args.ahead.now.items most ahead c.begin.new.cells.items c.end_at.new.ahead.items last
    sweep after c.len-len.ensures.block
    (ap (λ xs. xs ++ ahead) (sym cut.2) ∙ c.in_ok-pass.ensures.whole)
    (subst (All (λ c. c.0 ≤ row.0.base)) cut.2 (subst (λ b. All (λ c. c.0 ≤ b) c.pass.new.cells.items) base below))
    (subst (λ b. IsPast b ahead) base c.in_ok-pass.ensures.past)
    (c.in_ok-outer.ensures.cells most last cut.2 ∙ ap (λ b. begun most last b row.1) base)
    (c.in_ok-end_at.ensures ∙ ap (λ n. with_end ahead n c.in_ok-outer.outer) end ∙ ap (with_end ahead (end_of w row.0)) outer ∙ sym (cond-true _ _ _ (lt-ltb _ _ fits)))

pub returns-else-last-value-clause-sweep : goal.returns-else-last-value-clause-sweep
returns-else-last-value-clause-sweep g c = λ front sweep after.
    let w = g.row.W in
    let row = c.args.row.now in
    let ahead = c.pass.new.ahead.items in
    let base : c.value-base.result ≡ row.0.base = c.value-base.ensures.value ∙ c.first.ensures in
    let below = c.in_ok-pass.ensures.below (subst (λ b. All (λ c. c.0 ≤ b) c.args.cells.now.items) (sym base) (reaches w front c.args.cells.now.items c.args.ahead.now.items row sweep after)) in
    let some : 0 < length c.pass.new.cells.items = (let len = c.pass.new.cells.ok in let had = c.requires in let more = c.in_ok-pass.ensures.len in omega (arith, len, had, more)) in
    let cut = last_split c.pass.new.cells.items some in
    let most = cut.0 in
    let last = cut.1 in
    let pos = pow_pos (w - row.0.len) in
    let at = c.value-last.ensures.value ∙ c.last.ensures in
    let past : 2 ^ w ≤ end_of w row.0 = (let greatest = c.value.ensures.value ∙ c.greatest.ensures in let more = c.if-last-value.false in omega (arith, at, pos, greatest, more)) in
    placed w front row c.args.cells.now.items c.args.ahead.now.items most ahead c.begin.new.cells.items ahead last
    sweep after c.len-len.ensures.block
    (ap (λ xs. xs ++ ahead) (sym cut.2) ∙ c.in_ok-pass.ensures.whole)
    (subst (All (λ c. c.0 ≤ row.0.base)) cut.2 (subst (λ b. All (λ c. c.0 ≤ b) c.pass.new.cells.items) base below))
    (subst (λ b. IsPast b ahead) base c.in_ok-pass.ensures.past)
    (c.in_ok-outer.ensures.cells most last cut.2 ∙ ap (λ b. begun most last b row.1) base)
    (sym (cond-false _ _ _ (not_below _ _ past)))
