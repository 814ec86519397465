use Rattle.std.proofs.Common.{ℕ, ◌<◌, ◌^◌, List, ap, get_or, subst, sym, ◌∙◌}
use Rattle.std.specs.Prelude.{sum_by}
use Rattle.fib_pass.specs.declared.totals.PassEnd.{PassEnd}
use Rattle.fib_pass.specs.Totals.{counted_hops, last_count, packets_of}
use Rattle.fib_pass.proofs.CloseLemmas.{put_back}
use Rattle.fib_pass.proofs.CountLemmas.{few_lookups}
use Rattle.fib_pass.proofs.closing.Sheet.fill.Goals as goal

pub lookups_in-lookups-requires : goal.lookups_in-lookups-requires
lookups_in-lookups-requires g c =
    subst (λ (x : List PassEnd). sum_by (λ e. e.lookups) x < 2 ^ 64) (sym c.deref-4.ensures.value) (few_lookups c.args.self.ends.items c.requires.few.0 c.requires.few.1)

pub returns-clause-packets : goal.returns-clause-packets
returns-clause-packets g c =
    let spread = c.spread.ensures in
    let order = c.deref-2.ensures.value in
    let places = c.deref-3.ensures.value ∙ put_back c.spread.new.places _ _ (c.spread.auto.places ∙ c.deref_mut.ensures.len) in
    (λ i. (c.new.ensures i).packets)
    ∙ c.packets_in-packets.ensures
    ∙ ap (λ (x : List ℕ). packets_of (counted_hops (λ p. get_or x p 0) c.deref-2.result.now)) places
    ∙ (λ i. packets_of (counted_hops (λ p. spread p i) (order i)))
    ∙ ap (λ (x : List (ℕ × ℕ)). packets_of (counted_hops (last_count x) c.args.self.order.items)) c.deref.ensures.value
