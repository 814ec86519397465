-- No round leaves the versions as they were, and one round more gives two versions more.
use Rattle.std.proofs.Common.{◌≡◌, suc, ◌+◌, ◌∙◌, ap, arith, subst}
use Rattle.nhop_index.specs.Book.{Remembers}
use Rattle.table_bench.specs.Versions.{after_rounds, newest_fresh}
use Rattle.table_bench.proofs.versions.measure_next.Goals as goal

pub loop-round-init : goal.loop-round-init
unfolding after_rounds
loop-round-init g c = λ versions is. (is, λ some. omega (arith, some))

pub loop-round-preserved : goal.loop-round-preserved
unfolding after_rounds
loop-round-preserved g c = λ versions is.
    let one = c.args.one.now in
    let other = c.args.other.now in
    let i = c.loop-round.round in
    let now = c.loop-round.invariant versions is in
    let next = c.in_ok-count.ensures (after_rounds g.row.K one other versions i) now.0 in
    let more : suc i ≡ i + 1 = omega arith in (
      subst (λ n. Remembers g.row.K (after_rounds g.row.K one other versions n) c.next_both.new.book) more next.0,
      λ some. next.1 ∙ ap (λ n. newest_fresh (after_rounds g.row.K one other versions n)) more,
    )
