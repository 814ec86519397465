-- Each version is the next of the definition, and what is fresh in the second is what the first hasn't.
use Rattle.std.proofs.Common.{◌≡◌, ◌∷◌, ◌∙◌, ap, length, subst}
use Rattle.nhgrp_slots.specs.Target.{target_cmp}
use Rattle.nhop_index.specs.Book.{Remembers}
use Rattle.nhop_index.specs.Indexes.{next_names, fresh_in}
use Rattle.table_bench.specs.Versions.{after_next, both}
use Rattle.table_bench.proofs.versions.next_both.Goals as goal

pub returns : goal.returns
returns g c = λ versions is.
    let one = c.args.one.now in
    let other = c.args.other.now in
    let low = c.in_ok-next.field-0.names in
    let high = c.in_ok-indexes.indexes.names in
    let first = c.in_ok-next.ensures.model versions is in
    let second = c.in_ok-indexes.ensures.model (low ∷ versions) first.1 in
    let older : low ∷ versions ≡ after_next g.row.K one versions = ap (λ names. names ∷ versions) first.0 in
    let newer : high ≡ next_names target_cmp g.row.K (after_next g.row.K one versions) other = second.0 ∙ ap (λ vs. next_names target_cmp g.row.K vs other) older in
    let all : high ∷ low ∷ versions ≡ both g.row.K one other versions = ap (λ names. names ∷ low ∷ versions) newer ∙ ap (λ vs. next_names target_cmp g.row.K (after_next g.row.K one versions) other ∷ vs) older in (
      subst (λ vs. Remembers g.row.K vs c.next-2.new.self) all second.1,
      ap length (c.fresh.ensures ∙ c.in_ok-indexes.ensures.fresh ∙ ap (λ names. fresh_in names high) (first.1.last ∙ first.0) ∙ ap (fresh_in (next_names target_cmp g.row.K versions one)) newer),
    )
