-- What a table gives as its live targets ascends, and there are no more than it has room for.
use Rattle.std.proofs.Common.{◌≤◌, length, sym, subst, lit<}
use Rattle.std.specs.List.Sorted.{IsStrictlySortedBy}
use Rattle.nhgrp_slots.specs.Target.{target_cmp}
use Rattle.table_bench.proofs.index_report.report_indexes.Goals as goal

pub report_versions-requires : goal.report_versions-requires
report_versions-requires g c =
    let one = sym c.deref-2.ensures.value in
    let other = sym c.deref-3.ensures.value in
    let apart = sym c.deref-4.ensures.value in (
      lit< tt,
      (
        (subst (λ xs. IsStrictlySortedBy target_cmp xs) one c.in_ok-one.ensures.ascending, subst (λ xs. length xs ≤ 4095) one c.in_ok-one.ensures.most),
        (
          (subst (λ xs. IsStrictlySortedBy target_cmp xs) other c.in_ok-other.ensures.ascending, subst (λ xs. length xs ≤ 4095) other c.in_ok-other.ensures.most),
          (subst (λ xs. IsStrictlySortedBy target_cmp xs) apart c.in_ok-apart.ensures.ascending, subst (λ xs. length xs ≤ 4095) apart c.in_ok-apart.ensures.most),
        ),
      ),
    )
