-- The kinds of nexthop, in their order.
use Rattle.std.specs.Prelude.{ℕ}
use Rattle.std.specs.Cmp.{IsTotalOrder}
use Rattle.std.specs.Ordering.{nat_cmp, on}
use Rattle.std.proofs.lemmas.Cmp.{nat_cmp_total, on_total}
use Rattle.prefix_width.specs.declared.nexthop.NhKind.{NhKind}
use Rattle.prefix_width.specs.declared.nexthop.NhKind.TheVariants.{Via, Direct, Blackhole, Reject}

-- the place of a kind among the kinds
abbrev pub kind_rank : NhKind → ℕ
kind_rank Via = 0
kind_rank Direct = 1
kind_rank Blackhole = 2
kind_rank Reject = 3

pub kinds_total : IsTotalOrder (on kind_rank nat_cmp)
kinds_total = on_total kind_rank nat_cmp_total
