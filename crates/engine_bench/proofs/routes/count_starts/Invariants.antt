use Rattle.std.proofs.Common.{◌≡◌, drop}
use Rattle.std.specs.BTreeSet.{insert_key}
use Rattle.std.specs.List.{fold}
use Rattle.std.specs.Ordering.{nat_cmp}
use Rattle.module_trait.specs.Starts.{starts_of, with_end_of}
use Rattle.engine_bench.proofs.routes.count_starts.Given as goal

abbrev pub invariant-loop-row : goal.invariant-loop-row
invariant-loop-row g l = fold (λ starts r. with_end_of g.row.W (insert_key nat_cmp starts r.0.base) r.0) l.starts.keys (drop l.row-index l.rows) ≡ starts_of g.row.W l.rows
