-- The rows so far and those that are left are all between the two.
use Rattle.std.proofs.Common.{◌≡◌, ◌++◌}
use Rattle.std.specs.BTreeMap.Range.{entries_between}
use Rattle.std.specs.declared.ops.Bound.TheVariants.{Included}
use Rattle.prefix_width.specs.Order.{block_cmp}
use Rattle.module_trait.proofs.view.RouteView.between.Given as goal

abbrev pub invariant-loop-prefix : goal.invariant-loop-prefix
invariant-loop-prefix g l = l.rows.items ++ l.prefix-iterator ≡ entries_between block_cmp (Included l.from) (Included l.to) l.self
