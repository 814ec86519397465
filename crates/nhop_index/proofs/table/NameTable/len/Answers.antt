use Rattle.std.proofs.Common.{arith}
use Rattle.nhop_index.proofs.PlaceLemmas.{length-order, length-by_index}
use Rattle.nhop_index.proofs.table.NameTable.len.Goals as goal

pub overflow_cast-result : goal.overflow_cast-result
overflow_cast-result g c =
    let inside = c.self.inside in
    let o = length-order inside.names.items inside.order.items c.self.invariant.ordered in
    let b = length-by_index inside.names.items in
    omega (arith, o, b, c.self.invariant.few, inside.order.ok, c.len.ensures)
