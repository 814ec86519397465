use Rattle.std.proofs.Common.{[], refl, arith, lit<}
use Rattle.nhop_index.proofs.BookLemmas.{sorted_none}
use Rattle.fib_sync.proofs.NamingLemmas.{given_first}
use Rattle.fib_sync.proofs.numbering.Numbering.begin.Goals as goal

pub next-requires : goal.next-requires
next-requires g c = (lit< tt, (lit< tt, (lit< tt, (sorted_none {w = g.row.W} [] refl, omega arith))))

pub returns-clause-names : goal.returns-clause-names
returns-clause-names g c = λ plan.
    let m = c.in_ok-now.ensures.model [] c.new-book.ensures in
    let is = given_first g.row.K g.row.LIVE plan c.in_ok-now.now.names c.next.new.self m.0 m.1 in
    record { now = is.0; next = is.1 }
