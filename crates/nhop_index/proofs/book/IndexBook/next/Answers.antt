use Rattle.std.proofs.Common.{◌≡◌, ℕ, ◌≤◌, List, length, max, sym, ◌∙◌, ap, arith, subst}
use Rattle.std.specs.Arc.{arc_value}
use Rattle.std.specs.List.Sorted.{IsStrictlyIncreasing}
use Rattle.std.specs.Map.{keys_of, values_of}
use Rattle.nhgrp_slots.specs.Target.{target_cmp}
use Rattle.nhgrp_slots.specs.declared.target.Target.{Target}
use Rattle.nhop_index.specs.Ages.{AreAged}
use Rattle.nhop_index.specs.Book.{IsBook, AreIndexes, Naming, Memory, names_in}
use Rattle.nhop_index.specs.Table.{IsEnd}
use Rattle.nhop_index.proofs.BookLemmas.{names_keys, next_is, indexes_are, book_next}
use Rattle.nhop_index.proofs.book.IndexBook.next.Goals as goal

pub invariant_of-self-2 : goal.invariant_of-self-2
invariant_of-self-2 g c =
    let m = c.args.self.now in
    let names = arc_value c.in_ok-table.field-0.table in
    let book = subst (IsBook g.row.K g.row.LIVE) c.self.view_is c.self.invariant in
    let new : Memory g.row.W = record { last = arc_value c.in_ok-last.last; ages = c.age.new.ages.items } in
    let ages = ap (λ n. n.ages) c.self.view_is in
    let table = c.deref.ensures in
    let aged = subst (λ a. AreAged names a new.ages) ages (subst (λ ns. AreAged ns c.self.inside.ages.items new.ages) table c.in_ok-age.ensures.aged) in
    let len = c.in_ok-age.ensures.len in
    book_next g.row.K g.row.LIVE m book c.args.live.now c.requires.few c.requires.ascends names c.in_ok-table.ensures.names new c.in_ok-last.ensures aged len.0
    (subst (λ ns. IsEnd (values_of ns) len.0) table len.1) (subst (λ a. length new.ages ≤ max (length a) len.0) ages len.2)

pub invariant_of-result : goal.invariant_of-result
invariant_of-result g c =
    let book = subst (IsBook g.row.K g.row.LIVE) c.self.view_is c.self.invariant in
    let fresh = (arc_value c.in_ok-fresh.fresh).items in
    let ascend : IsStrictlyIncreasing fresh = subst (λ v. IsStrictlyIncreasing v.items) (sym c.in_ok-fresh.ensures.ok) c.in_ok-table.ensures.ascend in
    indexes_are g.row.K g.row.LIVE c.args.self.now book c.args.live.now c.requires.few c.requires.ascends (arc_value c.in_ok-table.field-0.table) c.in_ok-table.ensures.names fresh ascend

pub returns-clause-model : goal.returns-clause-model
returns-clause-model g c = λ versions is.
    let m = c.args.self.now in
    let book = subst (IsBook g.row.K g.row.LIVE) c.self.view_is c.self.invariant in
    let new : Memory g.row.W = record { last = arc_value c.in_ok-last.last; ages = c.age.new.ages.items } in
    let ages = ap (λ n. n.ages) c.self.view_is in
    let aged = subst (λ a. AreAged (arc_value c.in_ok-table.field-0.table) a new.ages) ages (subst (λ ns. AreAged ns c.self.inside.ages.items new.ages) c.deref.ensures c.in_ok-age.ensures.aged) in
    next_is g.row.K g.row.LIVE m book c.args.live.now (arc_value c.in_ok-table.field-0.table) c.in_ok-table.ensures.names new c.in_ok-last.ensures aged versions is

pub returns-clause-targets : goal.returns-clause-targets
returns-clause-targets g c =
    let book = subst (IsBook g.row.K g.row.LIVE) c.self.view_is c.self.invariant in
    names_keys g.row.K g.row.LIVE c.args.self.now book c.args.live.now (arc_value c.in_ok-table.field-0.table) c.in_ok-table.ensures.names

pub returns-clause-indexes : goal.returns-clause-indexes
returns-clause-indexes g c = invariant_of-result g c
