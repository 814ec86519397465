use Rattle.std.proofs.Common.{◌≡◌, ℕ, ◌≤◌, List, length, sym, ◌∙◌, ap, arith, subst}
use Rattle.std.specs.Arc.{arc_value}
use Rattle.std.specs.List.Sorted.{IsStrictlySortedBy}
use Rattle.std.specs.Map.{keys_of}
use Rattle.std.proofs.lemmas.Map.Entries.{length-keys_of}
use Rattle.nhgrp_slots.specs.Target.{target_cmp}
use Rattle.nhgrp_slots.specs.declared.target.Target.{Target}
use Rattle.nhop_index.specs.Book.{IsBook, names_in}
use Rattle.nhop_index.specs.Indexes.{named, window, fresh_in}
use Rattle.nhop_index.proofs.BookLemmas.{named_same, fresh_none, names_by, fresh_by, names_keys}
use Rattle.nhop_index.proofs.book.IndexBook.next_table.Goals as goal

pub returns-then-are_live-clause-names : goal.returns-then-are_live-clause-names
returns-then-are_live-clause-names g c = λ versions is.
    let live = c.args.live.now in
    let before = arc_value c.in-Some.last in
    let last = sym (ap names_in c.in-Some.is) ∙ ap (λ m. m.last) c.self.view_is ∙ is.last in
    let names = c.names.ensures.names ∙ c.deref.ensures in
    let keys : keys_of before ≡ live = ap (λ ns. keys_of ns) (sym names) ∙ c.are_live.ensures c.if-are_live.true in
    let up = subst (λ ns. IsStrictlySortedBy target_cmp (keys_of ns)) c.deref.ensures c.names.ensures.sorted in
    c.in_ok-table.ensures ∙ named_same before live (window g.row.K versions) up keys ∙ ap (λ ns. named target_cmp ns live (window g.row.K versions)) last

pub returns-then-are_live-clause-fresh : goal.returns-then-are_live-clause-fresh
returns-then-are_live-clause-fresh g c =
    let before = arc_value c.in-Some.last in
    let last = sym (ap names_in c.in-Some.is) ∙ ap (λ m. m.last) c.self.view_is in
    c.new-fresh.ensures.items ∙ fresh_none before ∙ ap (λ ns. fresh_in ns before) last ∙ ap (λ ns. fresh_in c.args.self.now.last ns) (sym c.in_ok-table.ensures)

pub new-requires : goal.new-requires
new-requires g c =
    let m = c.args.self.now in
    let live = c.args.live.now in
    let names = c.in_ok-names.field-0.names.items in
    let book = subst (IsBook g.row.K g.row.LIVE) c.self.view_is c.self.invariant in
    let aged = c.deref-2.ensures.value ∙ ap (λ n. n.ages) c.self.view_is in
    let all = names_by g.row.K g.row.LIVE m book live c.last_names.result.now c.deref-2.result.now names c.last_names.ensures.names aged c.in_ok-names.ensures.names in
    let keys : keys_of names ≡ live = names_keys g.row.K g.row.LIVE m book live names all in
    let few : length names ≤ 4095 = (let l = length-keys_of names in let k : length (keys_of names) ≡ length live = ap (λ ts. length ts) keys in omega (arith, c.requires.few, book.targets.1)) in
    (omega arith, (omega arith, (subst (IsStrictlySortedBy target_cmp) (sym keys) c.requires.ascends, few)))

pub returns-clause-names : goal.returns-clause-names
returns-clause-names g c = λ versions is.
    let m = c.args.self.now in
    let names = c.in_ok-names.field-0.names.items in
    let book = subst (IsBook g.row.K g.row.LIVE) c.self.view_is c.self.invariant in
    let aged = c.deref-2.ensures.value ∙ ap (λ n. n.ages) c.self.view_is in
    c.in_ok-table-2.ensures.ok ∙ c.in_ok-new.ensures
    ∙ names_by g.row.K g.row.LIVE m book c.args.live.now c.last_names.result.now c.deref-2.result.now names c.last_names.ensures.names aged c.in_ok-names.ensures.names versions is

pub returns-clause-fresh : goal.returns-clause-fresh
returns-clause-fresh g c =
    let m = c.args.self.now in
    let names = c.in_ok-names.field-0.names.items in
    let book = subst (IsBook g.row.K g.row.LIVE) c.self.view_is c.self.invariant in
    let aged = c.deref-2.ensures.value ∙ ap (λ n. n.ages) c.self.view_is in
    fresh_by g.row.K g.row.LIVE m book c.args.live.now c.last_names.result.now c.deref-2.result.now names c.in_ok-names.field-0.fresh.items c.last_names.ensures.names aged c.in_ok-names.ensures.fresh
    ∙ ap (λ ns. fresh_in m.last ns) (sym (c.in_ok-table-2.ensures.ok ∙ c.in_ok-new.ensures))
