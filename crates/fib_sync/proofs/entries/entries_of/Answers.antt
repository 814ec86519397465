use Rattle.std.proofs.Common.{◌≡◌, ◌∙◌, ◌≤◌, ◌+◌, List, length, map, take, sym, subst, ap, arith, lit<}
use Rattle.std.specs.List.Sorted.{IsStrictlyIncreasing}
use Rattle.std.specs.Map.{keys_of}
use Rattle.std.proofs.lemmas.Map.Keys.{IsStrictlyIncreasing-from_sorted}
use Rattle.engine_set.specs.declared.entry.Entry.{Entry}
use Rattle.engine_set.specs.Entry.{entry_index}
use Rattle.fib_sync.specs.Entries.{AreMade, names_in}
use Rattle.fib_sync.specs.Lawful.{AreEntriesOf}
use Rattle.fib_sync.proofs.EntriesLemmas.{if_ok, made_entries, made_indexes, made_more, named_at, take_all}
use Rattle.fib_sync.proofs.entries.entries_of.Goals as goal

pub entry_of-requires : goal.entry_of-requires
entry_of-requires g c =
    let name = named_at (g.X.VersionIndexes.indexes c.args.indexes.now) c.loop-i.i c.entry-index.result.0 c.entry-index.result.1.now c.len-len.ensures.ascending c.entry-index.ensures in
    (lit< tt, (c.requires.closed, (c.requires.keep, (c.requires.before, name))))

pub loop-i-preserved : goal.loop-i-preserved
loop-i-preserved g c =
    let indexes = g.X.VersionIndexes.indexes c.args.indexes.now in
    subst (AreMade (names_in indexes) (take (c.loop-i.i + 1) indexes)) (sym c.in_ok-push.ensures.items)
    (made_more (names_in indexes) indexes c.loop-i.entries.items c.loop-i.i c.entry-index.result.0 c.entry-index.result.1.now c.in_ok-entry.entry c.entry-index.ensures c.in_ok-entry.ensures.index c.in_ok-entry.ensures.entry c.loop-i.invariant)

pub new-requires : goal.new-requires
new-requires g c =
    let indexes = g.X.VersionIndexes.indexes c.args.indexes.now in
    let end : length indexes ≤ c.loop-i.i = omega (arith, c.loop-i-test.false, c.len-len.ensures.count) in
    let made = made_indexes (names_in indexes) (take c.loop-i.i indexes) c.loop-i.entries.items c.loop-i.invariant in
    let same : map entry_index c.loop-i.entries.items ≡ keys_of indexes = made ∙ ap (λ es. keys_of es) (take_all indexes c.loop-i.i end) in
    subst IsStrictlyIncreasing (sym same) (IsStrictlyIncreasing-from_sorted (keys_of indexes) c.len-len.ensures.ascending)

pub returns : goal.returns
returns g c =
    let indexes = g.X.VersionIndexes.indexes c.args.indexes.now in
    let end : length indexes ≤ c.loop-i.i = omega (arith, c.loop-i-test.false, c.len-len.ensures.count) in
    let made : AreMade (names_in indexes) indexes c.loop-i.entries.items = subst (λ es. AreMade (names_in indexes) es c.loop-i.entries.items) (take_all indexes c.loop-i.i end) c.loop-i.invariant in
    if_ok (λ (e : List Entry). e ≡ c.loop-i.entries.items) (AreEntriesOf (names_in indexes)) c.new.result
    (λ e is. subst (AreEntriesOf (names_in indexes)) (sym is) (made_entries (names_in indexes) indexes c.loop-i.entries.items made)) c.new.ensures
