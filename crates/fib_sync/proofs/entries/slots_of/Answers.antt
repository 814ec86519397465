use Rattle.std.proofs.Common.{◌≡◌, ◌∙◌, ℕ, List, sym, subst, ap}
use Rattle.nhgrp_slots.specs.Spread.{compiled}
use Rattle.fib_sync.specs.Entries.{names_in}
use Rattle.fib_sync.specs.Lawful.{AreSlots}
use Rattle.fib_sync.proofs.EntriesLemmas.{if_ok, slots_before, slots_kept}
use Rattle.fib_sync.proofs.LawfulLemmas.{compiled_slots_are_lawful}
use Rattle.fib_sync.proofs.entries.slots_of.Goals as goal

pub returns-in-Some-Group : goal.returns-in-Some-Group
returns-in-Some-Group g c =
    let names = names_in (g.X.VersionIndexes.indexes c.args.indexes.now) in
    let before = g.X.VersionIndexes.before c.args.indexes.now in
    let name = c.is_kept.ensures c.if-is_kept.true ∙ c.requires.name in
    let at = sym (rw c.in-Some-Group.field-0-is at c.in-Some-Group.ensures) in
    let was = slots_before before c.args.before.now c.args.index c.in-Some-Group.field-0-0 c.args.paths.now c.in-Some-Group.slots c.requires.before name at in
    let are = slots_kept names before c.args.paths.now c.in-Some-Group.slots c.len-spread.ensures.spread c.requires.named c.requires.keep was in
    if_ok (λ s. s ≡ c.in-Some-Group.slots) (AreSlots names c.args.paths.now) c.copy.result (λ s e. subst (AreSlots names c.args.paths.now) (sym e) are) c.copy.ensures

pub returns : goal.returns
returns g c =
    let names = names_in (g.X.VersionIndexes.indexes c.args.indexes.now) in
    let v = c.in_ok-of_paths.of_paths.items in
    let are = compiled_slots_are_lawful g.row.W names c.args.paths.now v c.len-spread.ensures.spread c.in_ok-of_paths.ensures.same c.in_ok-of_paths.ensures.names in
    if_ok (λ s. s ≡ compiled c.args.paths.now c.as_slice.result.now) (AreSlots names c.args.paths.now) c.compile.result
    (λ s e. subst (AreSlots names c.args.paths.now) (sym (e ∙ ap (λ (l : List ℕ). compiled c.args.paths.now l) c.as_slice.ensures.value)) are) c.compile.ensures.slots
