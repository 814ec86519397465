use Rattle.std.proofs.Common.{◌∙◌, sym}
use Rattle.std.proofs.lemmas.Option.{none-some}
use Rattle.nhgrp_slots.specs.Target.{target_cmp}
use Rattle.nhgrp_slots.proofs.TargetOrder.{target_exact, target_total}
use Rattle.nhop_index.proofs.VersionLemmas.{found}
use Rattle.fib_sync.proofs.IndexLemmas.{at_named, named_at, some_index}
use Rattle.fib_sync.proofs.index_pair.IndexPairVersionIndexes.index_of.Goals as goal

pub returns-clause-found : goal.returns-clause-found
returns-clause-found g c = λ i is.
    let names = c.args.self.now.indexes.now.names in
    let t = c.args.target.now in
    named_at names t i c.len-len.ensures.indexes.one_to_one (found (target_cmp {w = g.row.W}) target_exact names t i (sym c.index_of.ensures ∙ is))

pub returns-clause-none : goal.returns-clause-none
returns-clause-none g c = λ is i at.
    let names = c.args.self.now.indexes.now.names in
    let t = c.args.target.now in
    let j = some_index (target_cmp {w = g.row.W}) target_total target_exact names t i (at_named names i t at) in
    none-some j.0 (sym is ∙ c.index_of.ensures ∙ j.1)
