use Rattle.std.proofs.Common.{◌≡◌, ◌∙◌, None, ap}
use Rattle.nhop_index.specs.Indexes.{all_names}
use Rattle.nhgrp_slots.specs.Target.{target_cmp}
use Rattle.rib_store.specs.Targets.{live}
use Rattle.fib_sync.specs.VersionNames.{lives_to}
use Rattle.fib_sync.proofs.NamingLemmas.{given_next, none_from, not_named}
use Rattle.fib_sync.proofs.numbering.Numbering.name_next.Goals as goal

pub returns-in_ok-next-clause-names : goal.returns-in_ok-next-clause-names
returns-in_ok-next-clause-names g c = λ plan v at rib.
    let K = g.row.K in
    let most = g.row.LIVE in
    let none : c.args.self.now.next ≡ None = none_from c.args.self.now.next c.is_none.result c.is_none.ensures c.if-is_none.true in
    let given = not_named K most plan v c.args.self.now.book c.args.self.now.next none at.next in
    let m = c.in_ok-next.ensures.model (all_names (target_cmp {w = g.row.W}) K (lives_to most plan v)) given in
    let targets = c.deref.ensures.value ∙ c.in_ok-targets.ensures.live ∙ ap (λ t. live {w = g.row.W} t) rib in
    let is = given_next K most plan v c.in_ok-next.next.names c.deref.result.now c.next.new.self targets m.0 m.1 in
    record { now = at.now; next = is }
