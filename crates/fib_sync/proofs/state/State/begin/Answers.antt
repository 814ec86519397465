-- Version 0 is given.
use Rattle.std.proofs.Common.{◌∙◌, Some, [], false, subst, sym}
use Rattle.engine_set.specs.declared.engine.Engine.{Engine}
use Rattle.engine_set.specs.Image.{Picture}
use Rattle.fib_sync.specs.Standing.{IsAt, IsByEnd}
use Rattle.fib_sync.specs.Working.{IsCopy}
use Rattle.fib_sync.proofs.ControlLemmas.{at_begin}
use Rattle.fib_sync.proofs.state.State.begin.Goals as goal

pub invariant_of-state : goal.invariant_of-state
invariant_of-state g c =
    let r = c.new-runner.result in
    let made = c.new-runner.ensures in
    let works = c.in_ok-working.ensures in
    let image = c.in_ok-image.image in
    let copied = c.in_ok-engine.ensures.copied [] works.engine in
    let copy = subst (λ (e : Engine g.row.W). IsCopy [] c.copy.new.self.engine e) (sym c.in_ok-image.ensures.engine) copied in
    let same = c.in_ok-kept.ensures ∙ c.in_ok-image-2.ensures.ok in
    let at = at_begin r c.new-2.result c.in_ok-numbering.numbering c.copy.new.self image made.run made.commands made.version c.new-2.ensures (c.in_ok-numbering.ensures.names r.plan) c.in_ok-numbering.ensures.none
    c.in_ok-image.ensures.image c.in_ok-image.ensures.count (c.copy.ensures.view ∙ works.view) copy (c.copy.ensures.stands [] works.engine) in
    subst (λ (i : Picture g.row.W). IsAt r c.new-2.result c.in_ok-numbering.numbering (Some c.copy.new.self) i × IsByEnd g.row.LIVE r.plan i false) (sym same) at
