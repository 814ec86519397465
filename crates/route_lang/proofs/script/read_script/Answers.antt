-- The lines that were read are those of the whole text.
use Rattle.std.proofs.Common.{◌≡◌, ◌∙◌, ◌+◌, [], Err, refl, sym, ap, subst, rules, arith}
use Rattle.route_lang.specs.Script.{GivesScript}
use Rattle.route_lang.specs.Text.{lines_of}
use Rattle.route_lang.proofs.AgreementLemmas.{script_agrees}
use Rattle.route_lang.proofs.FitsLemmas.{read_is_script}
use Rattle.route_lang.proofs.ReadingLemmas.{gives_fault, gives_script}
use Rattle.route_lang.proofs.ReasonLemmas.{only_too_large}
use Rattle.route_lang.proofs.script.read_script.Goals as goal

pub of-requires : goal.of-requires
of-requires c =
    let ended : lines_of c.lines.rest.now ≡ [] = search rules in
    read_is_script (lines_of c.args.bytes.now) (lines_of c.lines.rest.now) (c.lines.number + 1) c.lines.plans c.lines.lines.items _ c.lines.invariant.script ended refl

pub returns-in_err-take_line : goal.returns-in_err-take_line
returns-in_err-take_line c =
    let few = c.if-bytes-gt-INPUT_MAX.false in
    let read = gives_fault c.args.bytes.now c.from_residual.result c.in_err-take_line.field-0.0 (c.lines.number + 1) c.lines.plans c.lines.lines.items c.in-Some.line.now (lines_of c.lines.rest.now) (lines_of c.in-Some.after.now)
    c.from_residual.ensures.1 few c.in-Some.ensures c.lines.invariant.script (λ fault e. c.in_err-take_line.ensures.fault fault (ap Err e)) in
    let gives = subst (GivesScript c.from_residual.result) (script_agrees c.args.bytes.now) read in
    record { value = gives; too_large = (only_too_large c.args.bytes.now c.from_residual.result gives, λ large. absurd (omega arith)) }

pub returns-clause-value : goal.returns-clause-value
returns-clause-value c =
    let ended : lines_of c.lines.rest.now ≡ [] = search rules in
    let read = gives_script c.args.bytes.now (c.lines.number + 1) c.lines.plans c.lines.lines.items (lines_of c.lines.rest.now) c.in_ok-of.field-0 c.if-bytes-gt-INPUT_MAX.false ended c.lines.invariant.script c.in_ok-of.ensures in
    sym (script_agrees c.args.bytes.now) ∙ read
