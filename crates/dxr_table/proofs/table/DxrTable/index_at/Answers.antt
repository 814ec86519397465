use Rattle.std.proofs.Common.{◌∙◌, ◌<◌, sym, subst, arith}
use Rattle.std.proofs.lemmas.List.Edits.{length-between}
use Rattle.dxr_table.specs.Dxr.{AreRightChunks, Dxr}
use Rattle.dxr_table.proofs.AnswerLemmas.{direct_answer, run_answer, run_ends}
use Rattle.dxr_table.proofs.table.DxrTable.index_at.Goals as goal

pub returns-then-first-end-clause-answer : goal.returns-then-first-end-clause-answer
returns-then-first-end-clause-answer g c = λ answer right.
    let table : Dxr = record { firsts = c.self.inside.firsts; indexes = c.self.inside.indexes; fragments = c.self.inside.fragments } in
    let right1 : AreRightChunks answer 65536 table = subst (AreRightChunks answer 65536) (sym c.self.view_is) right in
    let fits : c.args.offset < 65536 = c.ranges.offset.fits in
    direct_answer answer table c.args.chunk c.at.result.now c.at-2.result.now (right1 c.args.chunk c.requires) c.at.ensures.value c.at-2.ensures.value c.at-then-first-end.result.now c.args.offset c.if-first-end.true c.at-then-first-end.ensures.value fits

pub index_in_run-requires-clause-some : goal.index_in_run-requires-clause-some
index_in_run-requires-clause-some g c =
    let table : Dxr = record { firsts = c.self.inside.firsts; indexes = c.self.inside.indexes; fragments = c.self.inside.fragments } in
    let ends = run_ends table c.args.chunk c.at.result.now c.at-2.result.now c.self.invariant c.requires c.at.ensures.value c.at-2.ensures.value in
    let le = ends.0 in
    let other = c.if-first-end.false in
    omega (arith, le, other)

pub index_in_run-requires-clause-within : goal.index_in_run-requires-clause-within
index_in_run-requires-clause-within g c =
    let table : Dxr = record { firsts = c.self.inside.firsts; indexes = c.self.inside.indexes; fragments = c.self.inside.fragments } in
    (run_ends table c.args.chunk c.at.result.now c.at-2.result.now c.self.invariant c.requires c.at.ensures.value c.at-2.ensures.value).1

pub returns-clause-answer : goal.returns-clause-answer
returns-clause-answer g c = λ answer right.
    let table : Dxr = record { firsts = c.self.inside.firsts; indexes = c.self.inside.indexes; fragments = c.self.inside.fragments } in
    let right1 : AreRightChunks answer 65536 table = subst (AreRightChunks answer 65536) (sym c.self.view_is) right in
    let ends = run_ends table c.args.chunk c.at.result.now c.at-2.result.now c.self.invariant c.requires c.at.ensures.value c.at-2.ensures.value in
    let le = ends.0 in
    let other = c.if-first-end.false in
    let run = run_answer answer table c.args.chunk c.at.result.now c.at-2.result.now (right1 c.args.chunk c.requires) c.at.ensures.value c.at-2.ensures.value (omega (arith, le, other)) ends.1 in
    let fits : c.args.offset < 65536 = c.ranges.offset.fits in
    c.index_in_run.ensures.answer run.alternating run.first ∙ run.right c.args.offset fits

pub returns-clause-cost : goal.returns-clause-cost
returns-clause-cost g c = λ answer right.
    let table : Dxr = record { firsts = c.self.inside.firsts; indexes = c.self.inside.indexes; fragments = c.self.inside.fragments } in
    let right1 : AreRightChunks answer 65536 table = subst (AreRightChunks answer 65536) (sym c.self.view_is) right in
    let ends = run_ends table c.args.chunk c.at.result.now c.at-2.result.now c.self.invariant c.requires c.at.ensures.value c.at-2.ensures.value in
    let le = ends.0 in
    let other = c.if-first-end.false in
    let run = run_answer answer table c.args.chunk c.at.result.now c.at-2.result.now (right1 c.args.chunk c.requires) c.at.ensures.value c.at-2.ensures.value (omega (arith, le, other)) ends.1 in
    let len = length-between c.self.inside.fragments c.at.result.now c.at-2.result.now ends.1 in
    let few = run.few in
    let cost = c.index_in_run.ensures.cost 16 (omega (arith, len, few)) in
    let one = c.at.ensures.cost in
    let two = c.at-2.ensures.cost in
    omega (arith, cost, one, two)
