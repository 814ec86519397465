use Rattle.std.proofs.Common.{◌∙◌, ◌*◌, get_or, sym, arith}
use Rattle.std.proofs.lemmas.Option.{slice_get-get_or}
use Rattle.dxr_chunks.proofs.FillLemmas.{passed_all, passed_more, passed_same, some_cells, some_passed}
use Rattle.dxr_chunks.proofs.run.pass_border.Goals as goal

pub returns-then-passed-cells-clause-some : goal.returns-then-passed-cells-clause-some
returns-then-passed-cells-clause-some c = let some = some_cells c.args.cells.now c.requires.first in let all = c.if-passed-cells.true in omega (arith, some, all)

pub returns-then-passed-cells-clause-passed : goal.returns-then-passed-cells-clause-passed
returns-then-passed-cells-clause-passed c = passed_all c.args.cells.now (c.args.chunk * 65536) c.args.passed c.requires.passed c.if-passed-cells.true

pub returns-then-cells-passed-clause-passed : goal.returns-then-cells-passed-clause-passed
returns-then-cells-passed-clause-passed c =
    let within = c.requires.passed.within in
    let not_all = c.if-passed-cells.false in
    let at = slice_get-get_or c.args.cells.now c.args.passed (0, 0) (omega (arith, within, not_all)) in
    passed_more c.args.cells.now (c.args.chunk * 65536) c.args.passed (get_or c.args.cells.now c.args.passed (0, 0)) c.requires.passed at c.requires.ascending (c.if-cells-passed.true ∙ c.base_of-base.ensures)

pub returns-else-cells-passed-clause-some : goal.returns-else-cells-passed-clause-some
returns-else-cells-passed-clause-some c =
    let within = c.requires.passed.within in
    let not_all = c.if-passed-cells.false in
    let at = slice_get-get_or c.args.cells.now c.args.passed (0, 0) (omega (arith, within, not_all)) in
    some_passed c.args.cells.now (c.args.chunk * 65536) c.args.passed (get_or c.args.cells.now c.args.passed (0, 0)) c.requires.passed at c.requires.first (λ e. c.if-cells-passed.false (e ∙ sym c.base_of-base.ensures))

pub returns-else-cells-passed-clause-passed : goal.returns-else-cells-passed-clause-passed
returns-else-cells-passed-clause-passed c =
    let within = c.requires.passed.within in
    let not_all = c.if-passed-cells.false in
    let at = slice_get-get_or c.args.cells.now c.args.passed (0, 0) (omega (arith, within, not_all)) in
    passed_same c.args.cells.now (c.args.chunk * 65536) c.args.passed (get_or c.args.cells.now c.args.passed (0, 0)) c.requires.passed at (λ e. c.if-cells-passed.false (e ∙ sym c.base_of-base.ensures))
