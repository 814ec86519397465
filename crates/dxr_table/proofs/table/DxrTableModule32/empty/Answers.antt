use Rattle.dxr_table.proofs.AnswerLemmas.{stands_for_none}
use Rattle.dxr_table.proofs.table.DxrTableModule32.empty.Goals as goal

pub returns : goal.returns
returns c = stands_for_none c.in_ok-table.table c.in_ok-table.ensures
