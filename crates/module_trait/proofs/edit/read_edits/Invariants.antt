use Rattle.std.proofs.Common.{ℕ, ◌<◌, slice_index_or}
use Rattle.module_trait.specs.Edit.{IndexChange, IsEdit}
use Rattle.module_trait.proofs.edit.read_edits.Given as goal

-- the edits so far
abbrev pub invariant-loop-edit : goal.invariant-loop-edit
invariant-loop-edit g l = (k : ℕ) (d : IndexChange) → k < l.edit-index → IsEdit (slice_index_or l.edits k d).before (slice_index_or l.edits k d).after
