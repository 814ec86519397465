-- The chunks of the edits so far.
use Rattle.std.proofs.Common.{◌^◌, ◌<◌, take}
use Rattle.std.specs.List.{AllByRecursion}
use Rattle.prefix_width.specs.Prefix.{IsBlock}
use Rattle.dxr_chunks.specs.Touch.{AreTouched}
use Rattle.dxr_chunks.proofs.touched.touched.Given as goal

abbrev pub invariant-loop-edit : goal.invariant-loop-edit
invariant-loop-edit g l = record {
  touched : AreTouched 4096 (take l.edit-index l.edits) l.numbers.keys;
  below : AllByRecursion (λ k. k < 2 ^ 16) l.numbers.keys;
  prefixes : AllByRecursion (λ e. IsBlock 32 e.prefix) (take l.edit-index l.edits);
}
