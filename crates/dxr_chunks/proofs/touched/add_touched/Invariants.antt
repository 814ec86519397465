-- The chunks so far are added.
use Rattle.std.proofs.Common.{◌^◌, ◌<◌}
use Rattle.std.specs.List.{AllByRecursion}
use Rattle.dxr_chunks.proofs.TouchLemmas.{IsAdding}
use Rattle.dxr_chunks.proofs.touched.add_touched.Given as goal

abbrev pub invariant-loop-chunk : goal.invariant-loop-chunk
invariant-loop-chunk g l = record {
  adding : IsAdding 4096 l.first l.fn.numbers.keys l.numbers.keys l.chunk;
  below : AllByRecursion (λ k. k < 2 ^ 16) l.fn.numbers.keys → AllByRecursion (λ k. k < 2 ^ 16) l.numbers.keys;
}
