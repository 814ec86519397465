use Rattle.fib_pass.proofs.NumberLemmas.{AreNumbers}
use Rattle.fib_pass.proofs.counting.numbering_of.Given as goal

abbrev pub invariant-loop-place : goal.invariant-loop-place
invariant-loop-place g l = AreNumbers l.plan l.place l.numbering.entries
