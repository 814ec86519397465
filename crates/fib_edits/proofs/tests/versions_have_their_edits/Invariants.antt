-- Each row of the view has an index.
use Rattle.module_trait.specs.Rows.{HaveIndexes}
use Rattle.fib_edits.proofs.tests.versions_have_their_edits.Given as goal

abbrev pub invariant-loop-i : goal.invariant-loop-i
invariant-loop-i g l = HaveIndexes l.course.view
