-- The edits that are left lead from the view as it is to where all the edits lead.
use Rattle.std.proofs.Common.{◌≡◌, drop}
use Rattle.fib_edits.specs.Edits.{done_all}
use Rattle.fib_edits.proofs.version_view.follow.Given as goal

abbrev pub invariant-loop-edit : goal.invariant-loop-edit
invariant-loop-edit g l = done_all (drop l.edit-index l.edits) l.view ≡ done_all l.edits l.initial.view
