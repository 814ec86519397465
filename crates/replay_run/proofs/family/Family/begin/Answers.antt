-- The control has given version 0.
use Rattle.std.proofs.Common.{◌∙◌, ap}
use Rattle.std.specs.Arc.{arc_value}
use Rattle.nhop_index.specs.Book.{Naming as Book}
use Rattle.replay_run.proofs.FamilyLemmas.{begun}
use Rattle.replay_run.proofs.family.Family.begin.Goals as goal

pub invariant_of-result : goal.invariant_of-result
invariant_of-result g c =
    let e = c.in_ok-control.ensures in
    begun g.row.K g.row.LIVE c.in_ok-control.control _ (arc_value c.in_ok-control.image) c.in_ok-indexes.indexes.names e.control e.plan e.image e.first.0 e.lawful
    (ap (λ (n : Book g.row.W). n.names) c.in_ok-indexes.ensures ∙ c.indexes.ensures.names)
