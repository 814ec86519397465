-- Nothing is left.
use Rattle.std.proofs.Common.{◌∙◌, sym}
use Rattle.threaded_replay.proofs.ResultLemmas.{all_taken}
use Rattle.threaded_replay.proofs.beside.gather.Goals as goal

pub returns : goal.returns
returns g c =
    let left = c.loop-result.result-iterator.rest in
    all_taken _ left.items _ (sym left.ok.0 ∙ c.in-None.ensures.steps.0) c.loop-result.invariant
