use Rattle.engine_bench.proofs.BatchLemmas.{one_edit}
use Rattle.engine_bench.proofs.batch.edit_one.Goals as goal

pub returns : goal.returns
returns g c =
    λ rows batch. one_edit c.args.index rows c.args.view.now c.set.new.self c.args.edits.now.items c.insert.new.self.items c.args.prefix.now c.get-before.result c.in-Some.edit c.len-len.ensures.ascending c.get-before.ensures c.in-Some.ensures.1 c.in-Some.ensures.0.0 c.in_ok-set.ensures.ok c.in_ok-insert.ensures.items batch
