use Rattle.std.proofs.Common.{◌%◌, ◌/◌, rules, get_or}
use Rattle.threaded_replay.proofs.ResultLemmas.{read_snoc}
use Rattle.threaded_replay.proofs.merging.merge.Goals as goal

pub loop-j-preserved : goal.loop-j-preserved
loop-j-preserved g c =
    let inv = c.loop-j.invariant in
    let items = c.in_ok-push.ensures.items in
    let len = inv.count in
    record {
      count = search rules;
      each = rw items (λ j g' d lt. read_snoc (λ j g'. get_or (get_or c.args.dones.now (j % c.args.workers) d).gots.items (j / c.args.workers) g') _ _ (λ j g' lt. inv.each j g' d lt) (λ g'. rw len (c.got_at.ensures g' d)) j g' lt);
    }
