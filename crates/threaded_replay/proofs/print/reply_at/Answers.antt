-- The control has a reply for each command.
use Rattle.std.proofs.Common.{◌∙◌, ◌<◌, ap, arith, length}
use Rattle.std.proofs.lemmas.Option.{slice_get-get_or}
use Rattle.replay_run.proofs.ReplyLemmas.{length-replies}
use Rattle.replay_run.specs.Limits.{targets_max}
use Rattle.threaded_replay.proofs.PrintLemmas.{flushes, reply_is}
use Rattle.threaded_replay.proofs.print.reply_at.Goals as goal

pub bounds-replies-pos : goal.bounds-replies-pos
bounds-replies-pos g c =
    let plan = c.args.control.now.plan in
    let all = ap length (c.replies.ensures.replies ∙ c.requires.all) in
    omega (arith, all, length-replies targets_max plan (length plan.commands) (omega arith), c.requires.within)

pub returns-clause-value : goal.returns-clause-value
returns-clause-value g c =
    let plan = c.args.control.now.plan in
    let all = ap length (c.replies.ensures.replies ∙ c.requires.all) in
    let inside : c.args.pos < length c.replies.result.now = omega (arith, all, length-replies targets_max plan (length plan.commands) (omega arith), c.requires.within) in
    reply_is targets_max plan c.replies.result.now c.args.pos _ (c.replies.ensures.replies ∙ c.requires.all) c.requires.within (slice_get-get_or c.replies.result.now c.args.pos _ inside)

pub returns-clause-flushes : goal.returns-clause-flushes
returns-clause-flushes g c =
    let plan = c.args.control.now.plan in
    let all = ap length (c.replies.ensures.replies ∙ c.requires.all) in
    let inside : c.args.pos < length c.replies.result.now = omega (arith, all, length-replies targets_max plan (length plan.commands) (omega arith), c.requires.within) in
    flushes targets_max plan c.args.pos _
    (reply_is targets_max plan c.replies.result.now c.args.pos _ (c.replies.ensures.replies ∙ c.requires.all) c.requires.within (slice_get-get_or c.replies.result.now c.args.pos _ inside))
