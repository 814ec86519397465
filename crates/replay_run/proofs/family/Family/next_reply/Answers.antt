-- The reply to a command that is run stands at its position.
use Rattle.std.proofs.Common.{◌≡◌, ◌∙◌, ◌<◌, List, length, Some, ap, subst, sym, arith}
use Rattle.std.specs.Prelude.{slice_index_or}
use Rattle.rib_store.specs.declared.command.Reply.{Reply}
use Rattle.rib_store.specs.declared.command.Reply.TheVariants.{Added}
use Rattle.fib_sync.specs.Replies.{reply_at}
use Rattle.replay_run.specs.Family.{Followed}
use Rattle.replay_run.proofs.FamilyLemmas.{known_run}
use Rattle.replay_run.proofs.ReplyLemmas.{length-replies, replies_few, reply_found}
use Rattle.replay_run.proofs.family.Family.next_reply.Goals as goal

pub bounds-replies-self-inside : goal.bounds-replies-self-inside
bounds-replies-self-inside g c =
    let i = c.self.inside in
    let control = c.self.invariant.control in
    let more = subst (λ (f : Followed g.row.W). f.commands < f.known) (sym c.self.view_is) c.requires in
    let run = known_run g.row.K g.row.LIVE i.control control i.commands i.ahead more in
    let len = length-replies g.row.LIVE i.control.plan i.control.commands control.within in
    let whole = ap (λ (rs : List Reply). length rs) (c.replies.ensures.replies ∙ control.replies) in
    omega (arith, run, len, whole)

pub returns-clause-reply : goal.returns-clause-reply
returns-clause-reply g c =
    let i = c.self.inside in
    let control = c.self.invariant.control in
    let more = subst (λ (f : Followed g.row.W). f.commands < f.known) (sym c.self.view_is) c.requires in
    let run = known_run g.row.K g.row.LIVE i.control control i.commands i.ahead more in
    subst (λ (f : Followed g.row.W). Some (slice_index_or c.replies.result.now i.commands Added) ≡ reply_at g.row.LIVE f.plan f.commands) c.self.view_is
    (reply_found g.row.LIVE i.control.plan i.commands i.control.commands c.replies.result.now Added (c.replies.ensures.replies ∙ control.replies) run control.within)

pub returns-clause-flushes : goal.returns-clause-flushes
returns-clause-flushes g c =
    let i = c.self.inside in
    let control = c.self.invariant.control in
    let more = subst (λ (f : Followed g.row.W). f.commands < f.known) (sym c.self.view_is) c.requires in
    let run = known_run g.row.K g.row.LIVE i.control control i.commands i.ahead more in
    replies_few g.row.LIVE i.control.plan i.commands _
    (reply_found g.row.LIVE i.control.plan i.commands i.control.commands c.replies.result.now Added (c.replies.ensures.replies ∙ control.replies) run control.within)
