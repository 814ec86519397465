-- The named fibs are the script's.
use Rattle.std.proofs.Common.{◌∙◌}
use Rattle.std.proofs.lemmas.Result.{IfOk-weaker}
use Rattle.threaded_replay.specs.Legal.{Inet, Inet6}
use Rattle.threaded_replay.specs.Merging.{version_in}
use Rattle.threaded_replay.proofs.LegalLemmas.{legal_here, right_here, run_here}
use Rattle.threaded_replay.proofs.ResultLemmas.{IfOk-both}
use Rattle.threaded_replay.proofs.gets.answer_gets.Goals as goal

pub returns-clause-right : goal.returns-clause-right
returns-clause-right g c =
    IfOk-weaker c.answer_named.result _ _
    (λ ran right. right_here c.args.script.now c.args.fibs.inet.publisher.key c.args.fibs.inet6.publisher.key c.deref.result.now
    c.requires.inet.key c.requires.inet6.key (c.deref.ensures.value ∙ c.in_ok-asks.ensures.gets) ran.gots.items right)
    c.answer_named.ensures.right

pub returns-clause-legal : goal.returns-clause-legal
returns-clause-legal g c =
    IfOk-both c.answer_named.result _ _ _
    (λ ran right rising. legal_here c.args.script.now c.args.fibs.inet.publisher.key c.args.fibs.inet6.publisher.key c.deref.result.now
    c.requires.inet.key c.requires.inet6.key (c.deref.ensures.value ∙ c.in_ok-asks.ensures.gets) _ ran.gots.items right rising)
    c.answer_named.ensures.right c.answer_named.ensures.rising

pub returns-clause-inet : goal.returns-clause-inet
returns-clause-inet g c =
    IfOk-both c.answer_named.result _ _ _
    (λ ran through made. run_here c.args.script.now c.args.fibs.inet.publisher.key c.args.fibs.inet6.publisher.key c.deref.result.now
    c.requires.inet.key c.requires.inet6.key (c.deref.ensures.value ∙ c.in_ok-asks.ensures.gets)
    _ (version_in ran.gots.items) Inet c.args.fibs.inet.publisher.key c.args.script.now.inet c.requires.inet.key c.args.fibs.inet ran.fibs.inet through made)
    c.answer_named.ensures.through c.answer_named.ensures.made

pub returns-clause-inet6 : goal.returns-clause-inet6
returns-clause-inet6 g c =
    IfOk-both c.answer_named.result _ _ _
    (λ ran through made. run_here c.args.script.now c.args.fibs.inet.publisher.key c.args.fibs.inet6.publisher.key c.deref.result.now
    c.requires.inet.key c.requires.inet6.key (c.deref.ensures.value ∙ c.in_ok-asks.ensures.gets)
    _ (version_in ran.gots.items) Inet6 c.args.fibs.inet6.publisher.key c.args.script.now.inet6 c.requires.inet6.key c.args.fibs.inet6 ran.fibs.inet6 through made)
    c.answer_named.ensures.through6 c.answer_named.ensures.made6
