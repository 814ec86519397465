-- A command makes the version that the control has given, or none.
use Rattle.std.proofs.Common.{◌≡◌, ◌∙◌, ◌+◌, ◌<◌, true, ap, subst, sym, arith}
use Rattle.std.specs.Arc.{arc_value}
use Rattle.nhop_index.specs.Book.{Naming as Book}
use Rattle.replay_run.specs.declared.family.Ahead.{Ahead}
use Rattle.replay_run.specs.declared.family.Ahead.TheVariants.{Given}
use Rattle.replay_run.specs.Family.{Followed, IsFamily, is_made_by}
use Rattle.replay_run.proofs.FamilyLemmas.{known_run, made_on, stays_on}
use Rattle.replay_run.proofs.family.Family.count_command.Goals as goal

pub overflow_add-commands : goal.overflow_add-commands
overflow_add-commands g c =
    let i = c.self.inside in
    let more = subst (λ (f : Followed g.row.W). f.commands < f.known) (sym c.self.view_is) c.requires in
    let run = known_run g.row.K g.row.LIVE i.control c.self.invariant.control i.commands i.ahead more in
    omega (arith, run, c.commands-run.ensures.count)

pub invariant_of-self : goal.invariant_of-self
invariant_of-self g c =
    let i = c.self.inside in
    let more = subst (λ (f : Followed g.row.W). f.commands < f.known) (sym c.self.view_is) c.requires in
    stays_on g.row.K g.row.LIVE i.control i.commands (arc_value i.image) i.indexes.names i.ahead c.self.invariant more (sym c.is_made_by.ensures ∙ c.if-not-is_made_by.true)

pub invariant_of-self-2 : goal.invariant_of-self-2
invariant_of-self-2 g c =
    let i = c.self.inside in
    let given : i.ahead ≡ Given c.in-Given.image = sym c.replace.ensures.value ∙ c.in-Given.is in
    let made = subst (λ (a : Ahead g.row.W). is_made_by i.control (i.commands + 1) a ≡ true) given (sym c.is_made_by.ensures ∙ c.if-not-is_made_by.false) in
    let family = subst (λ (a : Ahead g.row.W). IsFamily g.row.K g.row.LIVE i.control i.commands (arc_value i.image) i.indexes.names a) given c.self.invariant in
    let names = ap (λ (n : Book g.row.W). n.names) c.in_ok-indexes.ensures ∙ c.indexes.ensures.names in
    let on = made_on g.row.K g.row.LIVE i.control i.commands (arc_value i.image) c.in-Given.image i.indexes.names c.in_ok-indexes.indexes.names family made names in
    subst (λ (a : Ahead g.row.W). IsFamily g.row.K g.row.LIVE i.control (i.commands + 1) (arc_value c.in-Given.image) c.in_ok-indexes.indexes.names a) (sym c.replace.ensures.after) on
