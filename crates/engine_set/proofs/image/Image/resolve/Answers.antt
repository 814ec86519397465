use Rattle.std.proofs.Common.{◌≡◌, ◌∙◌, subst, sym, Some}
use Rattle.engine_set.specs.declared.entry.Entry.TheVariants.{Nexthop}
use Rattle.engine_set.specs.Entry.{entry_at}
use Rattle.engine_set.proofs.EntryLemmas.{longest_named, leads}
use Rattle.engine_set.proofs.image.Image.resolve.Goals as goal

pub pick-requires : goal.pick-requires
pick-requires g c =
    let there = c.self.invariant.there in
    longest_named c.self.inside.entries g.row.W there.rows c.args.addr c.in_ok-index.index there.named (c.in_ok-index.ensures.answer there.rows there.stands)

pub returns-clause-nexthop : goal.returns-clause-nexthop
returns-clause-nexthop g c = λ i same.
    let es = c.self.inside.entries in
    let is = leads es c.in_ok-index.index c.args.flow i c.self.invariant.slots (c.pick.ensures ∙ same) in
    subst (λ p. entry_at p.entries i ≡ Some (Nexthop i)) c.self.view_is is
