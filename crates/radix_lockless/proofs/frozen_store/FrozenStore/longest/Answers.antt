use Rattle.std.proofs.Common.{lit<, ◌≡◌, ap, rules, List, Option}
use Rattle.module_trait.specs.Nodes.{Frozen, frozen_at}
use Rattle.radix_lockless.specs.declared.node.Node.{Node}
use Rattle.radix_lockless.specs.declared.store.TheConstants.{PAGE}
use Rattle.radix_lockless.proofs.StoreLemmas.{stands_seen}
use Rattle.radix_lockless.proofs.frozen_store.FrozenStore.longest.Goals as goal

pub longest_in-requires : goal.longest_in-requires
longest_in-requires g c =
    let same : c.args.self.now ≡ c.self.inside.narrow = search rules in
    (lit< tt, (c.requires.0, stands_seen _ _ c.args.root _ (ap (λ (x : Frozen (Node g.row.W)). frozen_at PAGE x) same) c.requires.1))

pub longest_in-requires-else-this-le32 : goal.longest_in-requires-else-this-le32
longest_in-requires-else-this-le32 g c =
    let same : c.args.self.now ≡ c.self.inside.wide = search rules in
    (lit< tt, (c.requires.0, stands_seen _ _ c.args.root _ (ap (λ (x : Frozen (Node g.row.W)). frozen_at PAGE x) same) c.requires.1))

pub returns-then-this-le32-clause-answer : goal.returns-then-this-le32-clause-answer
returns-then-this-le32-clause-answer g c =
    let same : c.args.self.now ≡ c.self.inside.narrow = search rules in
    λ rows stands. c.longest_in.ensures.answer rows (stands_seen _ _ c.args.root rows (ap (λ (x : Frozen (Node g.row.W)). frozen_at PAGE x) same) stands)

pub returns-else-this-le32-clause-answer : goal.returns-else-this-le32-clause-answer
returns-else-this-le32-clause-answer g c =
    let same : c.args.self.now ≡ c.self.inside.wide = search rules in
    λ rows stands. c.longest_in-else-this-le32.ensures.answer rows (stands_seen _ _ c.args.root rows (ap (λ (x : Frozen (Node g.row.W)). frozen_at PAGE x) same) stands)
