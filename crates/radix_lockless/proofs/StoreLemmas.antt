-- A node at its key in the form in which it is kept.
use Rattle.std.proofs.Common.{◌≡◌, ℕ, List, Option, Some, ap, subst, sym, ◌∙◌}
use Rattle.std.proofs.Math.Path.{fun_ext}
use Rattle.std.proofs.lemmas.Iterator.Adapters.{option_map_id}
use Rattle.std.specs.Option.{option_map}
use Rattle.prefix_width.specs.Prefix.{Block}
use Rattle.radix_lockless.specs.declared.node.Node.{Node}
use Rattle.radix_lockless.specs.Packed.{seen}
use Rattle.radix_lockless.specs.Trie.{StandsFor}

pub seen_at : {P N : Type 0} (node : P → N) (nodes : ℕ → Option P) (key : ℕ) (kept : P) → nodes key ≡ Some kept → seen node nodes key ≡ Some (node kept)
seen_at node nodes key kept there = ap (λ o. option_map node o) there

-- nodes that are kept as themselves are seen as they are
pub seen_same : {W : ℕ} (nodes : ℕ → Option (Node W)) → seen (λ node. node) nodes ≡ nodes
seen_same nodes = fun_ext (λ key. option_map_id (nodes key))

module _ {W : ℕ} where
  pub stands_seen : (nodes nodes' : ℕ → Option (Node W)) (root : Option ℕ) (rows : List (Block × ℕ)) → nodes ≡ nodes' → StandsFor nodes root rows → StandsFor (seen (λ node. node) nodes') root rows
  stands_seen nodes nodes' root rows e stands = subst (λ (f : ℕ → Option (Node W)). StandsFor f root rows) (e ∙ sym (seen_same nodes')) stands
