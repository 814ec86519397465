use Rattle.std.proofs.Common.{◌≡◌, ◌∙◌, ap, sym, arith, ◌-◌, ℕ, Option, List}
use Rattle.std.specs.Prelude.{unwrap_or}
use Rattle.std.specs.BTreeMap.{is_at}
use Rattle.std.specs.Map.{remove_entry}
use Rattle.std.proofs.lemmas.Map.Steps.{set_value_same}
use Rattle.counted_map.specs.Counts.{count_of}
use Rattle.counted_map.proofs.CountMapLemmas.{remove_ok, set_ok, last_unlinked}
use Rattle.counted_map.proofs.map.CountedMap.release.Goals as goal

pub invariant_of-self : goal.invariant_of-self
invariant_of-self g c =
    set_ok g.K.Ord.cmp g.met.K.Ord.total _ _ _ _ (c.get_mut.follows.holds (c.in-Some.count.now - 1)).0 (omega arith) c.self.invariant.0 c.self.invariant.1

pub invariant_of-self-else-count-gt1 : goal.invariant_of-self-else-count-gt1
invariant_of-self-else-count-gt1 g c =
    let same = (c.get_mut.follows.holds c.in-Some.count.now).0 ∙ set_value_same (is_at (g.K.Ord.cmp c.args.key.now)) c.self.inside.counts.entries c.in-Some.count.now (sym c.in-Some.ensures.value) in
    remove_ok g.K.Ord.cmp g.met.K.Ord.total _ _ _ (c.remove.ensures.entries ∙ ap (remove_entry (is_at (g.K.Ord.cmp c.args.key.now))) same) c.self.invariant.0 c.self.invariant.1

pub returns-else-count-gt1-clause-less : goal.returns-else-count-gt1-clause-less
returns-else-count-gt1-clause-less g c =
    let same = (c.get_mut.follows.holds c.in-Some.count.now).0 ∙ set_value_same (is_at (g.K.Ord.cmp c.args.key.now)) c.self.inside.counts.entries c.in-Some.count.now (sym c.in-Some.ensures.value) in
    let read : c.in-Some.count.now ≡ count_of g.K.Ord.cmp c.args.self.now c.args.key.now =
    ap (λ (o : Option ℕ). unwrap_or o 0) c.in-Some.ensures.value ∙ ap (λ (m : List (g.row.K.Denot × ℕ)). count_of g.K.Ord.cmp m c.args.key.now) c.self.view_is in
    c.remove.ensures.entries
    ∙ ap (remove_entry (is_at (g.K.Ord.cmp c.args.key.now))) (same ∙ c.self.view_is)
    ∙ last_unlinked g.K.Ord.cmp g.met.K.Ord.total c.args.self.now c.args.key.now (omega arith)
