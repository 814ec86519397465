use Rattle.std.proofs.Common.{◌≡◌, ◌∙◌, ◌+◌, ◌∷◌, ◌++◌, [], ℕ, List, length, sym, ap, subst, arith}
use Rattle.dxr_table.specs.Dxr.{Dxr}
use Rattle.dxr_table.specs.Making.{AreMade}
use Rattle.dxr_table.proofs.ChunkLemmas.{IsTaken, added_chunk, made_more}
use Rattle.dxr_table.proofs.making.Chunks.add.Goals as goal

pub returns-clause-made : goal.returns-clause-made
returns-clause-made c = λ made.
    let cells = c.args.cells.now in
    let k = c.args.chunk in
    let old = c.self.inside.fragments.items in
    let middle = c.add_run.new.fragments.items in
    let new = c.take_single-index.new.fragments.items in
    let index = c.take_single-index.result in
    let table : Dxr = record { firsts = c.self.inside.firsts.items; indexes = c.self.inside.indexes.items; fragments = old } in
    let made1 : AreMade cells k table = subst (AreMade cells k) (sym c.self.view_is) made in
    let first : length old ≡ c.len-first.result = (let n = c.len-first.ensures in let ok = c.self.inside.fragments.ok in omega (arith, n, ok)) in
    let taken : IsTaken (length old) index middle new = record {
      single = λ front only is len. c.take_single-index.ensures.single front only is (len ∙ first);
      run = λ two. c.take_single-index.ensures.run (let ok = c.add_run.new.fragments.ok in omega (arith, two, first, ok));
    } in
    let more = made_more cells k table index new made1 (added_chunk cells k index old middle new c.in_ok-passed.ensures.run taken) in
    let place : c.in_ok-place_of.field-0 ≡ length new = (let a = c.in_ok-place_of.ensures in let n = c.len.ensures in let ok = c.take_single-index.new.fragments.ok in omega (arith, a, n, ok)) in
    let firsts : c.push-2.new.self.items ≡ c.self.inside.firsts.items ++ length new ∷ [] = c.in_ok-push-2.ensures.items ∙ ap (λ n. c.self.inside.firsts.items ++ n ∷ []) place in
    let indexes : c.push.new.self.items ≡ c.self.inside.indexes.items ++ index ∷ [] = c.in_ok-push.ensures.items in
    subst (λ (xs : List ℕ). AreMade cells (k + 1) (record { firsts = xs; indexes = c.push.new.self.items; fragments = new })) (sym firsts)
    (subst (λ (xs : List ℕ). AreMade cells (k + 1) (record { firsts = c.self.inside.firsts.items ++ length new ∷ []; indexes = xs; fragments = new })) (sym indexes) more)
