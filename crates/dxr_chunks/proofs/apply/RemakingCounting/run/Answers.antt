use Rattle.std.proofs.Common.{◌≡◌, ◌+◌, ◌≤◌, ◌∷◌, ◌++◌, [], List, ℕ, arith, subst, ap, ◌∙◌}
use Rattle.dxr_chunks.specs.declared.made.Made.{Made}
use Rattle.dxr_chunks.specs.declared.store.Store.{Store}
use Rattle.dxr_chunks.specs.Chunk.{AreMade, runs_in}
use Rattle.dxr_chunks.proofs.ApplyLemmas.{IsRemaking, has_two, made_split, remaking_more, runs_push}
use Rattle.dxr_chunks.proofs.apply.RemakingCounting.run.Goals as goal

pub put-requires-clause-chunk : goal.put-requires-clause-chunk
put-requires-clause-chunk g c =
    let made = c.loop-chunk.invariant.made in
    (made_split made.0 c.pop.new.self.items (c.in-Some.chunk, c.in-Some.made) (subst (AreMade made.0) c.in-Some.ensures.items made.1)).1

pub put-requires-clause-fits : goal.put-requires-clause-fits
put-requires-clause-fits g c =
    let made = c.loop-chunk.invariant.made in
    has_two made.0 c.in-Some.chunk c.in-Some.made (made_split made.0 c.pop.new.self.items (c.in-Some.chunk, c.in-Some.made) (subst (AreMade made.0) c.in-Some.ensures.items made.1)).2

pub put-requires-clause-room : goal.put-requires-clause-room
put-requires-clause-room g c =
    let room = c.loop-chunk.invariant.room in
    let runs = ap runs_in c.in-Some.ensures.items ∙ runs_push c.pop.new.self.items (c.in-Some.chunk, c.in-Some.made) in
    omega (arith, room, runs)

pub loop-chunk-preserved : goal.loop-chunk-preserved
loop-chunk-preserved g c =
    let made = c.loop-chunk.invariant.made in
    let room = c.loop-chunk.invariant.room in
    let runs = ap runs_in c.in-Some.ensures.items ∙ runs_push c.pop.new.self.items (c.in-Some.chunk, c.in-Some.made) in
    let left = c.put.ensures.room in
    let old = c.args.self.now.store in
    let mid = c.loop-chunk.self.store in
    let all = c.args.self.now.news.items in
    record {
      remaking =
          remaking_more old mid c.put.new.self all c.pop.new.self.items c.in-Some.chunk c.in-Some.made
          (subst (λ (xs : List (ℕ × Made)). IsRemaking old mid all xs) c.in-Some.ensures.items c.loop-chunk.invariant.remaking) c.put.ensures;
      made = (made.0, (made_split made.0 c.pop.new.self.items (c.in-Some.chunk, c.in-Some.made) (subst (AreMade made.0) c.in-Some.ensures.items made.1)).0);
      room = omega (arith, room, runs, left);
    }
