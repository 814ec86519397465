use Rattle.std.proofs.Common.{◌≡◌, ◌∙◌, List, ℕ, ◌<◌, sym, subst, ap, get_or}
use Rattle.std.specs.Map.{keys_of}
use Rattle.std.proofs.lemmas.List.Elements.{All-from_recursion}
use Rattle.module_trait.specs.Starts.{index_at}
use Rattle.dxr_chunks.specs.declared.made.Made.{Made}
use Rattle.dxr_chunks.specs.Chunk.{AreMade}
use Rattle.dxr_chunks.proofs.ApplyLemmas.{made_push}
use Rattle.dxr_chunks.proofs.ChunkLemmas.{keys_more}
use Rattle.dxr_chunks.proofs.making.make_each.Goals as goal

pub loop-chunk-preserved : goal.loop-chunk-preserved
loop-chunk-preserved g c =
    let answer = index_at 32 c.args.view.now in
    let chunks = c.args.chunks.now in
    let news = c.loop-chunk.news.items in
    let i = c.loop-chunk.chunk-index in
    let k = get_or chunks i 0 in
    let items = c.in_ok-push.ensures.items in
    let fits = All-from_recursion (λ n. n < 65536) chunks c.requires.chunks i 0 c.loop-chunk-test.true in
    record {
      made = subst (AreMade answer) (sym items) (made_push answer news (k, c.in_ok-made.made) c.loop-chunk.invariant.made fits c.in_ok-made.ensures);
      keys = ap (λ (xs : List (ℕ × Made)). keys_of xs) items ∙ keys_more news c.in_ok-made.made chunks i c.loop-chunk-test.true c.loop-chunk.invariant.keys;
    }
