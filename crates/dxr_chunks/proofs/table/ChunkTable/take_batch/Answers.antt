use Rattle.std.proofs.Common.{◌≡◌, ◌∙◌, ◌≤◌, arith, length, sym, subst}
use Rattle.module_trait.specs.Rows.{AreBlocks}
use Rattle.dxr_chunks.proofs.TableLemmas.{remade_table, untouched_kept}
use Rattle.dxr_chunks.proofs.TouchLemmas.{few_touched}
use Rattle.dxr_chunks.proofs.table.ChunkTable.take_batch.Goals as goal

pub returns-clause-verdict : goal.returns-clause-verdict
returns-clause-verdict g c =
    let few : length c.in_ok-chunks.chunks.items ≤ 4096 = (let less = c.if-len-gt-MOST.false in let len = c.len.ensures in omega (arith, less, len)) in
    ((λ e. absurd (let no = e in cc)), (λ done. few_touched 4096 c.args.edits.now c.in_ok-chunks.chunks.items c.in_ok-chunks.ensures.touched few))

pub returns-clause-done : goal.returns-clause-done
returns-clause-done g c = λ done.
    let few : length c.in_ok-chunks.chunks.items ≤ 4096 = (let less = c.if-len-gt-MOST.false in let len = c.len.ensures in omega (arith, less, len)) in
    remade_table c.args.edits.now c.args.view.now c.in_ok-chunks.chunks.items c.in_ok-news.news.items c.args.self.now c.put_in.new.self c.in_ok-put_in.ensures.ok
    (c.in_ok-news.ensures.keys ∙ c.as_slice.ensures.value) c.in_ok-chunks.ensures.touched few c.in_ok-news.ensures.made c.requires.before c.in_ok-chunks.ensures.prefixes c.read_edits.ensures c.requires.after
    (subst (λ n. AreBlocks n c.args.view.now) c.requires.width c.len-len.ensures.blocks) c.len-len.ensures.ascending

pub returns-clause-untouched : goal.returns-clause-untouched
returns-clause-untouched g c = λ done.
    untouched_kept c.args.edits.now c.args.view.now c.in_ok-chunks.chunks.items c.in_ok-news.news.items c.args.self.now c.put_in.new.self c.in_ok-put_in.ensures.ok
    (c.in_ok-news.ensures.keys ∙ c.as_slice.ensures.value) c.in_ok-chunks.ensures.touched
