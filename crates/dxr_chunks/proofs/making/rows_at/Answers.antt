use Rattle.std.proofs.Common.{◌≡◌, ◌∙◌, ◌+◌, ◌*◌, ◌++◌, List, ℕ, true, rules, ap, sym, subst}
use Rattle.std.specs.Option.{option_to_list}
use Rattle.prefix_width.specs.Prefix.{Block, contains, masked_block}
use Rattle.module_trait.specs.Rows.{IsAscending}
use Rattle.module_trait.specs.Starts.{index_at}
use Rattle.dxr_chunks.proofs.ChunkLemmas.{inside}
use Rattle.dxr_chunks.proofs.RowLemmas.{same_index, up_decisive}
use Rattle.dxr_chunks.proofs.making.rows_at.Goals as goal

pub returns-clause-ascending : goal.returns-clause-ascending
returns-clause-ascending g c =
    let items = c.in_ok-rows.ensures ∙ ap (λ (xs : List (Block × ℕ)). option_to_list c.cover-cover.result ++ xs) (c.as_slice.ensures.value ∙ c.in_ok-under.ensures) in
    subst IsAscending (sym items)
    (up_decisive g.row.W c.args.view.now c.in-Some-masked.prefix c.cover-cover.result c.len-block.ensures.block c.len-len.ensures.blocks c.len-len.ensures.ascending c.cover-cover.ensures.found c.cover-cover.ensures.none)

pub returns-clause-answers : goal.returns-clause-answers
returns-clause-answers g c = λ x fits.
    let w = g.row.W in
    let p = c.in-Some-masked.prefix in
    let view = c.args.view.now in
    let a = c.args.chunk * 65536 + x in
    let items = c.in_ok-rows.ensures ∙ ap (λ (xs : List (Block × ℕ)). option_to_list c.cover-cover.result ++ xs) (c.as_slice.ensures.value ∙ c.in_ok-under.ensures) in
    let first : c.in-Some.first ≡ c.args.chunk * 65536 = search rules in
    let prefix : p ≡ masked_block w c.in-Some.first 16 = search rules in
    let holds : contains w p a ≡ true = subst (λ (q : Block). contains w q a ≡ true) (sym prefix) (inside w c.args.chunk c.in-Some.first x c.requires.width first fits) in
    let same = same_index w view p c.cover-cover.result c.len-block.ensures.block c.len-len.ensures.blocks c.len-len.ensures.ascending c.cover-cover.ensures.found c.cover-cover.ensures.none a holds in
    subst (λ n. index_at n c.in_ok-rows.rows.items a ≡ index_at n view a) c.requires.width (subst (λ (rs : List (Block × ℕ)). index_at w rs a ≡ index_at w view a) (sym items) same)
