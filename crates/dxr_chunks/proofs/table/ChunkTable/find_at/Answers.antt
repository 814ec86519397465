use Rattle.std.proofs.Common.{◌≡◌, ◌∙◌, ap, sym, subst}
use Rattle.module_trait.specs.Starts.{index_at}
use Rattle.module_trait.proofs.IndexLemmas.{index_longest, one_is_some, zero_is_none}
use Rattle.dxr_chunks.proofs.CellLemmas.{whole_address}
use Rattle.dxr_chunks.proofs.table.ChunkTable.find_at.Goals as goal

pub returns-then-index-eq0-clause-answer : goal.returns-then-index-eq0-clause-answer
returns-then-index-eq0-clause-answer g c = λ rows stands.
    let w = g.row.W in
    let a = c.args.addr.now in
    let index_32 : c.index_at-index.result ≡ index_at 32 rows a =
    c.index_at-index.ensures.answer (index_at 32 rows) stands.chunks ∙ ap (index_at 32 rows) (whole_address c.value-value.result ∙ c.value-value.ensures.value) in
    let index = subst (λ n. c.index_at-index.result ≡ index_at n rows a) (sym c.requires) index_32 in
    zero_is_none _ c.index_at-index.result (index_longest w rows a stands.indexed) index c.if-index-eq0.true

pub returns-else-index-eq0-clause-answer : goal.returns-else-index-eq0-clause-answer
returns-else-index-eq0-clause-answer g c = λ rows stands.
    let w = g.row.W in
    let a = c.args.addr.now in
    let index_32 : c.index_at-index.result ≡ index_at 32 rows a =
    c.index_at-index.ensures.answer (index_at 32 rows) stands.chunks ∙ ap (index_at 32 rows) (whole_address c.value-value.result ∙ c.value-value.ensures.value) in
    let index = subst (λ n. c.index_at-index.result ≡ index_at n rows a) (sym c.requires) index_32 in
    one_is_some _ c.index_at-index.result (index_longest w rows a stands.indexed) index c.if-index-eq0.false
