use Rattle.std.proofs.Common.{◌≡◌, ◌∙◌, ap}
use Rattle.module_trait.specs.Starts.{index_at}
use Rattle.module_trait.proofs.IndexLemmas.{index_longest, one_is_some, zero_is_none}
use Rattle.dxr_chunks.proofs.CellLemmas.{whole_address}
use Rattle.dxr_table.proofs.table.DxrTableModule32.find.Goals as goal

pub returns-then-index-eq0-clause-answer : goal.returns-then-index-eq0-clause-answer
returns-then-index-eq0-clause-answer g c = λ rows range.
    let value = c.value-value.result in
    let index : c.index_at-index.result ≡ index_at 32 rows c.args.addr.now =
    c.index_at-index.ensures.answer (index_at 32 rows) range.chunks ∙ ap (index_at 32 rows) (whole_address value ∙ c.value-value.ensures.value) in
    zero_is_none _ c.index_at-index.result (index_longest 32 rows c.args.addr.now range.indexed) index c.if-index-eq0.true

pub returns-else-index-eq0-clause-answer : goal.returns-else-index-eq0-clause-answer
returns-else-index-eq0-clause-answer g c = λ rows range.
    let value = c.value-value.result in
    let index : c.index_at-index.result ≡ index_at 32 rows c.args.addr.now =
    c.index_at-index.ensures.answer (index_at 32 rows) range.chunks ∙ ap (index_at 32 rows) (whole_address value ∙ c.value-value.ensures.value) in
    one_is_some _ c.index_at-index.result (index_longest 32 rows c.args.addr.now range.indexed) index c.if-index-eq0.false
