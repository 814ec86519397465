use Rattle.std.proofs.Common.{◌≡◌, subst, sym}
use Rattle.dxr_chunks.specs.Form.{chunked}
use Rattle.dxr_chunks.specs.Table.{Chunked, IsLinked, IsSameAs}
use Rattle.dxr_chunks.specs.declared.form.Form.{Form}
use Rattle.dxr_chunks.proofs.ApplyLemmas.{linked_alike}
use Rattle.dxr_chunks.proofs.TableLemmas.{same_table}
use Rattle.dxr_chunks.proofs.table.ChunkTableModule32.copy.Goals as goal

pub invariant_of-result : goal.invariant_of-result
invariant_of-result c =
    let copy = chunked c.in_ok-form.form in
    let same = subst (λ (f : Form). IsSameAs (chunked f) copy) c.get.ensures c.in_ok-form.ensures.same in
    subst (λ (f : Form). IsLinked (chunked f)) (sym c.in_ok-new.ensures) (linked_alike (chunked c.self.inside.form) copy same c.self.invariant)

pub returns-clause-stands : goal.returns-clause-stands
returns-clause-stands c =
    let copy = chunked c.in_ok-form.form in
    let same = subst (λ (f : Form). IsSameAs (chunked f) copy) c.get.ensures c.in_ok-form.ensures.same in
    let seen = subst (λ (x : Chunked). IsSameAs x copy) c.self.view_is same in
    λ rows stands. rw c.in_ok-new.ensures (same_table rows c.args.self.now copy seen stands)
