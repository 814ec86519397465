use Rattle.std.proofs.Common.{◌≡◌, sym, subst}
use Rattle.dxr_chunks.specs.declared.form.Form.{Form}
use Rattle.dxr_chunks.specs.Form.{chunked, working}
use Rattle.dxr_chunks.specs.Table.{IsSameAs}
use Rattle.dxr_chunks.proofs.ApplyLemmas.{linked_alike, remade_alike}
use Rattle.dxr_chunks.proofs.form.remake_form.Goals as goal

pub remake-requires-in-Frozen-clause-links : goal.remake-requires-in-Frozen-clause-links
remake-requires-in-Frozen-clause-links c =
    let copy = working c.in_ok-store-in-Frozen.store in
    let same = subst (λ (f : Form). IsSameAs (chunked f) copy) (sym c.in-Frozen.is) c.in_ok-store-in-Frozen.ensures.same in
    linked_alike (chunked c.args.form.now) copy same c.requires.linked

pub returns-in_ok-remake-in-Frozen-clause-ok : goal.returns-in_ok-remake-in-Frozen-clause-ok
returns-in_ok-remake-in-Frozen-clause-ok c =
    let copy = working c.in_ok-store-in-Frozen.store in
    let same = subst (λ (f : Form). IsSameAs (chunked f) copy) (sym c.in-Frozen.is) c.in_ok-store-in-Frozen.ensures.same in
    remade_alike (chunked c.args.form.now) copy (working c.remake-in-Frozen.new.store) c.args.news.items c.in_ok-store-in-Frozen.ensures.settled same c.in_ok-remake-in-Frozen.ensures.ok
