use Rattle.std.proofs.Common.{◌≡◌, ◌∙◌, ℕ, List, [], subst, sym, lit<}
use Rattle.engine_set.specs.declared.entry.Entry.{Entry}
use Rattle.engine_set.specs.Image.{Picture}
use Rattle.fib_sync.specs.Control.{IsImage}
use Rattle.fib_sync.specs.VersionNames.{names_at}
use Rattle.fib_sync.proofs.ControlLemmas.{first_is}
use Rattle.fib_sync.proofs.EntriesLemmas.{if_ok}
use Rattle.fib_sync.proofs.next_version.first_image.Goals as goal

pub make_lawful-requires : goal.make_lawful-requires
make_lawful-requires g c =
    let plan = c.args.runner.now.plan in
    let engine = c.args.engine in
    let first = first_is g.row.K g.row.LIVE plan engine c.requires.stands c.requires.kind in
    let entries : c.in_ok-entries.entries ≡ [] = c.in_ok-entries.ensures ∙ c.new.ensures.items in
    let one = subst (λ (es : List Entry). IsImage g.row.K g.row.LIVE plan 0 (record { version = 0; count = 0; routes = 0; engine = engine; entries = es; fresh = [] })) (sym entries) first in
    let all = subst (λ (f : List (ℕ × ℕ)). IsImage g.row.K g.row.LIVE plan 0 (record { version = 0; count = 0; routes = 0; engine = engine; entries = c.in_ok-entries.entries; fresh = f })) (sym c.new-3.ensures.items) one in
    (lit< tt, (lit< tt, (g.row.LIVE, plan, names_at g.row.K g.row.LIVE plan 0, all.lawful)))

pub returns-clause-image : goal.returns-clause-image
returns-clause-image g c =
    let plan = c.args.runner.now.plan in
    let engine = c.args.engine in
    let first = first_is g.row.K g.row.LIVE plan engine c.requires.stands c.requires.kind in
    let entries : c.in_ok-entries.entries ≡ [] = c.in_ok-entries.ensures ∙ c.new.ensures.items in
    let one = subst (λ (es : List Entry). IsImage g.row.K g.row.LIVE plan 0 (record { version = 0; count = 0; routes = 0; engine = engine; entries = es; fresh = [] })) (sym entries) first in
    let all = subst (λ (f : List (ℕ × ℕ)). IsImage g.row.K g.row.LIVE plan 0 (record { version = 0; count = 0; routes = 0; engine = engine; entries = c.in_ok-entries.entries; fresh = f })) (sym c.new-3.ensures.items) one in
    let made : Picture g.row.W = record { version = 0; count = 0; routes = 0; engine = engine; entries = c.in_ok-entries.entries; fresh = c.new-3.result.items } in
    if_ok (λ (i : Picture g.row.W). i ≡ made) (IsImage g.row.K g.row.LIVE plan 0) c.make_lawful.result (λ i e. subst (IsImage g.row.K g.row.LIVE plan 0) (sym e) all) c.make_lawful.ensures
