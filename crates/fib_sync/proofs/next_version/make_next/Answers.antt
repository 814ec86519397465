use Rattle.std.proofs.Common.{◌≡◌, ◌∙◌, ◌+◌, Option, ap, subst, sym, arith, lit<}
use Rattle.engine_set.specs.Engine.{SameNodes, Stands, kind_of}
use Rattle.engine_set.specs.declared.engine.Engine.{Engine}
use Rattle.rib_store.specs.Table.{Table}
use Rattle.plan_cut.specs.VersionTable.{table_at}
use Rattle.fib_edits.specs.Named.{AreNamed, indexed, number_in}
use Rattle.fib_sync.specs.Control.{CameByEdits}
use Rattle.fib_sync.specs.Standing.{IsAt}
use Rattle.fib_sync.specs.VersionNames.{naming_at}
use Rattle.fib_sync.specs.Working.{MayMove}
use Rattle.fib_sync.specs.declared.working.Working.{Working}
use Rattle.fib_sync.proofs.ControlLemmas.{came_is, may_move, named_next, rows_next}
use Rattle.fib_sync.proofs.NamingLemmas.{next_is}
use Rattle.fib_sync.proofs.next_version.make_next.Goals as goal

pub moved-requires : goal.moved-requires
moved-requires g c =
    let K = g.row.K in
    let most = g.row.LIVE in
    let r = c.args.runner.now in
    let at = c.requires.at in
    let v = c.args.last.now.version in
    let number : r.made.number ≡ v + 1 = omega (arith, at.ahead.low, c.requires.due) in
    let is = next_is r.plan v c.args.numbering.now c.in-Some.indexes at.names c.in-Some.is in
    let rib = sym c.rib.ensures.rows in
    let named = subst (AreNamed (number_in c.in-Some.indexes.names)) rib (named_next K most r (v + 1) c.in-Some.indexes.names at.ahead.run number (at.ahead.due c.requires.due) is) in (
      lit< tt,
      (
        lit< tt,
        (
          lit< tt,
          (
            lit< tt,
            (
              c.made-kind.ensures.suits,
              (
                named,
                (
                  λ old e.
                      (let here = subst (λ (k : Option (Working g.row.W)). IsAt r c.args.touched.now c.args.numbering.now k c.args.last.now) e at in (
                        number_in (naming_at K most r.plan v),
                        table_at most r.plan v,
                        subst (λ (t : Table). MayMove (number_in (naming_at K most r.plan v)) (number_in c.in-Some.indexes.names) (table_at most r.plan v) t c.args.touched.now old) rib
                            (may_move r c.args.touched.now c.args.numbering.now old c.args.last.now here c.in-Some.indexes.names is),
                      )),
                  c.requires.updater,
                ),
              ),
            ),
          ),
        ),
      ),
    )

pub next_image-requires : goal.next_image-requires
next_image-requires g c =
    let K = g.row.K in
    let most = g.row.LIVE in
    let r = c.args.runner.now in
    let at = c.requires.at in
    let v = c.args.last.now.version in
    let number : r.made.number ≡ v + 1 = omega (arith, at.ahead.low, c.requires.due) in
    let count = at.ahead.due c.requires.due in
    let is = next_is r.plan v c.args.numbering.now c.in-Some.indexes at.names c.in-Some.is in
    let rows = ap (indexed (number_in c.in-Some.indexes.names)) c.rib.ensures.rows ∙ rows_next K most r (v + 1) c.in-Some.indexes.names at.ahead.run number count is in
    let works = c.in_ok-working.ensures.works in
    let copy = c.in_ok-engine.ensures.copied (indexed (number_in c.in-Some.indexes.names) c.rib.result.now.rows) works.engine in
    (lit< tt, (lit< tt, (lit< tt, (lit< tt, (number, (count, (at.names.now, (is, (at.pictured, (subst (Stands c.in_ok-engine.engine) rows copy.stands, copy.kind ∙ c.copy.ensures.kind ∙ works.same_kind ∙ c.made-kind.ensures.kind))))))))))

pub returns-clause-came : goal.returns-clause-came
returns-clause-came g c = λ old e.
    let K = g.row.K in
    let most = g.row.LIVE in
    let r = c.args.runner.now in
    let at = c.requires.at in
    let v = c.args.last.now.version in
    let number : r.made.number ≡ v + 1 = omega (arith, at.ahead.low, c.requires.due) in
    let count = at.ahead.due c.requires.due in
    let is = next_is r.plan v c.args.numbering.now c.in-Some.indexes at.names c.in-Some.is in
    let rows = ap (indexed (number_in c.in-Some.indexes.names)) c.rib.ensures.rows ∙ rows_next K most r (v + 1) c.in-Some.indexes.names at.ahead.run number count is in
    let works = c.in_ok-working.ensures.works in
    let copy = c.in_ok-engine.ensures.copied (indexed (number_in c.in-Some.indexes.names) c.rib.result.now.rows) works.engine in
    let here = subst (λ (k : Option (Working g.row.W)). IsAt r c.args.touched.now c.args.numbering.now k c.args.last.now) e at in
    let same : c.in_ok-image.image.engine ≡ c.in_ok-engine.engine = c.in_ok-image.ensures.engine in
    let came = came_is r c.args.touched.now c.args.numbering.now old c.args.last.now here (indexed (number_in c.in-Some.indexes.names) c.rib.result.now.rows) c.in_ok-working.working.engine c.copy.new.self.engine c.in_ok-image.image
    rows c.in_ok-image.ensures.image.lawful.version (c.in_ok-working.ensures.came old e) c.copy.ensures.settled c.copy.ensures.kind
    (subst (SameNodes c.copy.new.self.engine) (sym same) copy.same) (ap (λ (x : Engine g.row.W). kind_of x) same ∙ copy.kind) in
    subst (CameByEdits K most r.plan c.args.last.now) (sym c.in_ok-image-2.ensures.ok) came
