-- The edits lead from the version of the view to the next, and back.
use Rattle.std.proofs.Common.{◌∙◌, Ok, ap, sym, subst, lit<}
use Rattle.module_trait.specs.Rows.{AreRows, HaveIndexes}
use Rattle.engine_set.specs.Engine.{Stands, kind_of}
use Rattle.fib_edits.specs.Edits.{AreEdits, done_all}
use Rattle.fib_edits.specs.Named.{indexed, number_in}
use Rattle.fib_edits.proofs.CutLemmas.{indexes-indexed, moved}
use Rattle.fib_sync.specs.Working.{CameBy, IsAnew, WorksAt}
use Rattle.fib_sync.specs.declared.working.Working.{Working}
use Rattle.fib_sync.proofs.WorkLemmas.{cut_of, others_anew}
use Rattle.fib_sync.proofs.working.Working.move_on.Goals as goal
use Rattle.fib_sync.proofs.working.Working.move_on.Goals.{then-not-branch+in_ok-rows+in_ok-self, else-not-branch}

pub edits-requires : goal.edits-requires
edits-requires g c =
    let m = c.requires.moves in
    let have : HaveIndexes c.args.self.now.view = subst HaveIndexes (sym m.2.works.view) (indexes-indexed m.0 m.1 m.2.named) in
    (lit< tt, (lit< tt, (lit< tt, (lit< tt, (lit< tt, (c.requires.named, have))))))

pub takes-requires : goal.takes-requires
takes-requires g c =
    let m = c.requires.moves in
    let new = number_in c.args.indexes.now.names in
    let cut = cut_of m.0 new m.1 c.args.rib.now.rows c.args.touched.now c.args.self.now m.2 c.requires.named c.len-2.ensures.ascending c.len.ensures.ascending c.len-3.ensures.ascending in
    let step = moved m.0 new m.1 c.args.rib.now.rows c.args.touched.now cut c.args.self.now.view c.follow.new.view c.deref-2.result.now m.2.works.view (c.deref-2.ensures.value ∙ c.in_ok-edits.ensures)
    (c.in_ok-follow.ensures ∙ ap (λ e. done_all e c.args.self.now.view) (c.deref.ensures.value ∙ sym c.deref-2.ensures.value)) in
    (lit< tt, (lit< tt, (step.are.distinct, (step.are.after, (subst (Stands c.args.self.now.engine) (sym (step.back ∙ m.2.works.view)) m.2.works.engine, c.requires.updater)))))

pub build-requires : goal.build-requires
build-requires g c =
    let m = c.requires.moves in
    let new = number_in c.args.indexes.now.names in
    let cut = cut_of m.0 new m.1 c.args.rib.now.rows c.args.touched.now c.args.self.now m.2 c.requires.named c.len-2.ensures.ascending c.len.ensures.ascending c.len-3.ensures.ascending in
    let step = moved m.0 new m.1 c.args.rib.now.rows c.args.touched.now cut c.args.self.now.view c.follow.new.view c.deref-2.result.now m.2.works.view (c.deref-2.ensures.value ∙ c.in_ok-edits.ensures)
    (c.in_ok-follow.ensures ∙ ap (λ e. done_all e c.args.self.now.view) (c.deref.ensures.value ∙ sym c.deref-2.ensures.value)) in
    (lit< tt, (lit< tt, (c.requires.suits, subst AreRows (sym (c.deref-then-not-branch.ensures.value ∙ c.in_ok-rows.ensures.value ∙ c.takes.ensures.view)) step.rows)))

pub returns-clause-works : goal.returns-clause-works
returns-clause-works g c =
    let m = c.requires.moves in
    let new = number_in c.args.indexes.now.names in
    let cut = cut_of m.0 new m.1 c.args.rib.now.rows c.args.touched.now c.args.self.now m.2 c.requires.named c.len-2.ensures.ascending c.len.ensures.ascending c.len-3.ensures.ascending in
    let step = moved m.0 new m.1 c.args.rib.now.rows c.args.touched.now cut c.args.self.now.view c.follow.new.view c.deref-2.result.now m.2.works.view (c.deref-2.ensures.value ∙ c.in_ok-edits.ensures)
    (c.in_ok-follow.ensures ∙ ap (λ e. done_all e c.args.self.now.view) (c.deref.ensures.value ∙ sym c.deref-2.ensures.value)) in
    let rows = indexed new c.args.rib.now.rows in
    elim c.if-not-branch.branch [
      | then-not-branch+in_ok-rows+in_ok-self w ↦
          subst (WorksAt c.args.kind rows) (sym w.self-is) (record {
            view = c.takes.ensures.view ∙ step.now;
            engine = subst (Stands w.in_ok-self.field-0) (w.deref-then-not-branch.ensures.value ∙ w.in_ok-rows.ensures.value ∙ c.takes.ensures.view ∙ step.now) w.in_ok-self.ensures.stands;
            same_kind = w.in_ok-self.ensures.kind;
          })
      | else-not-branch w ↦
          let done = c.in_ok-takes.was ∙ ap (λ b. Ok b) w.if-not-branch.false in
          subst (WorksAt c.args.kind rows) (sym w.self-is) (record {
            view = c.takes.ensures.view ∙ step.now;
            engine = subst (Stands c.takes.new.self.engine) step.now (c.takes.ensures.stands done);
            same_kind = c.takes.ensures.kind done;
          })
    ]

pub returns-clause-came : goal.returns-clause-came
returns-clause-came g c =
    let m = c.requires.moves in
    let new = number_in c.args.indexes.now.names in
    let cut = cut_of m.0 new m.1 c.args.rib.now.rows c.args.touched.now c.args.self.now m.2 c.requires.named c.len-2.ensures.ascending c.len.ensures.ascending c.len-3.ensures.ascending in
    let step = moved m.0 new m.1 c.args.rib.now.rows c.args.touched.now cut c.args.self.now.view c.follow.new.view c.deref-2.result.now m.2.works.view (c.deref-2.ensures.value ∙ c.in_ok-edits.ensures)
    (c.in_ok-follow.ensures ∙ ap (λ e. done_all e c.args.self.now.view) (c.deref.ensures.value ∙ sym c.deref-2.ensures.value)) in
    let rows = indexed new c.args.rib.now.rows in
    let old = c.args.self.now in
    let are : AreEdits old.view rows c.deref-2.result.now = subst (λ v. AreEdits old.view v c.deref-2.result.now) step.now step.are in
    elim c.if-not-branch.branch [
      | then-not-branch+in_ok-rows+in_ok-self w ↦
          let no = c.takes.ensures.no (c.in_ok-takes.was ∙ ap (λ b. Ok b) w.if-not-branch.true) in
          subst (λ (s : Working g.row.W). CameBy old.view rows old.engine s.engine) (sym w.self-is) (record {
            edits = c.deref-2.result.now;
            are = are;
            others = others_anew c.deref-2.result.now old.engine w.in_ok-self.field-0 (subst (IsAnew c.deref-2.result.now (kind_of old.engine)) (sym w.in_ok-self.ensures.kind) no);
          })
      | else-not-branch w ↦
          let done = c.in_ok-takes.was ∙ ap (λ b. Ok b) w.if-not-branch.false in
          subst (λ (s : Working g.row.W). CameBy old.view rows old.engine s.engine) (sym w.self-is) (record {
            edits = c.deref-2.result.now;
            are = are;
            others = c.takes.ensures.others done;
          })
    ]
