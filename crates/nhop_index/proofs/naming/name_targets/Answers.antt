use Rattle.std.proofs.Common.{◌≡◌, ℕ, ◌+◌, ◌-◌, ◌<◌, ◌≤◌, sym, ap, ◌∙◌, arith, Some, None, Option, List, [], ◌∷◌, ◌++◌, drop}
use Rattle.std.proofs.lemmas.List.{drop_more}
use Rattle.nhgrp_slots.specs.Target.{target_cmp}
use Rattle.nhgrp_slots.proofs.TargetOrder.{target_total, target_exact}
use Rattle.nhop_index.specs.Indexes.{index_in, named}
use Rattle.nhop_index.proofs.NamingLemmas.{kept_step, fresh_step, ends, later_greater, fresh_kept, fresh_more, new_free, covers_more, rises_push}
use Rattle.nhop_index.proofs.VersionLemmas.{found, used_named}
use Rattle.nhop_index.proofs.naming.name_targets.Goals as goal
use Rattle.nhop_index.proofs.naming.name_targets.Goals.{in-Some, in-None+in_ok-push-in-None}

pub loop-target-preserved : goal.loop-target-preserved
loop-target-preserved g c =
    let i = c.loop-target.target-index in
    let live = c.args.live.now in
    let before = c.args.before.now in
    let t = c.target-item.result in
    let x = c.match-index_from.index in
    let split : drop i live ≡ t ∷ drop (i + 1) live = drop_more live i t c.loop-target-test.true ∙ ap (λ s. s ∷ drop (i + 1) live) (sym c.target-item.is) in
    let put : c.push-in-loop-target.new.self.items ≡ c.loop-target.names.items ++ ((t, x) ∷ []) = c.in_ok-push.ensures.items ∙ ap (λ s. c.loop-target.names.items ++ ((s, x) ∷ [])) c.in_ok-copy.ensures in
    record {
      room = elim c.match-index_from.branch [ in-Some w ↦ omega arith | in-None+in_ok-push-in-None w ↦ omega arith ];
      past = λ k s h at. c.index_from.ensures.past s (later_greater target_cmp target_total live i k t s c.requires.ascends (omega arith) c.target-item.is at);
      rises = elim c.match-index_from.branch [
        | in-Some w ↦ rw (w.fresh-is, w.next-is) c.loop-target.invariant.rises
        | in-None+in_ok-push-in-None w ↦
            let r = w.take_unused-index.ensures.rises in
            rw (w.fresh-is, w.next-is, w.in_ok-push-in-None.ensures.items) (rises_push _ _ _ _ c.loop-target.invariant.rises r.0 r.1)
      ];
      named = λ u start. rw put (
          let now = c.loop-target.invariant.named u start in
          elim c.match-index_from.branch [
            | in-Some w ↦ (
                let found' : index_in target_cmp before t ≡ Some x = sym w.in-Some.ensures.index ∙ ap Some (sym w.index-is) in (
                  now.0,
                  rw w.next-is now.1,
                  (λ covers. (
                    (now.2 covers).0,
                    rw w.fresh-is (fresh_kept before c.loop-target.names.items t x _ (used_named target_cmp target_exact before t x (found target_cmp target_exact before t x found')) (now.2 covers).1),
                  )),
                  kept_step target_cmp _ _ _ _ t x now.0 _ split found' now.3,
                ))
            | in-None+in_ok-push-in-None w ↦ (
                let found' : index_in target_cmp before t ≡ None = sym w.in-None.ensures.index in
                let h = w.take_unused-index.ensures.least now.0 now.1 in
                let least = w.index-is ∙ h.0 in (
                  x ∷ now.0,
                  rw (w.index-is, w.next-is) h.1,
                  (λ covers. (
                    covers_more before now.0 x (now.2 covers).0,
                    rw (w.fresh-is, w.in_ok-push-in-None.ensures.items, ← w.index-is) (fresh_more _ _ t _ _ (new_free before now.0 x (now.2 covers).0 least) (now.2 covers).1),
                  )),
                  fresh_step target_cmp _ _ _ _ t x now.0 _ split found' least now.3,
                ))
          ]);
    }

pub returns-clause-names : goal.returns-clause-names
returns-clause-names g c = λ u start.
    let now = c.loop-target.invariant.named u start in
    ends target_cmp _ _ _ _ _ now.0 now.3 c.loop-target-test.false

pub returns-clause-fresh : goal.returns-clause-fresh
returns-clause-fresh g c = λ u start covers. ((c.loop-target.invariant.named u start).2 covers).1
