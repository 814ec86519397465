-- Passes that come apart into their seats and what they have beside them.
use Rattle.std.proofs.Common.{◌≡◌, ℕ, ◌+◌, ◌<◌, ◌≤◌, Bool, true, false, cond, true≢false, List, [], ◌∷◌, ◌++◌, append_assoc, length, map, refl, sym, ◌∙◌, ap, subst, arith}
use Rattle.std.specs.Prelude.{All, sum_by}
use Rattle.std.specs.Arc.{arc_value}
use Rattle.std.proofs.lemmas.List.Elements.{All-cons, All-head, All-nil, All-tail}
use Rattle.std.proofs.lemmas.List.Sums.{sum_by-cons}
use Rattle.atomic_table.specs.Seated.{TableId}
use Rattle.rib_store.specs.Plan.{Planned}
use Rattle.epoch_core.specs.SeatViews.{ReaderView}
use Rattle.fib_pass.specs.declared.pass.Beside.{Beside}
use Rattle.fib_pass.specs.declared.totals.PassEnd.{PassEnd}
use Rattle.fib_pass.specs.Closing.{AreOf, joined}
use Rattle.fib_pass.specs.Totals.{end_of}
use Rattle.fib_pass.specs.Views.{IsPass, PassView}

pub pushed : {X : Type 0} (ok : Bool) (new old : List X) (x : X) → ok ≡ true → new ≡ cond ok (old ++ x ∷ []) old → new ≡ old ++ x ∷ []
pushed true new old x e h = h
pushed false new old x e h = absurd (true≢false (sym e))

module _ {w : ℕ} where
  joined-push : (seats : List (ReaderView (Planned w))) (rests : List (Beside w)) (s : ReaderView (Planned w)) (b : Beside w) → AreOf seats rests
      → joined (seats ++ s ∷ []) (rests ++ b ∷ []) ≡ joined seats rests ++ record { seat = s; lookups = b.lookups } ∷ []
  joined-push [] [] s b are = refl
  joined-push [] (r ∷ rests) s b are = absurd are
  joined-push (x ∷ seats) [] s b are = absurd are
  joined-push (x ∷ seats) (r ∷ rests) s b are = ap (λ (ps : List (PassView w)). record { seat = x; lookups = r.lookups } ∷ ps) (joined-push seats rests s b are.1)

  are-push : (seats : List (ReaderView (Planned w))) (rests : List (Beside w)) (s : ReaderView (Planned w)) (b : Beside w) → AreOf seats rests → IsPass (arc_value b.plan) s b.lookups → AreOf (seats ++ s ∷ []) (rests ++ b ∷ [])
  are-push [] [] s b are is = (is, tt)
  are-push [] (r ∷ rests) s b are is = absurd are
  are-push (x ∷ seats) [] s b are is = absurd are
  are-push (x ∷ seats) (r ∷ rests) s b are is = (are.0, are-push seats rests s b are.1 is)

  -- one pass more
  pub record AreTaken (passes left : List (PassView w)) (seats : List (ReaderView (Planned w))) (rests : List (Beside w)) : Type 0 where
    pub seen : seats ++ map (λ p. p.seat) left ≡ map (λ p. p.seat) passes
    pub whole : joined seats rests ++ left ≡ passes
    pub fit : AreOf seats rests

  pub taken_more : (passes before left : List (PassView w)) (pass : PassView w) (seats next : List (ReaderView (Planned w))) (rests more : List (Beside w)) (s : ReaderView (Planned w)) (b : Beside w)
      → before ≡ pass ∷ left → s ≡ pass.seat → b.lookups ≡ pass.lookups → IsPass (arc_value b.plan) s b.lookups → next ≡ seats ++ s ∷ [] → more ≡ rests ++ b ∷ []
      → seats ++ map (λ p. p.seat) before ≡ map (λ p. p.seat) passes → joined seats rests ++ before ≡ passes → AreOf seats rests → AreTaken passes left next more
  taken_more passes before left pass seats next rests more s b split seat lookups is e f so all are =
      let one : record { seat = s; lookups = b.lookups } ≡ pass = λ i. record { seat = seat i; lookups = lookups i } in
      let whole : joined (seats ++ s ∷ []) (rests ++ b ∷ []) ++ left ≡ passes =
      ap (λ (x : List (PassView w)). x ++ left) (joined-push seats rests s b are)
      ∙ append_assoc (joined seats rests) (record { seat = s; lookups = b.lookups } ∷ []) left
      ∙ ap (λ (p : PassView w). joined seats rests ++ p ∷ left) one
      ∙ ap (λ (x : List (PassView w)). joined seats rests ++ x) (sym split)
      ∙ all in
      let seen : (seats ++ s ∷ []) ++ map (λ p. p.seat) left ≡ map (λ p. p.seat) passes =
      append_assoc seats (s ∷ []) (map (λ p. p.seat) left)
      ∙ ap (λ (x : ReaderView (Planned w)). seats ++ x ∷ map (λ p. p.seat) left) seat
      ∙ ap (λ (x : List (PassView w)). seats ++ map (λ p. p.seat) x) (sym split)
      ∙ so in
      subst (λ (x : List (ReaderView (Planned w))). AreTaken passes left x more) (sym e)
      (subst (λ (y : List (Beside w)). AreTaken passes left (seats ++ s ∷ []) y) (sym f) (record { seen = seen; whole = whole; fit = are-push seats rests s b are is }))

  -- ---- lists of passes

  pub tables_of : (table : TableId) (passes : List (PassView w)) → All (λ p. p.seat.table ≡ table) passes → All (λ s. s.table ≡ table) (map (λ (p : PassView w). p.seat) passes)
  tables_of table [] all = All-nil (λ s. s.table ≡ table)
  tables_of table (p ∷ passes) all =
      All-cons (λ s. s.table ≡ table) p.seat (map (λ x. x.seat) passes) (All-head (λ x. x.seat.table ≡ table) p passes all)
      (tables_of table passes (All-tail (λ x. x.seat.table ≡ table) p passes all))

  pub seats_table : (seats : List (ReaderView (Planned w))) (passes : List (PassView w)) (here table : TableId) → seats ≡ map (λ p. p.seat) passes → here ≡ table → All (λ p. p.seat.table ≡ table) passes → All (λ s. s.table ≡ here) seats
  seats_table seats passes here table e f all =
      subst (λ (x : List (ReaderView (Planned w))). All (λ s. s.table ≡ here) x) (sym e) (subst (λ t. All (λ s. s.table ≡ t) (map (λ (p : PassView w). p.seat) passes)) (sym f) (tables_of table passes all))

  pub length-seats : (passes : List (PassView w)) → length (map (λ (p : PassView w). p.seat) passes) ≡ length passes
  length-seats [] = refl
  length-seats (p ∷ passes) = let ih = length-seats passes in omega arith

  pub length-ends : (passes : List (PassView w)) → length (map end_of passes) ≡ length passes
  length-ends [] = refl
  length-ends (p ∷ passes) = let ih = length-ends passes in omega arith

  pub sum-ends : (passes : List (PassView w)) → sum_by (λ (e : PassEnd). e.lookups) (map end_of passes) ≡ sum_by (λ (p : PassView w). p.lookups) passes
  sum-ends [] = refl
  sum-ends (p ∷ passes) =
      let a = sum_by-cons (λ (e : PassEnd). e.lookups) (end_of p) (map end_of passes) in
      let b = sum_by-cons (λ (x : PassView w). x.lookups) p passes in
      let ih = sum-ends passes in
      omega arith
