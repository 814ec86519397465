use Rattle.std.proofs.Common.{◌≡◌, ◌-◌, false, nat_lt, ap, arith, get_or, length}
use Rattle.std.proofs.Math.ListN.{get_or-eq_default}
use Rattle.std.proofs.lemmas.Bool.{le-ltb}
use Rattle.std.proofs.lemmas.Grind.{get_or_default_zero}
use Rattle.nhop_index.specs.Ages.{age_of}
use Rattle.nhop_index.proofs.LeastLemmas.{walk_on}
use Rattle.nhop_index.proofs.ages.take_unused.Goals as goal
use Rattle.nhop_index.proofs.ages.take_unused.Goals.{then-walk-test+else-from, else-walk-test}

pub returns-clause-least : goal.returns-clause-least
returns-clause-least g c = λ used walks.
    let old : nat_lt (age_of c.args.ages.now c.walk.index) (g.row.K - 1) ≡ false = elim c.walk-test.branch [
      | then-walk-test+else-from w ↦ le-ltb _ _ (omega (arith, get_or_default_zero c.args.ages.now c.walk.index 255 (omega (arith, c.from.ensures, w.walk-test.true)), w.if-from.false, ap (λ k. get_or c.args.ages.now k 0) w.from-in-walk.ensures, w.from-in-walk-2.ensures))
      | else-walk-test w ↦ le-ltb _ _ (omega (arith, get_or-eq_default c.args.ages.now 255 {n = c.walk.index} (omega (arith, c.from.ensures, w.walk-test.false)), c.requires.banks))
    ] in
    walk_on g.row.K used c.args.ages.now c.args.next.now c.walk.index walks c.walk.invariant.up c.walk.invariant.young old
