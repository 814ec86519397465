-- Each digit has its place, since the number has ten at most.
use Rattle.std.proofs.Common.{◌∙◌, ◌<◌, ◌-◌, arith, refl}
use Rattle.std.proofs.lemmas.List.{length-set}
use Rattle.addr_text.proofs.DigitLemmas.{digits_few, digits_some, digits_left, put_digit, put_first}
use Rattle.addr_text.proofs.digits.put_number.Goals as goal

pub digits-init : goal.digits-init
digits-init c = record {
  fits = c.told-text;
  within = omega arith;
  room = omega (arith, digits_few c.args.number c.ranges.number.fits);
  digits = refl;
}

pub overflow_sub-start : goal.overflow_sub-start
overflow_sub-start c =
    omega (arith, c.requires.most, c.digits.invariant.room, digits_some c.digits.rest (omega arith))

pub digits-preserved : goal.digits-preserved
digits-preserved c =
    let l = c.digits in
    let left = digits_left l.rest c.digits-test.true (omega arith) in
    let some : 0 < l.start = omega (arith, c.requires.most, l.invariant.room, left) in
    record {
      fits = length-set l.text (l.start - 1) _ ∙ l.invariant.fits;
      within = omega (arith, l.invariant.within);
      room = omega (arith, some, l.invariant.room, left);
      digits = put_digit l.rest l.start _ l.text _ c.digits-test.true (omega arith) some (omega (arith, l.invariant.fits, l.invariant.within, c.requires.within)) refl l.invariant.digits;
    }

pub overflow_sub-start-2 : goal.overflow_sub-start-2
overflow_sub-start-2 c =
    omega (arith, c.requires.most, c.digits.invariant.room, digits_some c.digits.rest (omega arith))

pub returns-clause-room : goal.returns-clause-room
returns-clause-room c =
    omega (arith, c.requires.most, c.digits.invariant.room, digits_some c.digits.rest (omega arith))

pub returns-clause-digits : goal.returns-clause-digits
returns-clause-digits c =
    let l = c.digits in
    let some : 0 < l.start = omega (arith, c.requires.most, l.invariant.room, digits_some l.rest (omega arith)) in
    put_first l.rest l.start _ l.text _ (omega (arith, c.digits-test.false)) some (omega (arith, l.invariant.fits, l.invariant.within, c.requires.within)) refl l.invariant.digits
