-- The digits that are left, before those that are written, are the number's.
use Rattle.std.proofs.Common.{◌≡◌, ◌≤◌, ◌+◌, ◌++◌, length, drop, decimal}
use Rattle.addr_text.proofs.digits.put_number.Given as goal

abbrev pub invariant-digits : goal.invariant-digits
invariant-digits l = record {
  fits : length l.text ≡ 64;
  within : l.start ≤ l.end;
  room : length (decimal l.rest) + l.end ≤ l.start + 10;
  digits : decimal l.rest ++ drop l.start l.text ≡ decimal l.number ++ drop l.end l.fn.text;
}

abbrev pub decreases-digits : goal.decreases-digits
decreases-digits l = l.rest
