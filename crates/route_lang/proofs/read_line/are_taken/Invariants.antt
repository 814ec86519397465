-- The bytes so far and those that are left are all taken where the line's are.
use Rattle.std.proofs.Common.{◌≡◌}
use Rattle.std.specs.Prelude.{◌&&◌, drop}
use Rattle.std.specs.List.{list_all}
use Rattle.route_lang.specs.Grammar.{is_taken}
use Rattle.route_lang.proofs.read_line.are_taken.Given as goal

abbrev pub invariant-bytes : goal.invariant-bytes
invariant-bytes l = (l.taken && list_all is_taken (drop l.byte-index l.line)) ≡ list_all is_taken l.line
