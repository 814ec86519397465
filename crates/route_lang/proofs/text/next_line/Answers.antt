-- The line ends at the first line feed, or with the text.
use Rattle.std.proofs.Common.{◌≡◌, ◌+◌, length, sym, rules, arith}
use Rattle.std.proofs.Math.Seq.{drop-length}
use Rattle.route_lang.proofs.TextLemmas.{from_place, line_ends, last_line}
use Rattle.route_lang.proofs.text.next_line.Goals as goal

pub returns-in-Some : goal.returns-in-Some
returns-in-Some c =
    let text = c.args.text.now in
    let r = line_ends 0 c.in-Some.end text (sym c.in-Some.ensures.place) in
    let same : r.j ≡ c.in-Some.end = omega (arith, r.place) in
    rw (from_place text (c.in-Some.end + 1), ← same) r.first

pub returns-in-None : goal.returns-in-None
returns-in-None c =
    let text = c.args.text.now in
    rw (from_place text (length text), drop-length text) (last_line 0 text (sym c.in-None.ensures.place) (search rules))
