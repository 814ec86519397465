-- The first word stands behind the blanks, if there is a byte that is none.
use Rattle.std.proofs.Common.{◌≡◌, ◌∙◌, sym, arith}
use Rattle.route_lang.proofs.TextLemmas.{from_place, blanks_skipped, no_word}
use Rattle.route_lang.proofs.text.next_word.Goals as goal

pub returns-in_err-start : goal.returns-in_err-start
returns-in_err-start c = rw c.from_residual.ensures (no_word 0 c.args.line.now (sym c.in_err-start.ensures.place))

pub word_at-requires-clause-no_blank : goal.word_at-requires-clause-no_blank
word_at-requires-clause-no_blank c =
    let line = c.args.line.now in
    let r = blanks_skipped 0 c.in_ok-start.start line (sym c.in_ok-start.ensures.place) in
    let same : r.j ≡ c.in_ok-start.start = omega (arith, r.place) in
    rw (from_place line c.in_ok-start.start, ← same) r.solid

pub returns : goal.returns
returns c =
    let line = c.args.line.now in
    let r = blanks_skipped 0 c.in_ok-start.start line (sym c.in_ok-start.ensures.place) in
    let same : r.j ≡ c.in_ok-start.start = omega (arith, r.place) in
    let word = rw (from_place line c.in_ok-start.start, ← same) at c.word_at.ensures in
    r.same ∙ word
