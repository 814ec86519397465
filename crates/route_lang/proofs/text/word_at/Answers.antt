-- The word ends at the first blank, or with the bytes.
use Rattle.std.proofs.Common.{◌+◌, length, sym}
use Rattle.std.proofs.Math.Seq.{drop-length}
use Rattle.route_lang.proofs.TextLemmas.{from_place, word_ends, last_word}
use Rattle.route_lang.proofs.text.word_at.Goals as goal

pub returns-in-Some : goal.returns-in-Some
returns-in-Some c =
    let solid = c.args.solid.now in
    let end = c.in-Some.end in
    rw (from_place solid (end + 1)) (word_ends end solid c.requires.no_blank (sym c.in-Some.ensures.place))

pub returns-in-None : goal.returns-in-None
returns-in-None c =
    let solid = c.args.solid.now in
    rw (from_place solid (length solid), drop-length solid) (last_word solid c.requires.some (sym c.in-None.ensures.place))
