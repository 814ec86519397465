-- The commands of each line of a script are there.
use Rattle.std.proofs.Common.{◌≡◌, Some, rules}
use Rattle.std.specs.List.{slice_get}
use Rattle.route_lang.specs.Fits.{no_commands}
use Rattle.route_lang.proofs.FitsLemmas.{each_has}
use Rattle.route_lang.proofs.spelling.write_line.Goals as goal

pub line_text-requires : goal.line_text-requires
line_text-requires c =
    let here : slice_get c.args.script.now.lines c.args.i ≡ Some c.get.result.now = search rules in
    each_has c.args.script.now no_commands c.args.script.now.lines c.args.i c.get.result.now c.lines.ensures.facts.fits here
