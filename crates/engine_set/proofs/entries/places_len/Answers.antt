use Rattle.std.proofs.Common.{◌≡◌, ◌-◌, arith, length, Some, ap, sym, ◌∙◌}
use Rattle.std.specs.Prelude.{slice_get, option_copied}
use Rattle.engine_set.proofs.EntryLemmas.{last_greatest}
use Rattle.engine_set.proofs.entries.places_len.Goals as goal

pub returns-in-Some : goal.returns-in-Some
returns-in-Some c = λ k e h.
    let es = c.args.entries.now in
    let last : slice_get es (length es - 1) ≡ Some c.in-Some.entry.now = sym c.in-Some.ensures.value in
    let r = last_greatest es k e c.in-Some.entry.now c.requires h last in
    omega (arith, c.index.ensures, c.from.ensures)
