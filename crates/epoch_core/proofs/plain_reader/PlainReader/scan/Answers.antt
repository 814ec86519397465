use Rattle.std.proofs.Common.{◌≡◌, ◌+◌, length, rules}
use Rattle.epoch_core.specs.declared.plain_reader.PlainSpot.TheVariants.{Control}
use Rattle.epoch_core.proofs.PlainLemmas.{reader_of-spot}
use Rattle.epoch_core.proofs.plain_reader.PlainReader.scan.Goals as goal

pub returns-then-may_pass_at : goal.returns-then-may_pass_at
returns-then-may_pass_at c =
    let old = c.args.self.now in
    let len : length old.spots ≡ 4 = search rules in
    rw (← c.may_pass_at.ensures, c.if-may_pass_at.true)
    (reader_of-spot (record old { passed = _ }) c.bank_of.result (c.args.cur + 1) Control len c.bank_of.ensures)
