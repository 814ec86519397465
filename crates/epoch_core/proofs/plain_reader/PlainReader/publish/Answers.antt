use Rattle.std.proofs.Common.{◌≡◌, ◌+◌, length, false, Some, rules}
use Rattle.epoch_core.specs.declared.plain_reader.PlainSpot.TheVariants.{Home}
use Rattle.epoch_core.proofs.PlainLemmas.{reader_of-spot, reader_of-held}
use Rattle.epoch_core.proofs.plain_reader.PlainReader.publish.Goals as goal

pub returns : goal.returns
returns c =
    let old = c.args.self.now in
    let spots : length old.spots ≡ 4 = search rules in
    let helds : length old.held ≡ 4 = search rules in
    let next = c.args.cur + 1 in
    let s = reader_of-spot (record old { passed = false }) c.bank_of.result next Home spots c.bank_of.ensures in
    let h = reader_of-held old c.bank_of-2.result next (Some next) helds c.bank_of-2.ensures in
    λ k. record { ann = old.ann; own = old.own; passed = false; spot = (s k).spot; held = (h k).held }
