use Rattle.std.proofs.Common.{◌≡◌, length, slice_set, ap, ◌∙◌, rules}
use Rattle.epoch_core.specs.declared.plain_reader.PlainSpot.TheVariants.{Reader}
use Rattle.epoch_core.specs.declared.view.Phase.TheVariants.{Holding}
use Rattle.epoch_core.specs.Step.{entered_own}
use Rattle.epoch_core.specs.Plain.{reader_of}
use Rattle.epoch_core.proofs.PlainLemmas.{reader_of-spot}
use Rattle.epoch_core.proofs.plain_reader.PlainReader.enter.Goals as goal

pub returns : goal.returns
returns c =
    let old = c.args.self.now in
    let len : length old.spots ≡ 4 = search rules in
    ap (λ a. reader_of (record old { own = record (entered_own c.args.cur old.own) { phase = Holding a c.args.cur }; spots = slice_set old.spots c.bank_of.result Reader })) c.announced_version.ensures
    ∙ reader_of-spot (record old { own = entered_own c.args.cur old.own }) c.bank_of.result c.args.cur Reader len c.bank_of.ensures
