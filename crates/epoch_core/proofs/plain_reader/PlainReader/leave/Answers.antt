use Rattle.std.proofs.Common.{◌≡◌, ◌%◌, length, ap, ◌∙◌, rules}
use Rattle.epoch_core.specs.declared.plain_reader.PlainSpot.TheVariants.{Home}
use Rattle.epoch_core.specs.Step.{left_own, version_in_hand}
use Rattle.epoch_core.proofs.PlainLemmas.{reader_of-spot}
use Rattle.epoch_core.proofs.plain_reader.PlainReader.leave.Goals as goal

pub returns : goal.returns
returns c =
    let old = c.args.self.now in
    let len : length old.spots ≡ 4 = search rules in
    let bank : c.bank_of.result ≡ version_in_hand old.own.phase % 4 = c.bank_of.ensures ∙ ap (λ v. v % 4) c.version_in_hand.ensures in
    reader_of-spot (record old { ann = 0; own = left_own old.own }) c.bank_of.result (version_in_hand old.own.phase) Home len bank
