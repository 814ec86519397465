use Rattle.std.proofs.Common.{◌≡◌, ◌∙◌, Bool, length, refl}
use Rattle.std.proofs.lemmas.Bool.{false≢true}
use Rattle.epoch_core.specs.Plain.{entry_of, reader_of, absent_reader}
use Rattle.epoch_core.specs.Step.{all_passed}
use Rattle.epoch_core.proofs.PlainLemmas.{all_passed-entry_of, names_none, names_some}
use Rattle.epoch_core.proofs.plain.PlainWorld.can_publish.Goals as goal

pub returns-then-is_empty : goal.returns-then-is_empty
returns-then-is_empty c =
    let readers = c.args.self.now.readers.items in
    let all : Bool = all_passed (entry_of reader_of (absent_reader c.args.self.now.cur) readers) (length readers) in
    let passed : c.all_are_passed.result ≡ all = rw (← c.deref.ensures.value) (all_passed-entry_of c.all_are_passed.result (absent_reader c.args.self.now.cur) c.deref.result.now c.all_are_passed.ensures) in
    passed ∙ names_none all c.args.pairs.now (c.if-is_empty.ensures.0 refl)

pub returns-else-is_empty : goal.returns-else-is_empty
returns-else-is_empty c =
    let readers = c.args.self.now.readers.items in
    let all : Bool = all_passed (entry_of reader_of (absent_reader c.args.self.now.cur) readers) (length readers) in
    names_some all c.args.pairs.now (λ e. false≢true (c.if-is_empty.ensures.1 e))
