-- The option's text has passed its range, so it reads as its number.
use Rattle.std.proofs.Common.{◌≡◌, List, ℕ, Option, sym, subst}
use Rattle.std.specs.Prelude.{option_map}
use Rattle.std.specs.Str.Parse.{ExplainsUnsignedError, HasUnsignedDigitsIfOk, ParsesUnsigned}
use Rattle.clap.specs.Words.{found_of, one_text}
use Rattle.clap.proofs.WalkLemmas.{one_text-rows}
use Rattle.command_line.specs.Words.{IsNumberIn, number_of}
use Rattle.command_line.proofs.NumberLemmas.{read_number}
use Rattle.command_line.proofs.words.number_in.Goals as goal

pub returns : goal.returns
returns c =
    let found = found_of c.args.found.now in
    let id = c.args.id.now in
    let same = one_text-rows found id in
    subst (λ (o : Option (List ℕ)). c.get_one.result ≡ option_map number_of o) same
    (read_number _ (λ bs r. ParsesUnsigned 32 10 bs r × ExplainsUnsignedError 10 bs r × HasUnsignedDigitsIfOk bs r)
    (one_text found id) c.get_one.result c.get_one.ensures.none c.get_one.ensures.value (λ t x g. g.0)
    (subst (λ (o : Option (List ℕ)). IsNumberIn 0 4294967295 o) (sym same) c.requires))
