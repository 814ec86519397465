-- The walk goes on behind each word that it takes.
use Rattle.std.proofs.Common.{◌≡◌, ◌∙◌, Some, ap, sym, rules}
use Rattle.route_lang.specs.declared.verb.Token.TheVariants.{Bare, Plain, Valued}
use Rattle.route_lang.specs.Text.{words_of}
use Rattle.route_lang.specs.Reader.Verb.{token_of}
use Rattle.route_lang.specs.Reader.Walk.{met_by}
use Rattle.route_lang.proofs.WalkLemmas.{bare_goes, flag_goes, value_goes, flag_fails}
use Rattle.route_lang.proofs.walk.Walk.take_word.Goals as goal

pub returns-in_err-take_flag-in-Some-Plain-clause-fault : goal.returns-in_err-take_flag-in-Some-Plain-clause-fault
returns-in_err-take_flag-in-Some-Plain-clause-fault c =
    let token : token_of c.args.verb c.args.word.now ≡ Some (Plain c.in-Some-Plain.flag) = sym c.in-Some-Plain.ensures ∙ ap Some (search rules) in
    let fails = flag_fails c.args.verb (met_by c.args.self.now) c.in_err-take_flag-in-Some-Plain.field-0.0 c.in-Some-Plain.flag c.args.word.now (words_of c.args.rest.now) token c.in_err-take_flag-in-Some-Plain.ensures.value in
    search (rules, fails)

pub returns-in_ok-take_bare-in-Some-Bare-clause-goes : goal.returns-in_ok-take_bare-in-Some-Bare-clause-goes
returns-in_ok-take_bare-in-Some-Bare-clause-goes c =
    let token : token_of c.args.verb c.args.word.now ≡ Some Bare = sym c.in-Some-Bare.ensures ∙ ap Some (search rules) in
    bare_goes c.args.verb (met_by c.args.self.now) (met_by c.take_bare.new.self) c.args.word.now (words_of c.args.rest.now) token c.in_ok-take_bare-in-Some-Bare.ensures.value

pub returns-in_ok-take_flag-in-Some-Plain-clause-goes : goal.returns-in_ok-take_flag-in-Some-Plain-clause-goes
returns-in_ok-take_flag-in-Some-Plain-clause-goes c =
    let token : token_of c.args.verb c.args.word.now ≡ Some (Plain c.in-Some-Plain.flag) = sym c.in-Some-Plain.ensures ∙ ap Some (search rules) in
    flag_goes c.args.verb (met_by c.args.self.now) (met_by c.take_flag.new.self) c.in-Some-Plain.flag c.args.word.now (words_of c.args.rest.now) token c.in_ok-take_flag-in-Some-Plain.ensures.value

pub returns-in_ok-take_value-in-Some-Valued-clause-goes : goal.returns-in_ok-take_value-in-Some-Valued-clause-goes
returns-in_ok-take_value-in-Some-Valued-clause-goes c =
    let token : token_of c.args.verb c.args.word.now ≡ Some (Valued c.in-Some-Valued.flag) = sym c.in-Some-Valued.ensures ∙ ap Some (search rules) in
    let goes = value_goes c.args.verb (met_by c.args.self.now) (met_by c.take_value.new.self) c.in-Some-Valued.flag c.args.word.now c.in-Some.value.now (words_of c.in-Some.rest.now) token c.in_ok-take_value-in-Some-Valued.ensures.value in
    rw (c.in-Some.ensures) goes
