-- The text before the first slash and the text after it.
use Rattle.std.proofs.Common.{◌≡◌, ℕ, ◌+◌, ◌-◌, List, length, take, drop, Some, None, sym, ap, ◌∙◌}
use Rattle.std.proofs.lemmas.List.{length-drop}
use Rattle.std.proofs.Math.Seq.{take-length}
use Rattle.addr_text.specs.PrefixText.{is_slash}
use Rattle.addr_text.proofs.PrefixTextLemmas.{position_finds_first}
use Rattle.addr_text.proofs.read.split_at_slash.Goals as goal

-- the rest of a text from a place on, as the slice has it
rest_from : (text : List ℕ) (place : ℕ) → take (length text - place) (drop place text) ≡ drop place text
rest_from text place = rw (← length-drop place text) (take-length (drop place text))

pub returns-in_err-place-clause-found : goal.returns-in_err-place-clause-found
returns-in_err-place-clause-found c = rw c.from_residual.ensures (sym (position_finds_first is_slash c.args.text.now None c.in_err-place.ensures.place))

pub returns-clause-found : goal.returns-clause-found
returns-clause-found c = sym (position_finds_first is_slash c.args.text.now (Some c.in_ok-place.place) c.in_ok-place.ensures.place).0

pub returns-clause-before : goal.returns-clause-before
returns-clause-before c =
    let (some, first, inside) = position_finds_first is_slash c.args.text.now (Some c.in_ok-place.place) c.in_ok-place.ensures.place in
    ap (λ i. take i c.args.text.now) first

pub returns-clause-after : goal.returns-clause-after
returns-clause-after c =
    let text = c.args.text.now in
    let (some, first, inside) = position_finds_first is_slash text (Some c.in_ok-place.place) c.in_ok-place.ensures.place in
    rest_from text (c.in_ok-place.place + 1) ∙ ap (λ i. drop (i + 1) text) first
