-- How the reader walks over the words behind a command, from left to right: the first word that is faulty decides. No public
-- clause cites this; that it agrees with the grammar is proved.
use Rattle.std.specs.Prelude.{◌≡◌, ◌≤◌, IfSome, ℕ, Bool, nat_le, List, [], ◌∷◌, Option, Some, None, Result, Ok, Err, is_some, option_map, if◌then◌else◌}
use Rattle.route_lang.specs.declared.fault.Reason.{Reason}
use Rattle.route_lang.specs.declared.fault.Reason.TheVariants.{UnknownOption, Repeated, MissingWord, BadNumber, ExtraWord}
use Rattle.route_lang.specs.declared.verb.Verb.{Verb}
use Rattle.route_lang.specs.declared.verb.Flag.{Flag}
use Rattle.route_lang.specs.declared.verb.Flag.TheVariants.{Inet, Inet6, Net, Host, Iface, Mtu, Weight, Blackhole, Reject, Flow}
use Rattle.route_lang.specs.declared.verb.Token.{Token}
use Rattle.route_lang.specs.declared.verb.Token.TheVariants.{Bare, Plain, Valued}
use Rattle.route_lang.specs.declared.walk.Walk.{Walk}
use Rattle.route_lang.specs.Grammar.{◌>>=◌}
use Rattle.route_lang.specs.Reader.Verb.{bare_words, token_of, value_of}

-- what was met so far: bare words, the options given, and the values of options
pub record Met : Type 0 where
  pub first : Option (List ℕ)
  pub second : Option (List ℕ)
  pub family : Option Flag
  pub extent : Option Flag
  pub discard : Option Flag
  pub iface : Option ℕ
  pub mtu : Option ℕ
  pub weight : Option ℕ
  pub flow : Option ℕ

abbrev pub nothing_met : Met
nothing_met = record {
  first = None;
  second = None;
  family = None;
  extent = None;
  discard = None;
  iface = None;
  mtu = None;
  weight = None;
  flow = None;
}

-- what the reader's walk has met
abbrev pub met_by : Walk → Met
met_by walk = record {
  first = option_map (λ word. word.now) walk.first;
  second = option_map (λ word. word.now) walk.second;
  family = walk.family;
  extent = walk.extent;
  discard = walk.discard;
  iface = walk.iface;
  mtu = walk.mtu;
  weight = walk.weight;
  flow = walk.flow;
}

-- ---- options

-- whether the option, or the other one of its pair, was given
abbrev pub is_given : Met → Flag → Bool
is_given met Inet = is_some met.family
is_given met Inet6 = is_some met.family
is_given met Net = is_some met.extent
is_given met Host = is_some met.extent
is_given met Blackhole = is_some met.discard
is_given met Reject = is_some met.discard
is_given met Iface = is_some met.iface
is_given met Mtu = is_some met.mtu
is_given met Weight = is_some met.weight
is_given met Flow = is_some met.flow

abbrev pub set_flag : Met → Flag → Met
set_flag met Inet = record met { family = Some Inet }
set_flag met Inet6 = record met { family = Some Inet6 }
set_flag met Net = record met { extent = Some Net }
set_flag met Host = record met { extent = Some Host }
set_flag met Blackhole = record met { discard = Some Blackhole }
set_flag met Reject = record met { discard = Some Reject }
set_flag met flag = met

abbrev pub set_value : Met → Flag → ℕ → Met
set_value met Iface n = record met { iface = Some n }
set_value met Mtu n = record met { mtu = Some n }
set_value met Weight n = record met { weight = Some n }
set_value met Flow n = record met { flow = Some n }
set_value met flag n = met

abbrev pub with_flag : Met → Flag → Result Met Reason
with_flag met flag = if is_given met flag then Err Repeated else Ok (set_flag met flag)

abbrev pub with_parsed : Met → Flag → Option ℕ → Result Met Reason
with_parsed met flag None = Err BadNumber
with_parsed met flag (Some n) = Ok (set_value met flag n)

abbrev pub with_value : Met → Flag → List ℕ → Result Met Reason
with_value met flag word = if is_given met flag then Err Repeated else with_parsed met flag (value_of flag word)

-- an option that takes a value, as the last word
abbrev pub without_value : Met → Flag → Result Met Reason
without_value met flag = if is_given met flag then Err Repeated else Err MissingWord

-- ---- bare words

abbrev pub put_bare : ℕ → Met → List ℕ → Option (List ℕ) → Option (List ℕ) → Result Met Reason
put_bare most met word None second =
    if nat_le 1 most then Ok (record met { first = Some word }) else Err ExtraWord
put_bare most met word (Some first) None =
    if nat_le 2 most then Ok (record met { second = Some word }) else Err ExtraWord
put_bare most met word (Some first) (Some second) = Err ExtraWord

-- a bare word, of which the command has so many at most
abbrev pub with_bare : Verb → Met → List ℕ → Result Met Reason
with_bare verb met word = put_bare (bare_words verb) met word met.first met.second

-- ---- the walk

-- the last word
abbrev pub at_end : Verb → Met → List ℕ → Option Token → Result Met Reason
at_end verb met word None = Err UnknownOption
at_end verb met word (Some Bare) = with_bare verb met word
at_end verb met word (Some (Plain flag)) = with_flag met flag
at_end verb met word (Some (Valued flag)) = without_value met flag

-- A word with another behind it: the walk goes on from there, or behind it where it is a value,
-- whatever it is.
abbrev pub along : Verb → Met → List ℕ → List ℕ → Option Token → (Met → Result Met Reason) → (Met → Result Met Reason) → Result Met Reason
along verb met word next None here behind = Err UnknownOption
along verb met word next (Some Bare) here behind = with_bare verb met word >>= here
along verb met word next (Some (Plain flag)) here behind = with_flag met flag >>= here
along verb met word next (Some (Valued flag)) here behind = with_value met flag next >>= behind

-- the words behind a command, after what was met
abbrev pub walk_from : Verb → Met → List (List ℕ) → Result Met Reason
walk_from verb met [] = Ok met
walk_from verb met (word ∷ []) = at_end verb met word (token_of verb word)
walk_from verb met (word ∷ next ∷ words) =
    along verb met word next (token_of verb word) (λ more. walk_from verb more (next ∷ words)) (λ more. walk_from verb more words)

-- what a walk answers is what the definition says
abbrev pub GivesWalk : Result Walk Reason → Result Met Reason → Type 0
GivesWalk (Ok walk) met = met ≡ Ok (met_by walk)
GivesWalk (Err reason) met = met ≡ Err reason

-- what a walk answers where it takes one thing more, and what it has met behind that
abbrev pub TakesWord : {A : Type 0} → Result A Reason → Met → Result Met Reason → Type 0
TakesWord (Ok done) after met = met ≡ Ok after
TakesWord (Err reason) after met = met ≡ Err reason

-- the values that a walk has met are of their ranges
abbrev pub InRange : Walk → Type 0
InRange walk = IfSome walk.iface (λ n. (1 ≤ n) × (n ≤ 65535)) × IfSome walk.weight (λ n. (1 ≤ n) × (n ≤ 16777215))
