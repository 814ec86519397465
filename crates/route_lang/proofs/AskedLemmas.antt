-- What a line asks for is of its form: its addresses and numbers are in their ranges.
use Rattle.std.proofs.Common.{◌≡◌, ◌==◌, ◌&&◌, ℕ, ◌^◌, ◌<◌, ◌≤◌, Bool, true, false, cond, nat_lt, nat_le, ltb-false, List, [], ◌∷◌, Option, Some, None, IfSome, option_map, option_and_then, Result, Ok, Err, IfOk, length, codes, bytes_eq, eqb-true, lit<, inl, inr, refl, arith}
use Rattle.std.specs.Prelude.{unwrap_or}
use Rattle.std.specs.List.{list_all}
use Rattle.std.proofs.lemmas.Bool.{and_parts, leb-true}
use Rattle.std.proofs.lemmas.Nat.{pow_pos}
use Rattle.prefix_width.specs.Prefix.{Block, IsBlock}
use Rattle.prefix_width.specs.Nexthop.{FitsKind}
use Rattle.prefix_width.specs.Path.{WeightedHop}
use Rattle.prefix_width.specs.declared.nexthop.NhKind.{NhKind}
use Rattle.prefix_width.specs.declared.nexthop.NhKind.TheVariants as kind
use Rattle.prefix_width.specs.declared.module.Kind.TheVariants.{Scan, Range, Radix, Dxr}
use Rattle.prefix_width.specs.declared.module.Setting.{Setting}
use Rattle.prefix_width.specs.declared.module.Setting.TheVariants.{Auto, Fixed}
use Rattle.addr_text.specs.Address.{IsFamilyWidth, address_of}
use Rattle.addr_text.specs.Number.{number_of}
use Rattle.addr_text.specs.PrefixText.{block_of}
use Rattle.rib_store.specs.declared.command.Command.{Command}
use Rattle.rib_store.specs.declared.command.Command.TheVariants as command
use Rattle.route_lang.specs.Text.{words_of}
use Rattle.route_lang.specs.Reader.Verb.{verb_of, token_of, bare_words, within_range, least_value, greatest_value}
use Rattle.route_lang.specs.Reader.Walk.{Met, nothing_met, is_given, set_flag, set_value, with_flag, with_parsed, with_value, without_value, with_bare, put_bare, at_end, along, walk_from}
use Rattle.route_lang.specs.Grammar.{◌>>=◌}
use Rattle.route_lang.specs.Reader.Asked.{agrees, agreeing, destination_of, gateway_of, address_asked, path_by, path_of, path_asked, add_of, change_of, delete_of, IsModuleOf, algo_of, is_inet6, get_of, profile_named, in_family, flush_of, asked_by, by_verb, by_command, by_words, asked_of, is_profile, in_time}
use Rattle.route_lang.specs.Grammar.{or_reason, gateway_by, dropping, leading, setting_of, is_taken, is_comment, from_command}
use Rattle.route_lang.proofs.BoundLemmas.{address_fits, number_fits, family_bounds, block_fits}
use Rattle.route_lang.proofs.SpellingLemmas.{IsPath}
use Rattle.route_lang.proofs.CommandLemmas.{IsCommand, IsAsked}
use Rattle.route_lang.specs.declared.asked.Asked.{Asked}
use Rattle.route_lang.specs.declared.asked.Asked.TheVariants.{Nothing, Inet, Inet6, Both, Get4, Get6, Profile}
use Rattle.route_lang.specs.declared.asked.Shared.TheVariants as shared
use Rattle.route_lang.specs.declared.fault.Reason.{Reason}
use Rattle.route_lang.specs.declared.fault.Reason.TheVariants.{TooManyLines, LineTooLong, BadByte, MissingWord, BadNumber, BadAddress, BadLength, NoModule, NotFirst, Repeated, ExtraWord}
use Rattle.route_lang.specs.declared.verb.Verb.{Verb}
use Rattle.route_lang.specs.declared.verb.Verb.TheVariants as verb
use Rattle.route_lang.specs.declared.verb.Flag.{Flag}
use Rattle.route_lang.specs.declared.verb.Flag.TheVariants as flag
use Rattle.route_lang.specs.declared.verb.Token.{Token}
use Rattle.route_lang.specs.declared.verb.Token.TheVariants.{Bare, Plain, Valued}
use Rattle.route_lang.specs.Limits.{lines_limit, line_limit}

-- ---- the walk

-- the values that were met are of their ranges
abbrev pub AreInRange : Met → Type 0
AreInRange met =
    IfSome met.iface (λ n. (1 ≤ n) × (n ≤ 65535)) × IfSome met.mtu (λ n. (1 ≤ n) × (n ≤ 4294967295))
    × IfSome met.weight (λ n. (1 ≤ n) × (n ≤ 16777215)) × IfSome met.flow (λ n. n ≤ 4294967295)

put_in_range : (most : ℕ) (met : Met) (word : List ℕ) (first second : Option (List ℕ)) → AreInRange met → IfOk (put_bare most met word first second) AreInRange
put_in_range most met word None second are = choice (nat_le 1 most)
  where
    choice : (t : Bool) → IfOk (cond t (Ok (record met { first = Some word })) (Err ExtraWord)) AreInRange
    choice true = are
    choice false = tt
put_in_range most met word (Some first) None are = choice (nat_le 2 most)
  where
    choice : (t : Bool) → IfOk (cond t (Ok (record met { second = Some word })) (Err ExtraWord)) AreInRange
    choice true = are
    choice false = tt
put_in_range most met word (Some first) (Some second) are = tt

flag_in_range : (met : Met) (f : Flag) → AreInRange met → AreInRange (set_flag met f)
flag_in_range met flag.Inet are = are
flag_in_range met flag.Inet6 are = are
flag_in_range met flag.Net are = are
flag_in_range met flag.Host are = are
flag_in_range met flag.Iface are = are
flag_in_range met flag.Mtu are = are
flag_in_range met flag.Weight are = are
flag_in_range met flag.Blackhole are = are
flag_in_range met flag.Reject are = are
flag_in_range met flag.Flow are = are

value_in_range : (met : Met) (f : Flag) (n : ℕ) → least_value f ≤ n → n ≤ greatest_value f → AreInRange met → AreInRange (set_value met f n)
value_in_range met flag.Inet n least most are = are
value_in_range met flag.Inet6 n least most are = are
value_in_range met flag.Net n least most are = are
value_in_range met flag.Host n least most are = are
value_in_range met flag.Iface n least most are = ((least, most), are.1, are.2, are.3)
value_in_range met flag.Mtu n least most are = (are.0, (least, most), are.2, are.3)
value_in_range met flag.Weight n least most are = (are.0, are.1, (least, most), are.3)
value_in_range met flag.Blackhole n least most are = are
value_in_range met flag.Reject n least most are = are
value_in_range met flag.Flow n least most are = (are.0, are.1, are.2, most)

plain_in_range : (met : Met) (f : Flag) → AreInRange met → IfOk (with_flag met f) AreInRange
plain_in_range met f are = choice (is_given met f)
  where
    choice : (t : Bool) → IfOk (cond t (Err Repeated) (Ok (set_flag met f))) AreInRange
    choice true = tt
    choice false = flag_in_range met f are

valued_in_range : (met : Met) (f : Flag) (word : List ℕ) → AreInRange met → IfOk (with_value met f word) AreInRange
valued_in_range met f word are = choice (is_given met f) (number_of word)
  where
    within : (n : ℕ) (t : Bool) → (nat_le (least_value f) n && nat_le n (greatest_value f)) ≡ t → IfOk (with_parsed met f (cond t (Some n) None)) AreInRange
    within n true e =
        let parts = and_parts (nat_le (least_value f) n) (nat_le n (greatest_value f)) e in
        value_in_range met f n (leb-true (least_value f) n parts.0) (leb-true n (greatest_value f) parts.1) are
    within n false e = tt

    parsed : (o : Option ℕ) → IfOk (with_parsed met f (option_and_then (within_range f) o)) AreInRange
    parsed None = tt
    parsed (Some n) = within n (nat_le (least_value f) n && nat_le n (greatest_value f)) refl

    choice : (t : Bool) (o : Option ℕ) → IfOk (cond t (Err Repeated) (with_parsed met f (option_and_then (within_range f) o))) AreInRange
    choice true o = tt
    choice false o = parsed o

missing_in_range : (met : Met) (f : Flag) → IfOk (without_value met f) AreInRange
missing_in_range met f = choice (is_given met f)
  where
    choice : (t : Bool) → IfOk (cond t (Err Repeated) (Err MissingWord)) AreInRange
    choice true = tt
    choice false = tt

last_in_range : (v : Verb) (met : Met) (word : List ℕ) (token : Option Token) → AreInRange met → IfOk (at_end v met word token) AreInRange
last_in_range v met word None are = tt
last_in_range v met word (Some Bare) are = put_in_range (bare_words v) met word met.first met.second are
last_in_range v met word (Some (Plain f)) are = plain_in_range met f are
last_in_range v met word (Some (Valued f)) are = missing_in_range met f

then_in_range : (met : Result Met Reason) (below : Met → Result Met Reason) → IfOk met AreInRange → ((more : Met) → AreInRange more → IfOk (below more) AreInRange) → IfOk (met >>= below) AreInRange
then_in_range (Err reason) below are later = tt
then_in_range (Ok met) below are later = later met are

along_in_range : (v : Verb) (met : Met) (word next : List ℕ) (token : Option Token) (here behind : Met → Result Met Reason) → ((more : Met) → AreInRange more → IfOk (here more) AreInRange) → ((more : Met) → AreInRange more → IfOk (behind more) AreInRange) → AreInRange met → IfOk (along v met word next token here behind) AreInRange
along_in_range v met word next None here behind h b are = tt
along_in_range v met word next (Some Bare) here behind h b are = then_in_range (with_bare v met word) here (put_in_range (bare_words v) met word met.first met.second are) h
along_in_range v met word next (Some (Plain f)) here behind h b are = then_in_range (with_flag met f) here (plain_in_range met f are) h
along_in_range v met word next (Some (Valued f)) here behind h b are = then_in_range (with_value met f next) behind (valued_in_range met f next are) b

walk_in_range : (v : Verb) (met : Met) (words : List (List ℕ)) → AreInRange met → IfOk (walk_from v met words) AreInRange
walk_in_range v met [] are = are
walk_in_range v met (word ∷ []) are = last_in_range v met word (token_of v word) are
walk_in_range v met (word ∷ next ∷ words) are =
    let here = λ (more : Met) (r : AreInRange more). walk_in_range v more (next ∷ words) r in
    let behind = λ (more : Met) (r : AreInRange more). walk_in_range v more words r in
    along_in_range v met word next (token_of v word) (λ more. walk_from v more (next ∷ words)) (λ more. walk_from v more words) here behind are

-- ---- the words that were met

module _ (w : ℕ) (width : IsFamilyWidth w) (met : Met) (are : AreInRange met) where
  block_read : (word : List ℕ) (o : Option Block) → IfSome o (IsBlock w) → IfOk (or_reason BadAddress o >>= agreeing w met.extent word) (IsBlock w)
  block_read word None is = tt
  block_read word (Some b) is = choice (agrees w met.extent word b)
    where
      choice : (t : Bool) → IfOk (cond t (Ok b) (Err BadLength)) (IsBlock w)
      choice true = is
      choice false = tt

  destination_fits : IfOk (destination_of w met) (IsBlock w)
  destination_fits = there met.first
    where
      there : (first : Option (List ℕ)) → IfOk (or_reason MissingWord first >>= (λ word. or_reason BadAddress (block_of w word) >>= agreeing w met.extent word)) (IsBlock w)
      there None = tt
      there (Some word) = block_read word (block_of w word) (block_fits w width word)

  address_read : (o : Option ℕ) → IfSome o (λ a. a < 2 ^ w) → IfOk (or_reason BadAddress o) (λ a. a < 2 ^ w)
  address_read None fits = tt
  address_read (Some a) fits = fits

  gateway_read : (o : Option ℕ) → IfSome o (λ a. a < 2 ^ w) → IfOk (or_reason BadAddress (option_map Some o)) (λ g. IfSome g (λ a. a < 2 ^ w))
  gateway_read None fits = tt
  gateway_read (Some a) fits = fits

  gateway_fits : IfOk (gateway_of w met) (λ g. IfSome g (λ a. a < 2 ^ w))
  gateway_fits = there met.second
    where
      there : (second : Option (List ℕ)) → IfOk (gateway_by w second) (λ g. IfSome g (λ a. a < 2 ^ w))
      there None = tt
      there (Some word) = gateway_read (address_of w word) (address_fits w width word)

  asked_fits : IfOk (address_asked w met) (λ a. a < 2 ^ w)
  asked_fits = there met.first
    where
      there : (first : Option (List ℕ)) → IfOk (or_reason MissingWord first >>= (λ word. or_reason BadAddress (address_of w word))) (λ a. a < 2 ^ w)
      there None = tt
      there (Some word) = address_read (address_of w word) (address_fits w width word)

  -- ---- the path

  value_most : (absent most : ℕ) (o : Option ℕ) → absent ≤ most → IfSome o (λ n. (1 ≤ n) × (n ≤ most)) → unwrap_or o absent ≤ most
  value_most absent most None h fits = h
  value_most absent most (Some n) h fits = fits.1

  value_least : (o : Option ℕ) (most : ℕ) → IfSome o (λ n. (1 ≤ n) × (n ≤ most)) → 1 ≤ unwrap_or o 1
  value_least None most fits = omega arith
  value_least (Some n) most fits = fits.0

  bounds : (1 ≤ w) × (w ≤ 128)
  bounds = family_bounds w width

  mtu_fits : unwrap_or met.mtu 0 < 2 ^ 32
  mtu_fits = let most = value_most 0 4294967295 met.mtu (omega arith) are.1 in omega arith

  weight_least : 1 ≤ unwrap_or met.weight 1
  weight_least = value_least met.weight 16777215 are.2

  weight_most : unwrap_or met.weight 1 ≤ 16777215
  weight_most = value_most 1 16777215 met.weight (omega arith) are.2

  led_fits : (g iface : Option ℕ) → IfSome g (λ a. a < 2 ^ w) → IfSome iface (λ n. (1 ≤ n) × (n ≤ 65535)) → IfOk (leading g iface (unwrap_or met.mtu 0) (unwrap_or met.weight 1)) (IsPath w)
  led_fits (Some gateway) iface fits fits_iface = record {
    hop = (bounds.0, bounds.1, fits, tt);
    weight = (weight_least, weight_most, λ drops. absurd drops);
    settings = record { iface = value_most 0 65535 iface (omega arith) fits_iface; mtu = mtu_fits; least = weight_least; weight = weight_most };
  }
  led_fits None (Some iface) fits fits_iface = record {
    hop = (bounds.0, bounds.1, pow_pos w, (refl, fits_iface.0));
    weight = (weight_least, weight_most, λ drops. absurd drops);
    settings = record { iface = fits_iface.1; mtu = mtu_fits; least = weight_least; weight = weight_most };
  }
  led_fits None None fits fits_iface = tt

  dropped_fits : (k : NhKind) → FitsKind k 0 0 0 → IsPath w (dropping k)
  dropped_fits k fits = record {
    hop = (bounds.0, bounds.1, pow_pos w, fits);
    weight = (omega arith, omega arith, λ _. refl);
    settings = record { iface = omega arith; mtu = lit< tt; least = omega arith; weight = omega arith };
  }

  path_fits : (g : Option ℕ) → IfSome g (λ a. a < 2 ^ w) → IfOk (path_of met g) (IsPath w)
  path_fits g fits = by_discard met.discard
    where
      led : IfOk (leading g met.iface (unwrap_or met.mtu 0) (unwrap_or met.weight 1)) (IsPath w)
      led = led_fits g met.iface fits are.0

      by_discard : (discard : Option Flag) → IfOk (path_by discard met g) (IsPath w)
      by_discard None = led
      by_discard (Some flag.Inet) = led
      by_discard (Some flag.Inet6) = led
      by_discard (Some flag.Net) = led
      by_discard (Some flag.Host) = led
      by_discard (Some flag.Iface) = led
      by_discard (Some flag.Mtu) = led
      by_discard (Some flag.Weight) = led
      by_discard (Some flag.Blackhole) = dropped_fits kind.Blackhole (refl, refl, refl)
      by_discard (Some flag.Reject) = dropped_fits kind.Reject (refl, refl, refl)
      by_discard (Some flag.Flow) = led

  route_fits : IfOk (path_asked w met) (IsPath w)
  route_fits = there (gateway_of w met) gateway_fits
    where
      there : (g : Result (Option ℕ) Reason) → IfOk g (λ g. IfSome g (λ a. a < 2 ^ w)) → IfOk (g >>= path_of met) (IsPath w)
      there (Err reason) fits = tt
      there (Ok g) fits = path_fits g fits

  -- ---- commands

  add_fits : IfOk (add_of w met) (IsCommand w)
  add_fits = there (destination_of w met) (path_asked w met) destination_fits route_fits
    where
      there : (d : Result Block Reason) (p : Result WeightedHop Reason) → IfOk d (IsBlock w) → IfOk p (IsPath w) → IfOk (d >>= (λ b. p >>= (λ p. Ok (command.Add b p)))) (IsCommand w)
      there (Err reason) p is path = tt
      there (Ok b) (Err reason) is path = tt
      there (Ok b) (Ok p) is path = (is, path)

  change_fits : IfOk (change_of w met) (IsCommand w)
  change_fits = there (destination_of w met) (path_asked w met) destination_fits route_fits
    where
      there : (d : Result Block Reason) (p : Result WeightedHop Reason) → IfOk d (IsBlock w) → IfOk p (IsPath w) → IfOk (d >>= (λ b. p >>= (λ p. Ok (command.Change b p)))) (IsCommand w)
      there (Err reason) p is path = tt
      there (Ok b) (Err reason) is path = tt
      there (Ok b) (Ok p) is path = (is, path)

  delete_fits : IfOk (delete_of w met) (IsCommand w)
  delete_fits = there (destination_of w met) (gateway_of w met) destination_fits gateway_fits
    where
      there : (d : Result Block Reason) (g : Result (Option ℕ) Reason) → IfOk d (IsBlock w) → IfOk g (λ g. IfSome g (λ a. a < 2 ^ w)) → IfOk (d >>= (λ b. g >>= (λ g. Ok (command.Delete b g)))) (IsCommand w)
      there (Err reason) g is fits = tt
      there (Ok b) (Err reason) is fits = tt
      there (Ok b) (Ok g) is fits = (is, fits)

  setting_fits : (word : List ℕ) → IfSome (setting_of w word) (IsModuleOf w)
  setting_fits word = choice (bytes_eq word (codes "auto")) (bytes_eq word (codes "scan")) (bytes_eq word (codes "range")) (bytes_eq word (codes "radix")) (bytes_eq word (codes "dxr") && w == 32) (λ e. eqb-true w 32 (and_parts (bytes_eq word (codes "dxr")) (w == 32) e).1)
    where
      choice : (a b c d e : Bool) → (e ≡ true → w ≡ 32) → IfSome (cond a (Some Auto) (cond b (Some (Fixed Scan)) (cond c (Some (Fixed Range)) (cond d (Some (Fixed Radix)) (cond e (Some (Fixed Dxr)) None))))) (IsModuleOf w)
      choice true b c d e own = tt
      choice false true c d e own = tt
      choice false false true d e own = tt
      choice false false false true e own = tt
      choice false false false false true own = own refl
      choice false false false false false own = tt

  algo_fits : IfOk (algo_of w met) (IsCommand w)
  algo_fits = there met.first
    where
      found : (o : Option Setting) → IfSome o (IsModuleOf w) → IfOk (or_reason NoModule o >>= (λ s. Ok (command.Algo s))) (IsCommand w)
      found None own = tt
      found (Some s) own = own

      there : (first : Option (List ℕ)) → IfOk (or_reason MissingWord first >>= (λ word. or_reason NoModule (setting_of w word)) >>= (λ s. Ok (command.Algo s))) (IsCommand w)
      there None = tt
      there (Some word) = found (setting_of w word) (setting_fits word)

-- ---- what is asked

family_asks : (family : Option Flag) (inet : Result (Command 32) Reason) (inet6 : Result (Command 128) Reason) → IfOk inet (IsCommand 32) → IfOk inet6 (IsCommand 128) → IfOk (in_family family inet inet6) IsAsked
family_asks family inet inet6 is is6 = choice (is_inet6 family) inet inet6 is is6
  where
    choice : (t : Bool) (inet : Result (Command 32) Reason) (inet6 : Result (Command 128) Reason) → IfOk inet (IsCommand 32) → IfOk inet6 (IsCommand 128) → IfOk (cond t (inet6 >>= (λ c. Ok (Inet6 c))) (inet >>= (λ c. Ok (Inet c)))) IsAsked
    choice true inet (Err reason) is is6 = tt
    choice true inet (Ok c) is is6 = is6
    choice false (Err reason) inet6 is is6 = tt
    choice false (Ok c) inet6 is is6 = is

flush_asks : (family : Option Flag) → IfOk (flush_of family) IsAsked
flush_asks None = tt
flush_asks (Some family) = family_asks (Some family) (Ok command.Flush) (Ok command.Flush) tt tt

flow_fits : (flow : Option ℕ) → IfSome flow (λ n. n ≤ 4294967295) → unwrap_or flow 0 < 2 ^ 32
flow_fits None fits = lit< tt
flow_fits (Some n) fits = omega arith

get_asks : (met : Met) → AreInRange met → IfOk (get_of met) IsAsked
get_asks met are = choice (is_inet6 met.family) (address_asked 128 met) (address_asked 32 met) (asked_fits 128 (inr refl) met are) (asked_fits 32 (inl refl) met are)
  where
    flow : unwrap_or met.flow 0 < 2 ^ 32
    flow = flow_fits met.flow are.3

    choice : (t : Bool) (a6 a : Result ℕ Reason) → IfOk a6 (λ a. a < 2 ^ 128) → IfOk a (λ a. a < 2 ^ 32) → IfOk (cond t (a6 >>= (λ a. Ok (Get6 a (unwrap_or met.flow 0)))) (a >>= (λ a. Ok (Get4 a (unwrap_or met.flow 0))))) IsAsked
    choice true (Err reason) a fits6 fits = tt
    choice true (Ok b) a fits6 fits = (fits6, flow)
    choice false a6 (Err reason) fits6 fits = tt
    choice false a6 (Ok b) fits6 fits = (fits, flow)

tick_asks : (first : Option (List ℕ)) → IfOk (or_reason MissingWord first >>= (λ word. or_reason BadNumber (number_of word) >>= (λ ms. Ok (Both (shared.Tick ms))))) IsAsked
tick_asks None = tt
tick_asks (Some word) = there (number_of word) (number_fits word)
  where
    there : (o : Option ℕ) → IfSome o (λ n. n < 2 ^ 32) → IfOk (or_reason BadNumber o >>= (λ ms. Ok (Both (shared.Tick ms)))) IsAsked
    there None fits = tt
    there (Some ms) fits = fits

profile_asks : (first : Option (List ℕ)) → IfOk (or_reason MissingWord first >>= profile_named) IsAsked
profile_asks None = tt
profile_asks (Some word) = there (bytes_eq word (codes "1")) (bytes_eq word (codes "2"))
  where
    there : (one two : Bool) → IfOk (cond one (Ok (Profile 1)) (cond two (Ok (Profile 2)) (Err BadNumber))) IsAsked
    there true two = (omega arith, omega arith)
    there false true = (omega arith, omega arith)
    there false false = tt

by_asks : (v : Verb) (met : Met) → AreInRange met → IfOk (asked_by v met) IsAsked
by_asks verb.Add met are = family_asks met.family (add_of 32 met) (add_of 128 met) (add_fits 32 (inl refl) met are) (add_fits 128 (inr refl) met are)
by_asks verb.Change met are = family_asks met.family (change_of 32 met) (change_of 128 met) (change_fits 32 (inl refl) met are) (change_fits 128 (inr refl) met are)
by_asks verb.Delete met are = family_asks met.family (delete_of 32 met) (delete_of 128 met) (delete_fits 32 (inl refl) met are) (delete_fits 128 (inr refl) met are)
by_asks verb.Get met are = get_asks met are
by_asks verb.Flush met are = flush_asks met.family
by_asks verb.Tick met are = tick_asks met.first
by_asks verb.Sync met are = tt
by_asks verb.Algo met are = family_asks met.family (algo_of 32 met) (algo_of 128 met) (algo_fits 32 (inl refl) met are) (algo_fits 128 (inr refl) met are)
by_asks verb.Profile met are = profile_asks met.first

words_ask : (line : List ℕ) (words : List (List ℕ)) → IfOk (by_words line words) IsAsked
words_ask line [] = tt
words_ask line (first ∷ words) = choice (is_comment first) (list_all is_taken line) (from_command (first ∷ words))
  where
    met_asks : (v : Verb) (met : Result Met Reason) → IfOk met AreInRange → IfOk (met >>= asked_by v) IsAsked
    met_asks v (Err reason) are = tt
    met_asks v (Ok met) are = by_asks v met are

    with_verb : (v : Option Verb) (words : List (List ℕ)) → IfOk (by_verb v words) IsAsked
    with_verb None words = tt
    with_verb (Some v) words = met_asks v (walk_from v nothing_met words) (walk_in_range v nothing_met words (tt, tt, tt, tt))

    with_words : (words : List (List ℕ)) → IfOk (by_command words) IsAsked
    with_words [] = tt
    with_words (word ∷ words) = with_verb (verb_of word) words

    choice : (comment taken : Bool) (words : List (List ℕ)) → IfOk (cond comment (Ok Nothing) (cond taken (by_command words) (Err BadByte))) IsAsked
    choice true taken words = tt
    choice false true words = with_words words
    choice false false words = tt

-- what a line of a number asks for
abbrev pub IsAskedAt : ℕ → Asked → Type 0
IsAskedAt at asked = (at ≤ lines_limit) × IsAsked asked

pub asked_at : (at : ℕ) (text : List ℕ) → IfOk (asked_of at text) (IsAskedAt at)
asked_at at text = choice (nat_lt lines_limit at) (nat_lt line_limit (length text)) refl (by_words text (words_of text)) (words_ask text (words_of text))
  where
    inside : (r : Result Asked Reason) → at ≤ lines_limit → IfOk r IsAsked → IfOk r (IsAskedAt at)
    inside (Err reason) few is = tt
    inside (Ok asked) few is = (few, is)

    choice : (past long : Bool) → nat_lt lines_limit at ≡ past → (r : Result Asked Reason) → IfOk r IsAsked → IfOk (cond past (Err TooManyLines) (cond long (Err LineTooLong) r)) (IsAskedAt at)
    choice true long e r is = tt
    choice false true e r is = tt
    choice false false e r is = inside r (ltb-false lines_limit at e) is

-- what is asked in time is what is asked
pub timely_at : (at : ℕ) (begun : Bool) (r : Result Asked Reason) → IfOk r (IsAskedAt at) → IfOk (in_time begun r) (IsAskedAt at)
timely_at at begun (Err reason) is = tt
timely_at at begun (Ok asked) is = choice (is_profile asked && begun)
  where
    choice : (late : Bool) → IfOk (cond late (Err NotFirst) (Ok asked)) (IsAskedAt at)
    choice true = tt
    choice false = is
