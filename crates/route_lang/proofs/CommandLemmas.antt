-- The line that is spelled of what is asked asks for the same.
use Rattle.std.proofs.Common.{◌≡◌, ◌==◌, ◌∙◌, cond, ℕ, zero, suc, ◌^◌, ◌<◌, ◌≤◌, true, false, nat_lt, List, [], ◌∷◌, Option, Some, None, IfSome, Ok, length, decimal, codes, inl, inr, refl, sym, ap, arith, append-nil}
use Rattle.std.specs.Prelude.{unwrap_or}
use Rattle.std.specs.List.{list_all}
use Rattle.std.specs.Str.{bytes_eq}
use Rattle.std.proofs.lemmas.Bool.Decides.{nat_tests}
use Rattle.prefix_width.specs.Prefix.{Block, IsBlock}
use Rattle.prefix_width.specs.Path.{WeightedHop}
use Rattle.prefix_width.specs.declared.module.Kind.TheVariants.{Scan, Range, Radix, Dxr}
use Rattle.prefix_width.specs.declared.module.Setting.{Setting}
use Rattle.prefix_width.specs.declared.module.Setting.TheVariants.{Auto, Fixed}
use Rattle.addr_text.specs.Address.{IsFamilyWidth, address_text}
use Rattle.addr_text.specs.PrefixText.{prefix_text}
use Rattle.addr_text.proofs.NumberLemmas.{number_of-decimal}
use Rattle.addr_text.proofs.PrefixTextLemmas.{reads_back_prefix}
use Rattle.rib_store.specs.declared.command.Command.{Command}
use Rattle.rib_store.specs.declared.command.Command.TheVariants as command
use Rattle.rib_store.specs.Profile.{IsProfile}
use Rattle.route_lang.specs.Text.{words_of}
use Rattle.route_lang.specs.Reader.Verb.{verb_of, token_of}
use Rattle.route_lang.specs.Reader.Walk.{Met, nothing_met, walk_from}
use Rattle.route_lang.specs.Grammar.{◌>>=◌}
use Rattle.route_lang.specs.Reader.Asked.{asked_of, by_words, asked_by, destination_of, gateway_of, path_asked, IsModuleOf}
use Rattle.route_lang.specs.Grammar.{is_comment}
use Rattle.route_lang.specs.Reader.Lines.{shared_command}
use Rattle.route_lang.specs.Spelling.{family_word, option_words, target_words, route_words, gateway_words, module_word, command_words, shared_words, get_words, joined}
use Rattle.route_lang.proofs.AddressWordLemmas.{address_is_bare, decimal_is_word, digits_no_dash, prefix_is_word}
use Rattle.route_lang.proofs.WordsLemmas.{is_word, words_of-joined, taken-joined}
use Rattle.route_lang.proofs.WalkLemmas.{bare_goes, flag_goes}
use Rattle.route_lang.proofs.SpellingLemmas.{given, unwrap_or-given, value_written, option_goes, option_is_words, met_of, TakesRoute, add_takes, change_takes, IsPath, WalksRoute, route_goes, target_is_words, address_back}
use Rattle.route_lang.specs.declared.asked.Asked.{Asked}
use Rattle.route_lang.specs.declared.asked.Asked.TheVariants.{Nothing, Inet, Inet6, Both, Get4, Get6, Profile}
use Rattle.route_lang.specs.declared.asked.Shared.TheVariants as shared
use Rattle.route_lang.specs.declared.verb.Verb.{Verb}
use Rattle.route_lang.specs.declared.verb.Verb.TheVariants as verb
use Rattle.route_lang.specs.declared.verb.Flag.{Flag}
use Rattle.route_lang.specs.declared.verb.Flag.TheVariants as flag
use Rattle.route_lang.specs.declared.verb.Token.TheVariants.{Plain}
use Rattle.route_lang.specs.Limits.{lines_limit, line_limit}

-- ---- a line of words

-- these words ask for this
pub record AsksFor (v : Verb) (name : List ℕ) (rest : List (List ℕ)) (asked : Asked) : Type 0 where
  pub are : list_all is_word (name ∷ rest) ≡ true
  pub comment : is_comment name ≡ false
  pub route : bytes_eq name (codes "route") ≡ false
  pub named : verb_of name ≡ Some v
  pub walk : (walk_from v nothing_met rest >>= asked_by v) ≡ Ok asked

by_parts : (at : ℕ) (line : List ℕ) (words : List (List ℕ)) → at ≤ lines_limit → length line ≤ line_limit → words_of line ≡ words → asked_of at line ≡ by_words line words
by_parts at line words few short e =
    let inside : nat_lt lines_limit at ≡ false = grind (arith, nat_tests) in
    let enough : nat_lt line_limit (length line) ≡ false = grind (arith, nat_tests) in
    rw (inside, enough) (ap (by_words line) e)

pub line_asks : (v : Verb) (name : List ℕ) (rest : List (List ℕ)) (asked : Asked) (at : ℕ) → AsksFor v name rest asked → at ≤ lines_limit → length (joined (name ∷ rest)) ≤ line_limit → asked_of at (joined (name ∷ rest)) ≡ Ok asked
line_asks v name rest asked at asks few short =
    let parts = by_parts at (joined (name ∷ rest)) (name ∷ rest) few short (words_of-joined (name ∷ rest) asks.are) in
    let taken = taken-joined (name ∷ rest) asks.are in
    parts ∙ rw (asks.comment, taken, asks.route, asks.named) asks.walk

-- ---- the family

inet_goes : (v : Verb) (rest : List (List ℕ)) → token_of v (codes "-inet") ≡ Some (Plain flag.Inet) → walk_from v nothing_met (codes "-inet" ∷ rest) ≡ walk_from v (met_of None None (Some flag.Inet) None None None None) rest
inet_goes v rest token = flag_goes v nothing_met (met_of None None (Some flag.Inet) None None None None) flag.Inet (codes "-inet") rest token refl

inet6_goes : (v : Verb) (rest : List (List ℕ)) → token_of v (codes "-inet6") ≡ Some (Plain flag.Inet6) → walk_from v nothing_met (codes "-inet6" ∷ rest) ≡ walk_from v (met_of None None (Some flag.Inet6) None None None None) rest
inet6_goes v rest token = flag_goes v nothing_met (met_of None None (Some flag.Inet6) None None None None) flag.Inet6 (codes "-inet6") rest token refl

-- ---- what a line may ask for

abbrev pub IsCommand : (w : ℕ) → Command w → Type 0
IsCommand w (command.Add b p) = IsBlock w b × IsPath w p
IsCommand w (command.Change b p) = IsBlock w b × IsPath w p
IsCommand w (command.Delete b gateway) = IsBlock w b × IfSome gateway (λ g. g < 2 ^ w)
IsCommand w command.Flush = Unit {0}
IsCommand w (command.Tick ms) = ⊥
IsCommand w command.Sync = ⊥
IsCommand w (command.Algo setting) = IsModuleOf w setting

-- ---- routes

route_is_words : (w : ℕ) (b : Block) (p : WeightedHop) → IsFamilyWidth w → IsBlock w b → IsPath w p → list_all is_word (prefix_text w b ∷ target_words w p.nexthop.kind p) ≡ true
route_is_words w b p width is path =
    let first = (prefix_is_word w b width is).one in
    let later = target_is_words w p.nexthop.kind p width path.hop.2 path.settings in
    rw (first, later) refl

walks : (v : Verb) (takes : TakesRoute v) (w : ℕ) (width : IsFamilyWidth w) (family : Option Flag) (b : Block) (p : WeightedHop) → IsBlock w b → IsPath w p → WalksRoute v w family b p (prefix_text w b ∷ target_words w p.nexthop.kind p)
walks v takes w width family b p is path = route_goes v takes w width family b is p.nexthop.kind p.nexthop.gateway p.nexthop.iface p.nexthop.mtu p.weight path

add_asked : (met : Met) (b : Block) (p : WeightedHop) → met.family ≡ Some flag.Inet → destination_of 32 met ≡ Ok b → path_asked 32 met ≡ Ok p → asked_by verb.Add met ≡ Ok (Inet (command.Add b p))
add_asked met b p family destination path = rw (destination, path, family) refl

add_asked6 : (met : Met) (b : Block) (p : WeightedHop) → met.family ≡ Some flag.Inet6 → destination_of 128 met ≡ Ok b → path_asked 128 met ≡ Ok p → asked_by verb.Add met ≡ Ok (Inet6 (command.Add b p))
add_asked6 met b p family destination path = rw (destination, path, family) refl

change_asked : (met : Met) (b : Block) (p : WeightedHop) → met.family ≡ Some flag.Inet → destination_of 32 met ≡ Ok b → path_asked 32 met ≡ Ok p → asked_by verb.Change met ≡ Ok (Inet (command.Change b p))
change_asked met b p family destination path = rw (destination, path, family) refl

change_asked6 : (met : Met) (b : Block) (p : WeightedHop) → met.family ≡ Some flag.Inet6 → destination_of 128 met ≡ Ok b → path_asked 128 met ≡ Ok p → asked_by verb.Change met ≡ Ok (Inet6 (command.Change b p))
change_asked6 met b p family destination path = rw (destination, path, family) refl

add_asks : (b : Block) (p : WeightedHop) → IsBlock 32 b → IsPath 32 p → AsksFor verb.Add (codes "add") (route_words 32 b p) (Inet (command.Add b p))
add_asks b p is path =
    let r = walks verb.Add add_takes 32 (inl refl) (Some flag.Inet) b p is path in
    let walked = inet_goes verb.Add (prefix_text 32 b ∷ target_words 32 p.nexthop.kind p) refl ∙ r.walked in
    record { are = route_is_words 32 b p (inl refl) is path; comment = refl; route = refl; named = refl; walk = ap (λ met. met >>= asked_by verb.Add) walked ∙ add_asked r.met b p r.same r.destination r.path }

add_asks6 : (b : Block) (p : WeightedHop) → IsBlock 128 b → IsPath 128 p → AsksFor verb.Add (codes "add") (route_words 128 b p) (Inet6 (command.Add b p))
add_asks6 b p is path =
    let r = walks verb.Add add_takes 128 (inr refl) (Some flag.Inet6) b p is path in
    let walked = inet6_goes verb.Add (prefix_text 128 b ∷ target_words 128 p.nexthop.kind p) refl ∙ r.walked in
    record { are = route_is_words 128 b p (inr refl) is path; comment = refl; route = refl; named = refl; walk = ap (λ met. met >>= asked_by verb.Add) walked ∙ add_asked6 r.met b p r.same r.destination r.path }

change_asks : (b : Block) (p : WeightedHop) → IsBlock 32 b → IsPath 32 p → AsksFor verb.Change (codes "change") (route_words 32 b p) (Inet (command.Change b p))
change_asks b p is path =
    let r = walks verb.Change change_takes 32 (inl refl) (Some flag.Inet) b p is path in
    let walked = inet_goes verb.Change (prefix_text 32 b ∷ target_words 32 p.nexthop.kind p) refl ∙ r.walked in
    record { are = route_is_words 32 b p (inl refl) is path; comment = refl; route = refl; named = refl; walk = ap (λ met. met >>= asked_by verb.Change) walked ∙ change_asked r.met b p r.same r.destination r.path }

change_asks6 : (b : Block) (p : WeightedHop) → IsBlock 128 b → IsPath 128 p → AsksFor verb.Change (codes "change") (route_words 128 b p) (Inet6 (command.Change b p))
change_asks6 b p is path =
    let r = walks verb.Change change_takes 128 (inr refl) (Some flag.Inet6) b p is path in
    let walked = inet6_goes verb.Change (prefix_text 128 b ∷ target_words 128 p.nexthop.kind p) refl ∙ r.walked in
    record { are = route_is_words 128 b p (inr refl) is path; comment = refl; route = refl; named = refl; walk = ap (λ met. met >>= asked_by verb.Change) walked ∙ change_asked6 r.met b p r.same r.destination r.path }

-- ---- delete

delete_is_words : (w : ℕ) (b : Block) (gateway : Option ℕ) → IsFamilyWidth w → IsBlock w b → IfSome gateway (λ g. g < 2 ^ w) → list_all is_word (prefix_text w b ∷ gateway_words w gateway) ≡ true
delete_is_words w b None width is fits = let first = (prefix_is_word w b width is).one in rw first refl
delete_is_words w b (Some g) width is fits =
    let first = (prefix_is_word w b width is).one in
    let second = (address_is_bare w g width fits).one in
    rw (first, second) refl

-- what a walk over the words of a delete has met
record WalksDelete (w : ℕ) (family : Option Flag) (b : Block) (gateway : Option ℕ) (words : List (List ℕ)) : Type 0 where
  met : Met
  walked : walk_from verb.Delete (met_of None None family None None None None) words ≡ Ok met
  same : met.family ≡ family
  destination : destination_of w met ≡ Ok b
  to : gateway_of w met ≡ Ok gateway

delete_goes : (w : ℕ) (family : Option Flag) (b : Block) (gateway : Option ℕ) → IsFamilyWidth w → IsBlock w b → IfSome gateway (λ g. g < 2 ^ w) → WalksDelete w family b gateway (prefix_text w b ∷ gateway_words w gateway)
delete_goes w family b None width is fits =
    let back = reads_back_prefix w b width is in
    let no_dash = (prefix_is_word w b width is).no_dash in
    record {
      met = met_of (Some (prefix_text w b)) None family None None None None;
      walked = bare_goes verb.Delete (met_of None None family None None None None) (met_of (Some (prefix_text w b)) None family None None None None) (prefix_text w b) [] (rw no_dash refl) refl;
      same = refl;
      destination = rw back refl;
      to = refl;
    }
delete_goes w family b (Some g) width is fits =
    let back = reads_back_prefix w b width is in
    let gateway_back = address_back w g width fits in
    let no_dash = (prefix_is_word w b width is).no_dash in
    let no_dash_there = (address_is_bare w g width fits).no_dash in
    record {
      met = met_of (Some (prefix_text w b)) (Some (address_text w g)) family None None None None;
      walked = bare_goes verb.Delete (met_of None None family None None None None) (met_of (Some (prefix_text w b)) None family None None None None) (prefix_text w b) (address_text w g ∷ []) (rw no_dash refl) refl
          ∙ bare_goes verb.Delete (met_of (Some (prefix_text w b)) None family None None None None) (met_of (Some (prefix_text w b)) (Some (address_text w g)) family None None None None) (address_text w g) [] (rw no_dash_there refl) refl;
      same = refl;
      destination = rw back refl;
      to = rw gateway_back refl;
    }

delete_asked : (met : Met) (b : Block) (g : Option ℕ) → met.family ≡ Some flag.Inet → destination_of 32 met ≡ Ok b → gateway_of 32 met ≡ Ok g → asked_by verb.Delete met ≡ Ok (Inet (command.Delete b g))
delete_asked met b g family destination to = rw (family, destination, to) refl

delete_asked6 : (met : Met) (b : Block) (g : Option ℕ) → met.family ≡ Some flag.Inet6 → destination_of 128 met ≡ Ok b → gateway_of 128 met ≡ Ok g → asked_by verb.Delete met ≡ Ok (Inet6 (command.Delete b g))
delete_asked6 met b g family destination to = rw (family, destination, to) refl

delete_asks : (b : Block) (g : Option ℕ) → IsBlock 32 b → IfSome g (λ g. g < 2 ^ 32) → AsksFor verb.Delete (codes "delete") (family_word 32 ∷ prefix_text 32 b ∷ gateway_words 32 g) (Inet (command.Delete b g))
delete_asks b g is fits =
    let r = delete_goes 32 (Some flag.Inet) b g (inl refl) is fits in
    let walked = inet_goes verb.Delete (prefix_text 32 b ∷ gateway_words 32 g) refl ∙ r.walked in
    record { are = delete_is_words 32 b g (inl refl) is fits; comment = refl; route = refl; named = refl; walk = ap (λ met. met >>= asked_by verb.Delete) walked ∙ delete_asked r.met b g r.same r.destination r.to }

delete_asks6 : (b : Block) (g : Option ℕ) → IsBlock 128 b → IfSome g (λ g. g < 2 ^ 128) → AsksFor verb.Delete (codes "delete") (family_word 128 ∷ prefix_text 128 b ∷ gateway_words 128 g) (Inet6 (command.Delete b g))
delete_asks6 b g is fits =
    let r = delete_goes 128 (Some flag.Inet6) b g (inr refl) is fits in
    let walked = inet6_goes verb.Delete (prefix_text 128 b ∷ gateway_words 128 g) refl ∙ r.walked in
    record { are = delete_is_words 128 b g (inr refl) is fits; comment = refl; route = refl; named = refl; walk = ap (λ met. met >>= asked_by verb.Delete) walked ∙ delete_asked6 r.met b g r.same r.destination r.to }

-- ---- get

-- what the walk over the words of a get has met
abbrev get_met : Option (List ℕ) → Option Flag → Option ℕ → Met
get_met first family flow = record (met_of first None family None None None None) { flow = flow }

get_goes : (w : ℕ) (family : Option Flag) (a f : ℕ) → IsFamilyWidth w → a < 2 ^ w → f < 2 ^ 32 → walk_from verb.Get (met_of None None family None None None None) (address_text w a ∷ option_words (codes "flow") 0 f) ≡ Ok (get_met (Some (address_text w a)) family (given 0 f))
get_goes w family a f width fits small =
    let bare = address_is_bare w a width fits in
    let no_dash = bare.no_dash in
    let no_flow = bare.no_flow in
    let most : f ≤ 4294967295 = omega arith in
    let least : 0 ≤ f = omega arith in
    bare_goes verb.Get (met_of None None family None None None None) (get_met (Some (address_text w a)) family None) (address_text w a) (option_words (codes "flow") 0 f) (rw (no_dash, no_flow) refl) refl
    ∙ ap (walk_from verb.Get (get_met (Some (address_text w a)) family None)) (sym (append-nil (option_words (codes "flow") 0 f)))
    ∙ option_goes verb.Get flag.Flow (codes "flow") 0 f (λ o. get_met (Some (address_text w a)) family o) [] refl refl refl (λ e. value_written flag.Flow f small least most)

get_is_words : (w a f : ℕ) → IsFamilyWidth w → a < 2 ^ w → f < 2 ^ 32 → list_all is_word (address_text w a ∷ option_words (codes "flow") 0 f) ≡ true
get_is_words w a f width fits small =
    let first = (address_is_bare w a width fits).one in
    let later = option_is_words (codes "flow") 0 f refl small in
    rw (first, later) refl

get_asks : (a f : ℕ) → a < 2 ^ 32 → f < 2 ^ 32 → AsksFor verb.Get (codes "get") (family_word 32 ∷ address_text 32 a ∷ option_words (codes "flow") 0 f) (Get4 a f)
get_asks a f fits small =
    let back = address_back 32 a (inl refl) fits in
    let walked = inet_goes verb.Get (address_text 32 a ∷ option_words (codes "flow") 0 f) refl ∙ get_goes 32 (Some flag.Inet) a f (inl refl) fits small in
    record { are = get_is_words 32 a f (inl refl) fits small; comment = refl; route = refl; named = refl; walk = ap (λ met. met >>= asked_by verb.Get) walked ∙ rw (back, unwrap_or-given 0 f) refl }

get_asks6 : (a f : ℕ) → a < 2 ^ 128 → f < 2 ^ 32 → AsksFor verb.Get (codes "get") (family_word 128 ∷ address_text 128 a ∷ option_words (codes "flow") 0 f) (Get6 a f)
get_asks6 a f fits small =
    let back = address_back 128 a (inr refl) fits in
    let walked = inet6_goes verb.Get (address_text 128 a ∷ option_words (codes "flow") 0 f) refl ∙ get_goes 128 (Some flag.Inet6) a f (inr refl) fits small in
    record { are = get_is_words 128 a f (inr refl) fits small; comment = refl; route = refl; named = refl; walk = ap (λ met. met >>= asked_by verb.Get) walked ∙ rw (back, unwrap_or-given 0 f) refl }

-- ---- tick and algo

tick_asks : (ms : ℕ) → ms < 2 ^ 32 → AsksFor verb.Tick (codes "tick") (decimal ms ∷ []) (Both (shared.Tick ms))
tick_asks ms small =
    let digits = decimal_is_word ms small in
    let back = number_of-decimal ms small in
    let no_dash = digits_no_dash ms small in
    record {
      are = rw digits refl;
      comment = refl;
      route = refl;
      named = refl;
      walk = ap (λ met. met >>= asked_by verb.Tick) (bare_goes verb.Tick nothing_met (met_of (Some (decimal ms)) None None None None None None) (decimal ms) [] (rw no_dash refl) refl) ∙ rw back refl;
    }

algo_asks : (s : Setting) → AsksFor verb.Algo (codes "algo") (family_word 32 ∷ module_word s ∷ []) (Inet (command.Algo s))
algo_asks Auto = record { are = refl; comment = refl; route = refl; named = refl; walk = refl }
algo_asks (Fixed Scan) = record { are = refl; comment = refl; route = refl; named = refl; walk = refl }
algo_asks (Fixed Range) = record { are = refl; comment = refl; route = refl; named = refl; walk = refl }
algo_asks (Fixed Radix) = record { are = refl; comment = refl; route = refl; named = refl; walk = refl }
algo_asks (Fixed Dxr) = record { are = refl; comment = refl; route = refl; named = refl; walk = refl }

algo_asks6 : (s : Setting) → IsModuleOf 128 s → AsksFor verb.Algo (codes "algo") (family_word 128 ∷ module_word s ∷ []) (Inet6 (command.Algo s))
algo_asks6 Auto own = record { are = refl; comment = refl; route = refl; named = refl; walk = refl }
algo_asks6 (Fixed Scan) own = record { are = refl; comment = refl; route = refl; named = refl; walk = refl }
algo_asks6 (Fixed Range) own = record { are = refl; comment = refl; route = refl; named = refl; walk = refl }
algo_asks6 (Fixed Radix) own = record { are = refl; comment = refl; route = refl; named = refl; walk = refl }
algo_asks6 (Fixed Dxr) own = absurd (omega (arith, own))

-- the word of a profile
abbrev pub profile_word : ℕ → List ℕ
profile_word n = cond (n == 2) (codes "2") (codes "1")

profile_asks : (n : ℕ) → IsProfile n → AsksFor verb.Profile (codes "profile") (profile_word n ∷ []) (Profile n)
profile_asks zero is = absurd (omega (arith, is.0))
profile_asks (suc zero) is = record { are = refl; comment = refl; route = refl; named = refl; walk = refl }
profile_asks (suc (suc zero)) is = record { are = refl; comment = refl; route = refl; named = refl; walk = refl }
profile_asks (suc (suc (suc n))) is = absurd (omega (arith, is.1))

-- ---- what is asked

abbrev pub IsAsked : Asked → Type 0
IsAsked Nothing = Unit {0}
IsAsked (Inet c) = IsCommand 32 c
IsAsked (Inet6 c) = IsCommand 128 c
IsAsked (Both (shared.Tick ms)) = ms < 2 ^ 32
IsAsked (Both s) = Unit {0}
IsAsked (Get4 a flow) = (a < 2 ^ 32) × (flow < 2 ^ 32)
IsAsked (Get6 a flow) = (a < 2 ^ 128) × (flow < 2 ^ 32)
IsAsked (Profile n) = IsProfile n

-- the words that are spelled of what is asked
abbrev pub asked_words : Asked → List (List ℕ)
asked_words Nothing = []
asked_words (Inet c) = command_words c
asked_words (Inet6 c) = command_words c
asked_words (Both s) = shared_words (shared_command s)
asked_words (Get4 a flow) = get_words 32 a flow
asked_words (Get6 a flow) = get_words 128 a flow
asked_words (Profile n) = codes "profile" ∷ profile_word n ∷ []

-- these are words, and ask for this on a line of any number
abbrev pub Asks : List (List ℕ) → Asked → Type 0
Asks words asked = (list_all is_word words ≡ true) × ((at : ℕ) → at ≤ lines_limit → length (joined words) ≤ line_limit → asked_of at (joined words) ≡ Ok asked)

asks_by : (v : Verb) (name : List ℕ) (rest : List (List ℕ)) (asked : Asked) → AsksFor v name rest asked → Asks (name ∷ rest) asked
asks_by v name rest asked asks = (asks.are, λ at few short. line_asks v name rest asked at asks few short)

-- what is spelled of what is asked asks for the same
pub asks_same : (asked : Asked) → IsAsked asked → Asks (asked_words asked) asked
asks_same Nothing is = (refl, λ at few short. by_parts at [] [] few short refl)
asks_same (Inet (command.Add b p)) is = asks_by verb.Add (codes "add") (route_words 32 b p) (Inet (command.Add b p)) (add_asks b p is.0 is.1)
asks_same (Inet (command.Change b p)) is = asks_by verb.Change (codes "change") (route_words 32 b p) (Inet (command.Change b p)) (change_asks b p is.0 is.1)
asks_same (Inet (command.Delete b g)) is = asks_by verb.Delete (codes "delete") (family_word 32 ∷ prefix_text 32 b ∷ gateway_words 32 g) (Inet (command.Delete b g)) (delete_asks b g is.0 is.1)
asks_same (Inet command.Flush) is = asks_by verb.Flush (codes "flush") (family_word 32 ∷ []) (Inet command.Flush) (record { are = refl; comment = refl; route = refl; named = refl; walk = refl })
asks_same (Inet (command.Tick ms)) is = absurd is
asks_same (Inet command.Sync) is = absurd is
asks_same (Inet (command.Algo s)) is = asks_by verb.Algo (codes "algo") (family_word 32 ∷ module_word s ∷ []) (Inet (command.Algo s)) (algo_asks s)
asks_same (Inet6 (command.Add b p)) is = asks_by verb.Add (codes "add") (route_words 128 b p) (Inet6 (command.Add b p)) (add_asks6 b p is.0 is.1)
asks_same (Inet6 (command.Change b p)) is = asks_by verb.Change (codes "change") (route_words 128 b p) (Inet6 (command.Change b p)) (change_asks6 b p is.0 is.1)
asks_same (Inet6 (command.Delete b g)) is = asks_by verb.Delete (codes "delete") (family_word 128 ∷ prefix_text 128 b ∷ gateway_words 128 g) (Inet6 (command.Delete b g)) (delete_asks6 b g is.0 is.1)
asks_same (Inet6 command.Flush) is = asks_by verb.Flush (codes "flush") (family_word 128 ∷ []) (Inet6 command.Flush) (record { are = refl; comment = refl; route = refl; named = refl; walk = refl })
asks_same (Inet6 (command.Tick ms)) is = absurd is
asks_same (Inet6 command.Sync) is = absurd is
asks_same (Inet6 (command.Algo s)) is = asks_by verb.Algo (codes "algo") (family_word 128 ∷ module_word s ∷ []) (Inet6 (command.Algo s)) (algo_asks6 s is)
asks_same (Both shared.Flush) is = asks_by verb.Flush (codes "flush") [] (Both shared.Flush) (record { are = refl; comment = refl; route = refl; named = refl; walk = refl })
asks_same (Both (shared.Tick ms)) is = asks_by verb.Tick (codes "tick") (decimal ms ∷ []) (Both (shared.Tick ms)) (tick_asks ms is)
asks_same (Both shared.Sync) is = asks_by verb.Sync (codes "sync") [] (Both shared.Sync) (record { are = refl; comment = refl; route = refl; named = refl; walk = refl })
asks_same (Get4 a f) is = asks_by verb.Get (codes "get") (family_word 32 ∷ address_text 32 a ∷ option_words (codes "flow") 0 f) (Get4 a f) (get_asks a f is.0 is.1)
asks_same (Get6 a f) is = asks_by verb.Get (codes "get") (family_word 128 ∷ address_text 128 a ∷ option_words (codes "flow") 0 f) (Get6 a f) (get_asks6 a f is.0 is.1)
asks_same (Profile n) is = asks_by verb.Profile (codes "profile") (profile_word n ∷ []) (Profile n) (profile_asks n is)
