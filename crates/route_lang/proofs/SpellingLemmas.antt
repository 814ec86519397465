-- What is asked for, spelled, asks for the same.
use Rattle.std.proofs.Common.{◌≡◌, ◌∙◌, ◌==◌, ℕ, ◌^◌, ◌<◌, ◌≤◌, Bool, true, false, cond, le-leb, List, [], ◌∷◌, ◌++◌, Option, Some, None, Ok, decimal, codes, eqb-true, ne_eqb, inl, inr, refl, sym, ap, subst, arith, append-nil}
use Rattle.std.specs.Prelude.{unwrap_or}
use Rattle.std.specs.List.{list_all}
use Rattle.std.proofs.lemmas.Bool.Decides.{nat_tests}
use Rattle.std.proofs.lemmas.List.Folds.{list_all-append}
use Rattle.prefix_width.specs.Prefix.{Block, IsBlock}
use Rattle.prefix_width.specs.Nexthop.{IsHop}
use Rattle.prefix_width.specs.Path.{WeightedHop, IsWeight}
use Rattle.prefix_width.specs.declared.nexthop.NhKind.{NhKind}
use Rattle.prefix_width.specs.declared.nexthop.NhKind.TheVariants as kind
use Rattle.addr_text.specs.Address.{IsFamilyWidth, address_of, address_text}
use Rattle.addr_text.specs.PrefixText.{prefix_text}
use Rattle.addr_text.proofs.NumberLemmas.{number_of-decimal}
use Rattle.addr_text.proofs.PrefixTextLemmas.{reads_back_prefix}
use Rattle.addr_text.proofs.AddressLemmas.{reads_back_ipv4, reads_back_ipv6}
use Rattle.route_lang.specs.Reader.Verb.{token_of, bare_words, value_of, least_value, greatest_value}
use Rattle.route_lang.specs.Grammar.{begins_with_dash}
use Rattle.route_lang.specs.Reader.Walk.{Met, is_given, set_value, with_flag, walk_from}
use Rattle.route_lang.specs.Reader.Asked.{destination_of, path_asked}
use Rattle.route_lang.specs.Spelling.{option_words, setting_words, target_words}
use Rattle.route_lang.proofs.AddressWordLemmas.{address_is_bare, decimal_is_word, prefix_is_word}
use Rattle.route_lang.proofs.WordsLemmas.{is_word}
use Rattle.route_lang.proofs.WalkLemmas.{bare_goes, flag_goes, value_goes}
use Rattle.route_lang.specs.declared.verb.Verb.{Verb}
use Rattle.route_lang.specs.declared.verb.Verb.TheVariants as verb
use Rattle.route_lang.specs.declared.verb.Flag.{Flag}
use Rattle.route_lang.specs.declared.verb.Flag.TheVariants as flag
use Rattle.route_lang.specs.declared.verb.Token.TheVariants.{Bare, Plain, Valued}

-- ---- options

-- what a walk has met of an option that is left out where its value is `absent`
abbrev pub given : ℕ → ℕ → Option ℕ
given absent n = cond (n == absent) None (Some n)

pub unwrap_or-given : (absent n : ℕ) → unwrap_or (given absent n) absent ≡ n
unwrap_or-given absent n = cases (n == absent) refl
  where
    cases : (t : Bool) → (n == absent) ≡ t → unwrap_or (cond t None (Some n)) absent ≡ n
    cases true e = sym (eqb-true n absent e)
    cases false e = refl

-- the number that an option's value writes
pub value_written : (f : Flag) (n : ℕ) → n < 2 ^ 32 → least_value f ≤ n → n ≤ greatest_value f → value_of f (decimal n) ≡ Some n
value_written f n small least most = rw (number_of-decimal n small, le-leb (least_value f) n least, le-leb n (greatest_value f) most) refl

pub option_goes : (v : Verb) (f : Flag) (word : List ℕ) (absent n : ℕ) (put : Option ℕ → Met) (rest : List (List ℕ)) → token_of v word ≡ Some (Valued f) → is_given (put None) f ≡ false → set_value (put None) f n ≡ put (Some n)
    → ((n == absent) ≡ false → value_of f (decimal n) ≡ Some n) → walk_from v (put None) (option_words word absent n ++ rest) ≡ walk_from v (put (given absent n)) rest
option_goes v f word absent n put rest token fresh set value = cases (n == absent) refl
  where
    cases : (t : Bool) → (n == absent) ≡ t → walk_from v (put None) (cond t [] (word ∷ decimal n ∷ []) ++ rest) ≡ walk_from v (put (cond t None (Some n))) rest
    cases true e = refl
    cases false e =
        let parsed = value e in
        value_goes v (put None) (put (Some n)) f word (decimal n) rest token (rw (fresh, parsed) (ap Ok set))

-- ---- the words behind the family of an `add` or a `change`

-- what the walk over them has met, where nothing is dropped
abbrev pub met_of : Option (List ℕ) → Option (List ℕ) → Option Flag → Option Flag → Option ℕ → Option ℕ → Option ℕ → Met
met_of first second family discard iface mtu weight = record {
  first = first;
  second = second;
  family = family;
  extent = None;
  discard = discard;
  iface = iface;
  mtu = mtu;
  weight = weight;
  flow = None;
}

-- a command with a route's options
pub record TakesRoute (v : Verb) : Type 0 where
  pub two : bare_words v ≡ 2
  pub bare : (word : List ℕ) → begins_with_dash word ≡ false → token_of v word ≡ Some Bare
  pub iface : token_of v (codes "-if") ≡ Some (Valued flag.Iface)
  pub mtu : token_of v (codes "-mtu") ≡ Some (Valued flag.Mtu)
  pub weight : token_of v (codes "-weight") ≡ Some (Valued flag.Weight)
  pub blackhole : token_of v (codes "-blackhole") ≡ Some (Plain flag.Blackhole)
  pub reject : token_of v (codes "-reject") ≡ Some (Plain flag.Reject)

pub add_takes : TakesRoute verb.Add
add_takes = record { two = refl; bare = λ word e. rw e refl; iface = refl; mtu = refl; weight = refl; blackhole = refl; reject = refl }

pub change_takes : TakesRoute verb.Change
change_takes = record { two = refl; bare = λ word e. rw e refl; iface = refl; mtu = refl; weight = refl; blackhole = refl; reject = refl }

-- values that the options may have, or none
pub record AreSettings (p : WeightedHop) : Type 0 where
  pub iface : p.nexthop.iface ≤ 65535
  pub mtu : p.nexthop.mtu < 2 ^ 32
  pub least : 1 ≤ p.weight
  pub weight : p.weight ≤ 16777215

above_zero : (n : ℕ) → (n == 0) ≡ false → 1 ≤ n
above_zero n e = grind (arith, nat_tests)

module _ (v : Verb) (takes : TakesRoute v) (family : Option Flag) where
  settings_go : (first second : Option (List ℕ)) (p : WeightedHop) → AreSettings p
      → walk_from v (met_of first second family None None None None) (setting_words p) ≡ Ok (met_of first second family None (given 0 p.nexthop.iface) (given 0 p.nexthop.mtu) (given 1 p.weight))
  settings_go first second p are =
      let iface = p.nexthop.iface in
      let mtu = p.nexthop.mtu in
      let weight = p.weight in
      let wide : iface < 2 ^ 32 = omega (arith, are.iface) in
      let wide_weight : weight < 2 ^ 32 = omega (arith, are.weight) in
      let mtu_most : mtu ≤ 4294967295 = omega (arith, are.mtu) in
      let behind_iface = option_words (codes "-mtu") 0 mtu ++ option_words (codes "-weight") 1 weight in
      let one = option_goes v flag.Iface (codes "-if") 0 iface (λ o. met_of first second family None o None None) behind_iface takes.iface refl refl (λ e. value_written flag.Iface iface wide (above_zero iface e) are.iface) in
      let two = option_goes v flag.Mtu (codes "-mtu") 0 mtu (λ o. met_of first second family None (given 0 iface) o None) (option_words (codes "-weight") 1 weight) takes.mtu refl refl (λ e. value_written flag.Mtu mtu are.mtu (above_zero mtu e) mtu_most) in
      let three = option_goes v flag.Weight (codes "-weight") 1 weight (λ o. met_of first second family None (given 0 iface) (given 0 mtu) o) [] takes.weight refl refl (λ e. value_written flag.Weight weight wide_weight are.least are.weight) in
      one ∙ two ∙ ap (walk_from v (met_of first second family None (given 0 iface) (given 0 mtu) None)) (sym (append-nil (option_words (codes "-weight") 1 weight))) ∙ three

-- ---- the words of a route

-- the address that its text writes
pub address_back : (w a : ℕ) → IsFamilyWidth w → a < 2 ^ w → address_of w (address_text w a) ≡ Some a
address_back w a family fits =
    let P : ℕ → Type 0 = λ w. a < 2 ^ w → address_of w (address_text w a) ≡ Some a in
    elim family [ inl e ↦ subst P (sym e) (reads_back_ipv4 a) fits | inr e ↦ subst P (sym e) (reads_back_ipv6 a) fits ]

given_some : (n : ℕ) → 1 ≤ n → given 0 n ≡ Some n
given_some n some = rw (ne_eqb n 0 (λ e. omega arith)) refl

-- a path that an `add` may have
pub record IsPath (w : ℕ) (p : WeightedHop) : Type 0 where
  pub hop : IsHop w p.nexthop
  pub weight : IsWeight p.nexthop.kind p.weight
  pub settings : AreSettings p

-- what a walk over the words of a route has met
pub record WalksRoute (v : Verb) (w : ℕ) (family : Option Flag) (b : Block) (p : WeightedHop) (words : List (List ℕ)) : Type 0 where
  pub met : Met
  pub walked : walk_from v (met_of None None family None None None None) words ≡ Ok met
  pub same : met.family ≡ family
  pub destination : destination_of w met ≡ Ok b
  pub path : path_asked w met ≡ Ok p

module _ (v : Verb) (takes : TakesRoute v) (w : ℕ) (width : IsFamilyWidth w) (family : Option Flag) (b : Block) (is : IsBlock w b) where
  prefix_goes : (rest : List (List ℕ)) → walk_from v (met_of None None family None None None None) (prefix_text w b ∷ rest) ≡ walk_from v (met_of (Some (prefix_text w b)) None family None None None None) rest
  prefix_goes rest =
      bare_goes v (met_of None None family None None None None) (met_of (Some (prefix_text w b)) None family None None None None) (prefix_text w b) rest
      (takes.bare (prefix_text w b) (prefix_is_word w b width is).no_dash) (rw takes.two refl)

  dropped_goes : (f : Flag) (word : List ℕ) (p : WeightedHop) → token_of v word ≡ Some (Plain f) → with_flag (met_of (Some (prefix_text w b)) None family None None None None) f ≡ Ok (met_of (Some (prefix_text w b)) None family (Some f) None None None)
      → path_asked w (met_of (Some (prefix_text w b)) None family (Some f) None None None) ≡ Ok p → WalksRoute v w family b p (prefix_text w b ∷ word ∷ [])
  dropped_goes f word p token taken path =
      let back = reads_back_prefix w b width is in
      record {
        met = met_of (Some (prefix_text w b)) None family (Some f) None None None;
        walked = prefix_goes (word ∷ [])
            ∙ flag_goes v (met_of (Some (prefix_text w b)) None family None None None None) (met_of (Some (prefix_text w b)) None family (Some f) None None None) f word [] token taken;
        same = refl;
        destination = rw back refl;
        path = path;
      }

  pub route_goes : (k : NhKind) (gateway iface mtu weight : ℕ) → IsPath w (record { nexthop = record { kind = k; gateway = gateway; iface = iface; mtu = mtu }; weight = weight })
      → WalksRoute v w family b (record { nexthop = record { kind = k; gateway = gateway; iface = iface; mtu = mtu }; weight = weight }) (prefix_text w b ∷ target_words w k (record { nexthop = record { kind = k; gateway = gateway; iface = iface; mtu = mtu }; weight = weight }))
  route_goes kind.Via gateway iface mtu weight path =
      let p : WeightedHop = record { nexthop = record { kind = kind.Via; gateway = gateway; iface = iface; mtu = mtu }; weight = weight } in
      let word = address_text w gateway in
      let back = reads_back_prefix w b width is in
      let gateway_back = address_back w gateway width path.hop.2 in
      record {
        met = met_of (Some (prefix_text w b)) (Some word) family None (given 0 iface) (given 0 mtu) (given 1 weight);
        walked = prefix_goes (word ∷ setting_words p)
            ∙ bare_goes v (met_of (Some (prefix_text w b)) None family None None None None) (met_of (Some (prefix_text w b)) (Some word) family None None None None) word (setting_words p) (takes.bare word (address_is_bare w gateway width path.hop.2).no_dash) (rw takes.two refl)
            ∙ settings_go v takes family (Some (prefix_text w b)) (Some word) p path.settings;
        same = refl;
        destination = rw back refl;
        path = rw (gateway_back, unwrap_or-given 0 iface, unwrap_or-given 0 mtu, unwrap_or-given 1 weight) refl;
      }
  route_goes kind.Direct gateway iface mtu weight path =
      let p : WeightedHop = record { nexthop = record { kind = kind.Direct; gateway = gateway; iface = iface; mtu = mtu }; weight = weight } in
      let back = reads_back_prefix w b width is in
      record {
        met = met_of (Some (prefix_text w b)) None family None (given 0 iface) (given 0 mtu) (given 1 weight);
        walked = prefix_goes (setting_words p) ∙ settings_go v takes family (Some (prefix_text w b)) None p path.settings;
        same = refl;
        destination = rw back refl;
        path = rw (given_some iface path.hop.3.1, unwrap_or-given 0 mtu, unwrap_or-given 1 weight, path.hop.3.0) refl;
      }
  route_goes kind.Blackhole gateway iface mtu weight path =
      dropped_goes flag.Blackhole (codes "-blackhole") (record { nexthop = record { kind = kind.Blackhole; gateway = gateway; iface = iface; mtu = mtu }; weight = weight }) takes.blackhole refl
      (rw (path.hop.3.0, path.hop.3.1, path.hop.3.2, path.weight.2 tt) refl)
  route_goes kind.Reject gateway iface mtu weight path =
      dropped_goes flag.Reject (codes "-reject") (record { nexthop = record { kind = kind.Reject; gateway = gateway; iface = iface; mtu = mtu }; weight = weight }) takes.reject refl
      (rw (path.hop.3.0, path.hop.3.1, path.hop.3.2, path.weight.2 tt) refl)

-- ---- the words of a route are words

pub option_is_words : (option : List ℕ) (absent n : ℕ) → is_word option ≡ true → n < 2 ^ 32 → list_all is_word (option_words option absent n) ≡ true
option_is_words option absent n is small = cases (n == absent)
  where
    cases : (t : Bool) → list_all is_word (cond t [] (option ∷ decimal n ∷ [])) ≡ true
    cases true = refl
    cases false = let digits = decimal_is_word n small in rw (is, digits) refl

settings_are_words : (p : WeightedHop) → AreSettings p → list_all is_word (setting_words p) ≡ true
settings_are_words p are =
    let wide : p.nexthop.iface < 2 ^ 32 = omega (arith, are.iface) in
    let wide_weight : p.weight < 2 ^ 32 = omega (arith, are.weight) in
    let one = option_is_words (codes "-if") 0 p.nexthop.iface refl wide in
    let two = option_is_words (codes "-mtu") 0 p.nexthop.mtu refl are.mtu in
    let three = option_is_words (codes "-weight") 1 p.weight refl wide_weight in
    list_all-append is_word (option_words (codes "-if") 0 p.nexthop.iface) (option_words (codes "-mtu") 0 p.nexthop.mtu ++ option_words (codes "-weight") 1 p.weight)
    ∙ rw one (list_all-append is_word (option_words (codes "-mtu") 0 p.nexthop.mtu) (option_words (codes "-weight") 1 p.weight) ∙ rw (two, three) refl)

pub target_is_words : (w : ℕ) (k : NhKind) (p : WeightedHop) → IsFamilyWidth w → p.nexthop.gateway < 2 ^ w → AreSettings p → list_all is_word (target_words w k p) ≡ true
target_is_words w kind.Via p width fits are =
    let first = (address_is_bare w p.nexthop.gateway width fits).one in
    let later = settings_are_words p are in
    rw (first, later) refl
target_is_words w kind.Direct p width fits are = settings_are_words p are
target_is_words w kind.Blackhole p width fits are = refl
target_is_words w kind.Reject p width fits are = refl
