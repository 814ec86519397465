-- What the reader makes of the words of a line is what the grammar says.
use Rattle.std.proofs.Common.{◌≡◌, ◌≤◌, ◌∙◌, ◌||◌, ◌&&◌, ℕ, Bool, true, false, cond, nat_lt, nat_le, eqb-true, List, [], ◌∷◌, ◌++◌, Option, Some, None, option_and_then, Result, Ok, Err, length, codes, bytes_eq, refl, sym, ap, subst, append_assoc, append-nil, arith}
use Rattle.std.specs.Prelude.{is_some}
use Rattle.std.specs.List.{cons_option, filter_map, slice_get}
use Rattle.std.specs.Option.{option_or}
use Rattle.std.proofs.lemmas.Bool.Decides.{nat_tests}
use Rattle.std.proofs.lemmas.List.Elements.{filter_map-append}
use Rattle.addr_text.specs.Number.{number_of}
use Rattle.rib_store.specs.declared.command.Command.TheVariants as command
use Rattle.route_lang.specs.Grammar.{◌>>=◌, OptionRow, plain, valued, Numbers, Part, Bare, Given, Unknown, begins_with_dash, option_named, last_part, word_parts, given_parts, parts_of, bare_in, bare_words, telling, told, is_in, value_fault, part_fault, faults_behind, of_family, CommandRow, row, family_options, extent_options, path_options, routed, deleted, looked_up, flushed, ticked, profiled, module_set}
use Rattle.route_lang.specs.Request.{OfBoth, Sync}
use Rattle.route_lang.specs.Reader.Verb.{flag_of, own_flag, token_of, takes_value, least_value, greatest_value, within_range, value_of}
use Rattle.route_lang.specs.Reader.Walk.{Met, nothing_met, is_given, set_flag, set_value, with_flag, with_parsed, with_value, without_value, put_bare, with_bare, at_end, along, walk_from}
use Rattle.route_lang.specs.declared.fault.Reason.{Reason}
use Rattle.route_lang.specs.declared.fault.Reason.TheVariants.{UnknownOption, Repeated, MissingWord, BadNumber, ExtraWord}
use Rattle.route_lang.specs.declared.verb.Verb.{Verb}
use Rattle.route_lang.specs.declared.verb.Verb.TheVariants as verb
use Rattle.route_lang.specs.declared.verb.Flag.{Flag}
use Rattle.route_lang.specs.declared.verb.Flag.TheVariants as flag
use Rattle.route_lang.specs.declared.verb.Token.{Token}
use Rattle.route_lang.specs.declared.verb.Token.TheVariants as token

-- ---- the rows of the reader's options and commands

abbrev pub option_row : Flag → OptionRow
option_row flag.Inet = plain (codes "-inet") (codes "family")
option_row flag.Inet6 = plain (codes "-inet6") (codes "family")
option_row flag.Net = plain (codes "-net") (codes "extent")
option_row flag.Host = plain (codes "-host") (codes "extent")
option_row flag.Iface = valued (codes "-if") 1 65535
option_row flag.Mtu = valued (codes "-mtu") 1 4294967295
option_row flag.Weight = valued (codes "-weight") 1 16777215
option_row flag.Blackhole = plain (codes "-blackhole") (codes "discard")
option_row flag.Reject = plain (codes "-reject") (codes "discard")
option_row flag.Flow = valued (codes "flow") 0 4294967295

abbrev pub command_row : Verb → CommandRow
command_row verb.Add = row (codes "add") 2 (family_options ++ (extent_options ++ path_options)) (λ parts. of_family parts (routed 32 command.Add parts) (routed 128 command.Add parts))
command_row verb.Change = row (codes "change") 2 (family_options ++ (extent_options ++ path_options)) (λ parts. of_family parts (routed 32 command.Change parts) (routed 128 command.Change parts))
command_row verb.Delete = row (codes "delete") 2 (family_options ++ extent_options) (λ parts. of_family parts (deleted 32 parts) (deleted 128 parts))
command_row verb.Get = row (codes "get") 1 (family_options ++ valued (codes "flow") 0 4294967295 ∷ []) looked_up
command_row verb.Flush = row (codes "flush") 0 family_options flushed
command_row verb.Tick = row (codes "tick") 1 [] ticked
command_row verb.Sync = row (codes "sync") 0 [] (λ parts. Ok (OfBoth Sync))
command_row verb.Algo = row (codes "algo") 1 family_options (λ parts. of_family parts (module_set 32 parts) (module_set 128 parts))
command_row verb.Profile = row (codes "profile") 1 [] profiled

-- ---- words

-- a word is of this kind for the reader, and names this option of the command
abbrev TokenIs : List ℕ → Option Token → Option OptionRow → Type 0
TokenIs word None option = (option ≡ None) × (begins_with_dash word ≡ true)
TokenIs word (Some token.Bare) option = (option ≡ None) × (begins_with_dash word ≡ false)
TokenIs word (Some (token.Plain f)) option = (option ≡ Some (option_row f)) × (takes_value f ≡ false)
TokenIs word (Some (token.Valued f)) option = (option ≡ Some (option_row f)) × (takes_value f ≡ true)

-- a word that begins with no dash is none that does
no_dash : (word rest : List ℕ) → begins_with_dash word ≡ false → bytes_eq word (45 ∷ rest) ≡ false
no_dash [] rest e = refl
no_dash (b ∷ word) rest e = ap (λ t. t && bytes_eq word rest) e

-- one that does is not `flow`
no_flow : (word : List ℕ) → begins_with_dash word ≡ true → bytes_eq word (codes "flow") ≡ false
no_flow [] e = refl
no_flow (b ∷ word) e = let same : b ≡ 45 = eqb-true b 45 e in rw same refl

-- the option that a word names, by which of the words it is
abbrev flag_by : (a b c d e f g h i j : Bool) → Option Flag
flag_by a b c d e f g h i j =
    cond a (Some flag.Inet) (cond b (Some flag.Inet6) (cond c (Some flag.Net) (cond d (Some flag.Host) (cond e (Some flag.Iface)
    (cond f (Some flag.Mtu) (cond g (Some flag.Weight) (cond h (Some flag.Blackhole) (cond i (Some flag.Reject) (cond j (Some flag.Flow) None)))))))))

abbrev row_if : Bool → Flag → Option OptionRow → Option OptionRow
row_if t f rest = cond t (Some (option_row f)) rest

abbrev route_named : (a b c d e f g h i : Bool) → Option OptionRow
route_named a b c d e f g h i =
    row_if a flag.Inet (row_if b flag.Inet6 (row_if c flag.Net (row_if d flag.Host (row_if e flag.Iface (row_if f flag.Mtu (row_if g flag.Weight (row_if h flag.Blackhole (row_if i flag.Reject None))))))))

module _ (word : List ℕ) (dash : begins_with_dash word ≡ true) where
  add_named : (a b c d e f g h i j : Bool) → TokenIs word (own_flag verb.Add (flag_by a b c d e f g h i j)) (route_named a b c d e f g h i)
  add_named true b c d e f g h i j = (refl, refl)
  add_named false true c d e f g h i j = (refl, refl)
  add_named false false true d e f g h i j = (refl, refl)
  add_named false false false true e f g h i j = (refl, refl)
  add_named false false false false true f g h i j = (refl, refl)
  add_named false false false false false true g h i j = (refl, refl)
  add_named false false false false false false true h i j = (refl, refl)
  add_named false false false false false false false true i j = (refl, refl)
  add_named false false false false false false false false true j = (refl, refl)
  add_named false false false false false false false false false true = (refl, dash)
  add_named false false false false false false false false false false = (refl, dash)

  change_named : (a b c d e f g h i j : Bool) → TokenIs word (own_flag verb.Change (flag_by a b c d e f g h i j)) (route_named a b c d e f g h i)
  change_named true b c d e f g h i j = (refl, refl)
  change_named false true c d e f g h i j = (refl, refl)
  change_named false false true d e f g h i j = (refl, refl)
  change_named false false false true e f g h i j = (refl, refl)
  change_named false false false false true f g h i j = (refl, refl)
  change_named false false false false false true g h i j = (refl, refl)
  change_named false false false false false false true h i j = (refl, refl)
  change_named false false false false false false false true i j = (refl, refl)
  change_named false false false false false false false false true j = (refl, refl)
  change_named false false false false false false false false false true = (refl, dash)
  change_named false false false false false false false false false false = (refl, dash)

  delete_named : (a b c d e f g h i j : Bool) → TokenIs word (own_flag verb.Delete (flag_by a b c d e f g h i j)) (row_if a flag.Inet (row_if b flag.Inet6 (row_if c flag.Net (row_if d flag.Host None))))
  delete_named true b c d e f g h i j = (refl, refl)
  delete_named false true c d e f g h i j = (refl, refl)
  delete_named false false true d e f g h i j = (refl, refl)
  delete_named false false false true e f g h i j = (refl, refl)
  delete_named false false false false true f g h i j = (refl, dash)
  delete_named false false false false false true g h i j = (refl, dash)
  delete_named false false false false false false true h i j = (refl, dash)
  delete_named false false false false false false false true i j = (refl, dash)
  delete_named false false false false false false false false true j = (refl, dash)
  delete_named false false false false false false false false false true = (refl, dash)
  delete_named false false false false false false false false false false = (refl, dash)

  get_named : (a b c d e f g h i : Bool) → TokenIs word (own_flag verb.Get (flag_by a b c d e f g h i false)) (row_if a flag.Inet (row_if b flag.Inet6 None))
  get_named true b c d e f g h i = (refl, refl)
  get_named false true c d e f g h i = (refl, refl)
  get_named false false true d e f g h i = (refl, dash)
  get_named false false false true e f g h i = (refl, dash)
  get_named false false false false true f g h i = (refl, dash)
  get_named false false false false false true g h i = (refl, dash)
  get_named false false false false false false true h i = (refl, dash)
  get_named false false false false false false false true i = (refl, dash)
  get_named false false false false false false false false true = (refl, dash)
  get_named false false false false false false false false false = (refl, dash)

  flush_named : (a b c d e f g h i j : Bool) → TokenIs word (own_flag verb.Flush (flag_by a b c d e f g h i j)) (row_if a flag.Inet (row_if b flag.Inet6 None))
  flush_named true b c d e f g h i j = (refl, refl)
  flush_named false true c d e f g h i j = (refl, refl)
  flush_named false false true d e f g h i j = (refl, dash)
  flush_named false false false true e f g h i j = (refl, dash)
  flush_named false false false false true f g h i j = (refl, dash)
  flush_named false false false false false true g h i j = (refl, dash)
  flush_named false false false false false false true h i j = (refl, dash)
  flush_named false false false false false false false true i j = (refl, dash)
  flush_named false false false false false false false false true j = (refl, dash)
  flush_named false false false false false false false false false true = (refl, dash)
  flush_named false false false false false false false false false false = (refl, dash)

  algo_named : (a b c d e f g h i j : Bool) → TokenIs word (own_flag verb.Algo (flag_by a b c d e f g h i j)) (row_if a flag.Inet (row_if b flag.Inet6 None))
  algo_named true b c d e f g h i j = (refl, refl)
  algo_named false true c d e f g h i j = (refl, refl)
  algo_named false false true d e f g h i j = (refl, dash)
  algo_named false false false true e f g h i j = (refl, dash)
  algo_named false false false false true f g h i j = (refl, dash)
  algo_named false false false false false true g h i j = (refl, dash)
  algo_named false false false false false false true h i j = (refl, dash)
  algo_named false false false false false false false true i j = (refl, dash)
  algo_named false false false false false false false false true j = (refl, dash)
  algo_named false false false false false false false false false true = (refl, dash)
  algo_named false false false false false false false false false false = (refl, dash)

  none_named : (v : Verb) (o : Option Flag) → ((f : Flag) → own_flag v (Some f) ≡ None) → TokenIs word (own_flag v o) None
  none_named v None h = (refl, dash)
  none_named v (Some f) h = subst (λ t. TokenIs word t None) (sym (h f)) (refl, dash)

abbrev with_dash : Verb → List ℕ → Bool → Type 0
with_dash v word t = TokenIs word (cond t (own_flag v (flag_of word)) (Some token.Bare)) (option_named (command_row v).options word)

abbrev get_with : List ℕ → Bool → Type 0
get_with word t = TokenIs word (cond (t || bytes_eq word (codes "flow")) (own_flag verb.Get (flag_of word)) (Some token.Bare)) (option_named (command_row verb.Get).options word)

dash_token : (v : Verb) (word : List ℕ) → begins_with_dash word ≡ true → TokenIs word (token_of v word) (option_named (command_row v).options word)
dash_token verb.Add word e = subst (with_dash verb.Add word) (sym e) (add_named word e
    (bytes_eq word (codes "-inet")) (bytes_eq word (codes "-inet6")) (bytes_eq word (codes "-net")) (bytes_eq word (codes "-host")) (bytes_eq word (codes "-if")) (bytes_eq word (codes "-mtu")) (bytes_eq word (codes "-weight")) (bytes_eq word (codes "-blackhole")) (bytes_eq word (codes "-reject")) (bytes_eq word (codes "flow")))
dash_token verb.Change word e = subst (with_dash verb.Change word) (sym e) (change_named word e
    (bytes_eq word (codes "-inet")) (bytes_eq word (codes "-inet6")) (bytes_eq word (codes "-net")) (bytes_eq word (codes "-host")) (bytes_eq word (codes "-if")) (bytes_eq word (codes "-mtu")) (bytes_eq word (codes "-weight")) (bytes_eq word (codes "-blackhole")) (bytes_eq word (codes "-reject")) (bytes_eq word (codes "flow")))
dash_token verb.Delete word e = subst (with_dash verb.Delete word) (sym e) (delete_named word e
    (bytes_eq word (codes "-inet")) (bytes_eq word (codes "-inet6")) (bytes_eq word (codes "-net")) (bytes_eq word (codes "-host")) (bytes_eq word (codes "-if")) (bytes_eq word (codes "-mtu")) (bytes_eq word (codes "-weight")) (bytes_eq word (codes "-blackhole")) (bytes_eq word (codes "-reject")) (bytes_eq word (codes "flow")))
dash_token verb.Get word e =
    let plain_words = get_named word e (bytes_eq word (codes "-inet")) (bytes_eq word (codes "-inet6")) (bytes_eq word (codes "-net")) (bytes_eq word (codes "-host")) (bytes_eq word (codes "-if"))
    (bytes_eq word (codes "-mtu")) (bytes_eq word (codes "-weight")) (bytes_eq word (codes "-blackhole")) (bytes_eq word (codes "-reject")) in
    subst (get_with word) (sym e) (rw (no_flow word e) plain_words)
dash_token verb.Flush word e = subst (with_dash verb.Flush word) (sym e) (flush_named word e
    (bytes_eq word (codes "-inet")) (bytes_eq word (codes "-inet6")) (bytes_eq word (codes "-net")) (bytes_eq word (codes "-host")) (bytes_eq word (codes "-if")) (bytes_eq word (codes "-mtu")) (bytes_eq word (codes "-weight")) (bytes_eq word (codes "-blackhole")) (bytes_eq word (codes "-reject")) (bytes_eq word (codes "flow")))
dash_token verb.Tick word e = subst (with_dash verb.Tick word) (sym e) (none_named word e verb.Tick (flag_of word) (λ f. refl))
dash_token verb.Sync word e = subst (with_dash verb.Sync word) (sym e) (none_named word e verb.Sync (flag_of word) (λ f. refl))
dash_token verb.Algo word e = subst (with_dash verb.Algo word) (sym e) (algo_named word e
    (bytes_eq word (codes "-inet")) (bytes_eq word (codes "-inet6")) (bytes_eq word (codes "-net")) (bytes_eq word (codes "-host")) (bytes_eq word (codes "-if")) (bytes_eq word (codes "-mtu")) (bytes_eq word (codes "-weight")) (bytes_eq word (codes "-blackhole")) (bytes_eq word (codes "-reject")) (bytes_eq word (codes "flow")))
dash_token verb.Profile word e = subst (with_dash verb.Profile word) (sym e) (none_named word e verb.Profile (flag_of word) (λ f. refl))

bare_token : (v : Verb) (word : List ℕ) → begins_with_dash word ≡ false → TokenIs word (token_of v word) (option_named (command_row v).options word)
bare_token v word e = by_verb_of v
  where
    inet : bytes_eq word (codes "-inet") ≡ false
    inet = no_dash word (codes "inet") e

    inet6 : bytes_eq word (codes "-inet6") ≡ false
    inet6 = no_dash word (codes "inet6") e

    net : bytes_eq word (codes "-net") ≡ false
    net = no_dash word (codes "net") e

    host : bytes_eq word (codes "-host") ≡ false
    host = no_dash word (codes "host") e

    iface : bytes_eq word (codes "-if") ≡ false
    iface = no_dash word (codes "if") e

    mtu : bytes_eq word (codes "-mtu") ≡ false
    mtu = no_dash word (codes "mtu") e

    weight : bytes_eq word (codes "-weight") ≡ false
    weight = no_dash word (codes "weight") e

    blackhole : bytes_eq word (codes "-blackhole") ≡ false
    blackhole = no_dash word (codes "blackhole") e

    reject : bytes_eq word (codes "-reject") ≡ false
    reject = no_dash word (codes "reject") e

    by_flow : (t : Bool) → TokenIs word (cond t (own_flag verb.Get (cond t (Some flag.Flow) None)) (Some token.Bare)) (cond t (Some (option_row flag.Flow)) None)
    by_flow true = (refl, refl)
    by_flow false = (refl, e)

    by_verb_of : (v : Verb) → TokenIs word (token_of v word) (option_named (command_row v).options word)
    by_verb_of verb.Add = subst (with_dash verb.Add word) (sym e) (rw (inet, inet6, net, host, iface, mtu, weight, blackhole, reject) refl, e)
    by_verb_of verb.Change = subst (with_dash verb.Change word) (sym e) (rw (inet, inet6, net, host, iface, mtu, weight, blackhole, reject) refl, e)
    by_verb_of verb.Delete = subst (with_dash verb.Delete word) (sym e) (rw (inet, inet6, net, host) refl, e)
    by_verb_of verb.Get = subst (get_with word) (sym e) (rw (inet, inet6, net, host, iface, mtu, weight, blackhole, reject) (by_flow (bytes_eq word (codes "flow"))))
    by_verb_of verb.Flush = subst (with_dash verb.Flush word) (sym e) (rw (inet, inet6) refl, e)
    by_verb_of verb.Tick = subst (with_dash verb.Tick word) (sym e) (refl, e)
    by_verb_of verb.Sync = subst (with_dash verb.Sync word) (sym e) (refl, e)
    by_verb_of verb.Algo = subst (with_dash verb.Algo word) (sym e) (rw (inet, inet6) refl, e)
    by_verb_of verb.Profile = subst (with_dash verb.Profile word) (sym e) (refl, e)

token_is : (v : Verb) (word : List ℕ) → TokenIs word (token_of v word) (option_named (command_row v).options word)
token_is v word = by_dash (begins_with_dash word) refl
  where
    by_dash : (t : Bool) → begins_with_dash word ≡ t → TokenIs word (token_of v word) (option_named (command_row v).options word)
    by_dash true e = dash_token v word e
    by_dash false e = bare_token v word e

-- ---- what was met, as what parts tell

abbrev pub Told : Type 0
Told = Option (OptionRow × Option (List ℕ))

abbrev pub Matches : Option Flag → Told → Type 0
Matches None None = Unit {0}
Matches (Some f) (Some t) = t.0 ≡ option_row f
Matches None (Some t) = ⊥
Matches (Some f) None = ⊥

abbrev pub NumberIs : Option ℕ → Told → Type 0
NumberIs None None = Unit {0}
NumberIs (Some n) (Some t) = option_and_then number_of t.1 ≡ Some n
NumberIs None (Some t) = ⊥
NumberIs (Some n) None = ⊥

-- what was met agrees with these bare words and with what is told
pub record Tells (met : Met) (bare : List (List ℕ)) (of_family of_extent of_discard of_iface of_mtu of_weight of_flow : Told) : Type 0 where
  pub first : met.first ≡ slice_get bare 0
  pub second : met.second ≡ slice_get bare 1
  pub family : Matches met.family of_family
  pub extent : Matches met.extent of_extent
  pub discard : Matches met.discard of_discard
  pub iface : NumberIs met.iface of_iface
  pub mtu : NumberIs met.mtu of_mtu
  pub weight : NumberIs met.weight of_weight
  pub flow : NumberIs met.flow of_flow

abbrev pub Stands : Met → List Part → Type 0
Stands met parts =
    Tells met (bare_words parts) (told (codes "family") parts) (told (codes "extent") parts) (told (codes "discard") parts) (told (codes "-if") parts) (told (codes "-mtu") parts) (told (codes "-weight") parts) (told (codes "flow") parts)

first_joined : (xs : List (OptionRow × Option (List ℕ))) (o : Told) → slice_get (xs ++ cons_option o []) 0 ≡ option_or (slice_get xs 0) o
first_joined [] None = refl
first_joined [] (Some t) = refl
first_joined (x ∷ xs) o = refl

told_more : (about : List ℕ) (earlier : List Part) (part : Part) → told about (earlier ++ part ∷ []) ≡ option_or (told about earlier) (telling about part)
told_more about earlier part = ap (λ ts. slice_get ts 0) (filter_map-append (telling about) earlier (part ∷ [])) ∙ first_joined (filter_map (telling about) earlier) (telling about part)

bare_more : (earlier : List Part) (part : Part) → bare_words (earlier ++ part ∷ []) ≡ bare_words earlier ++ cons_option (bare_in part) []
bare_more earlier part = filter_map-append bare_in earlier (part ∷ [])

or_none : (o : Told) → option_or o None ≡ o
or_none None = refl
or_none (Some t) = refl

-- what is told behind these with one part more
module _ (earlier : List Part) (part : Part) where
  abbrev then_told : List ℕ → Told
  then_told about = option_or (told about earlier) (telling about part)

  stands_more : (met : Met) → Tells met (bare_words earlier ++ cons_option (bare_in part) []) (then_told (codes "family")) (then_told (codes "extent")) (then_told (codes "discard")) (then_told (codes "-if")) (then_told (codes "-mtu")) (then_told (codes "-weight")) (then_told (codes "flow"))
      → Stands met (earlier ++ part ∷ [])
  stands_more met h = record {
    first = h.first ∙ ap (λ bare. slice_get bare 0) (sym (bare_more earlier part));
    second = h.second ∙ ap (λ bare. slice_get bare 1) (sym (bare_more earlier part));
    family = subst (Matches met.family) (sym (told_more (codes "family") earlier part)) h.family;
    extent = subst (Matches met.extent) (sym (told_more (codes "extent") earlier part)) h.extent;
    discard = subst (Matches met.discard) (sym (told_more (codes "discard") earlier part)) h.discard;
    iface = subst (NumberIs met.iface) (sym (told_more (codes "-if") earlier part)) h.iface;
    mtu = subst (NumberIs met.mtu) (sym (told_more (codes "-mtu") earlier part)) h.mtu;
    weight = subst (NumberIs met.weight) (sym (told_more (codes "-weight") earlier part)) h.weight;
    flow = subst (NumberIs met.flow) (sym (told_more (codes "flow") earlier part)) h.flow;
  }

kept : (f : Option Flag) (o : Told) → Matches f o → Matches f (option_or o None)
kept f o h = subst (Matches f) (sym (or_none o)) h

kept_number : (n : Option ℕ) (o : Told) → NumberIs n o → NumberIs n (option_or o None)
kept_number n o h = subst (NumberIs n) (sym (or_none o)) h

fresh : (f : Flag) (o : Told) (value : Option (List ℕ)) → o ≡ None → Matches (Some f) (option_or o (Some (option_row f, value)))
fresh f o value e = subst (λ p. Matches (Some f) (option_or p (Some (option_row f, value)))) (sym e) refl

fresh_number : (n : ℕ) (o : Told) (option : OptionRow) (word : List ℕ) → o ≡ None → number_of word ≡ Some n → NumberIs (Some n) (option_or o (Some (option, Some word)))
fresh_number n o option word e h = subst (λ p. NumberIs (Some n) (option_or p (Some (option, Some word)))) (sym e) h

-- all that is told besides what one part tells
module _ (met : Met) (earlier : List Part) (h : Stands met earlier) where
  bare_0 : met.first ≡ slice_get (bare_words earlier ++ []) 0
  bare_0 = h.first ∙ ap (λ bare. slice_get bare 0) (sym (append-nil (bare_words earlier)))

  bare_1 : met.second ≡ slice_get (bare_words earlier ++ []) 1
  bare_1 = h.second ∙ ap (λ bare. slice_get bare 1) (sym (append-nil (bare_words earlier)))

  family_kept : Matches met.family (option_or (told (codes "family") earlier) None)
  family_kept = kept met.family (told (codes "family") earlier) h.family

  extent_kept : Matches met.extent (option_or (told (codes "extent") earlier) None)
  extent_kept = kept met.extent (told (codes "extent") earlier) h.extent

  discard_kept : Matches met.discard (option_or (told (codes "discard") earlier) None)
  discard_kept = kept met.discard (told (codes "discard") earlier) h.discard

  iface_kept : NumberIs met.iface (option_or (told (codes "-if") earlier) None)
  iface_kept = kept_number met.iface (told (codes "-if") earlier) h.iface

  mtu_kept : NumberIs met.mtu (option_or (told (codes "-mtu") earlier) None)
  mtu_kept = kept_number met.mtu (told (codes "-mtu") earlier) h.mtu

  weight_kept : NumberIs met.weight (option_or (told (codes "-weight") earlier) None)
  weight_kept = kept_number met.weight (told (codes "-weight") earlier) h.weight

  flow_kept : NumberIs met.flow (option_or (told (codes "flow") earlier) None)
  flow_kept = kept_number met.flow (told (codes "flow") earlier) h.flow

  -- with one option more that takes no value
  plain_more : (f : Flag) → told (option_row f).about earlier ≡ None → takes_value f ≡ false → Stands (set_flag met f) (earlier ++ Given (option_row f) None ∷ [])
  plain_more flag.Inet none e =
      stands_more earlier (Given (option_row flag.Inet) None) (set_flag met flag.Inet) (record {
        first = bare_0;
        second = bare_1;
        family = fresh flag.Inet (told (codes "family") earlier) None none;
        extent = extent_kept;
        discard = discard_kept;
        iface = iface_kept;
        mtu = mtu_kept;
        weight = weight_kept;
        flow = flow_kept;
      })
  plain_more flag.Inet6 none e =
      stands_more earlier (Given (option_row flag.Inet6) None) (set_flag met flag.Inet6) (record {
        first = bare_0;
        second = bare_1;
        family = fresh flag.Inet6 (told (codes "family") earlier) None none;
        extent = extent_kept;
        discard = discard_kept;
        iface = iface_kept;
        mtu = mtu_kept;
        weight = weight_kept;
        flow = flow_kept;
      })
  plain_more flag.Net none e =
      stands_more earlier (Given (option_row flag.Net) None) (set_flag met flag.Net) (record {
        first = bare_0;
        second = bare_1;
        family = family_kept;
        extent = fresh flag.Net (told (codes "extent") earlier) None none;
        discard = discard_kept;
        iface = iface_kept;
        mtu = mtu_kept;
        weight = weight_kept;
        flow = flow_kept;
      })
  plain_more flag.Host none e =
      stands_more earlier (Given (option_row flag.Host) None) (set_flag met flag.Host) (record {
        first = bare_0;
        second = bare_1;
        family = family_kept;
        extent = fresh flag.Host (told (codes "extent") earlier) None none;
        discard = discard_kept;
        iface = iface_kept;
        mtu = mtu_kept;
        weight = weight_kept;
        flow = flow_kept;
      })
  plain_more flag.Blackhole none e =
      stands_more earlier (Given (option_row flag.Blackhole) None) (set_flag met flag.Blackhole) (record {
        first = bare_0;
        second = bare_1;
        family = family_kept;
        extent = extent_kept;
        discard = fresh flag.Blackhole (told (codes "discard") earlier) None none;
        iface = iface_kept;
        mtu = mtu_kept;
        weight = weight_kept;
        flow = flow_kept;
      })
  plain_more flag.Reject none e =
      stands_more earlier (Given (option_row flag.Reject) None) (set_flag met flag.Reject) (record {
        first = bare_0;
        second = bare_1;
        family = family_kept;
        extent = extent_kept;
        discard = fresh flag.Reject (told (codes "discard") earlier) None none;
        iface = iface_kept;
        mtu = mtu_kept;
        weight = weight_kept;
        flow = flow_kept;
      })
  plain_more flag.Iface none e = cc
  plain_more flag.Mtu none e = cc
  plain_more flag.Weight none e = cc
  plain_more flag.Flow none e = cc

  -- with one that has this number
  value_more : (f : Flag) (word : List ℕ) (n : ℕ) → told (option_row f).about earlier ≡ None → takes_value f ≡ true → number_of word ≡ Some n → Stands (set_value met f n) (earlier ++ Given (option_row f) (Some word) ∷ [])
  value_more flag.Iface word n none e is =
      stands_more earlier (Given (option_row flag.Iface) (Some word)) (set_value met flag.Iface n) (record {
        first = bare_0;
        second = bare_1;
        family = family_kept;
        extent = extent_kept;
        discard = discard_kept;
        iface = fresh_number n (told (codes "-if") earlier) (option_row flag.Iface) word none is;
        mtu = mtu_kept;
        weight = weight_kept;
        flow = flow_kept;
      })
  value_more flag.Mtu word n none e is =
      stands_more earlier (Given (option_row flag.Mtu) (Some word)) (set_value met flag.Mtu n) (record {
        first = bare_0;
        second = bare_1;
        family = family_kept;
        extent = extent_kept;
        discard = discard_kept;
        iface = iface_kept;
        mtu = fresh_number n (told (codes "-mtu") earlier) (option_row flag.Mtu) word none is;
        weight = weight_kept;
        flow = flow_kept;
      })
  value_more flag.Weight word n none e is =
      stands_more earlier (Given (option_row flag.Weight) (Some word)) (set_value met flag.Weight n) (record {
        first = bare_0;
        second = bare_1;
        family = family_kept;
        extent = extent_kept;
        discard = discard_kept;
        iface = iface_kept;
        mtu = mtu_kept;
        weight = fresh_number n (told (codes "-weight") earlier) (option_row flag.Weight) word none is;
        flow = flow_kept;
      })
  value_more flag.Flow word n none e is =
      stands_more earlier (Given (option_row flag.Flow) (Some word)) (set_value met flag.Flow n) (record {
        first = bare_0;
        second = bare_1;
        family = family_kept;
        extent = extent_kept;
        discard = discard_kept;
        iface = iface_kept;
        mtu = mtu_kept;
        weight = weight_kept;
        flow = fresh_number n (told (codes "flow") earlier) (option_row flag.Flow) word none is;
      })
  value_more flag.Inet word n none e is = cc
  value_more flag.Inet6 word n none e is = cc
  value_more flag.Net word n none e is = cc
  value_more flag.Host word n none e is = cc
  value_more flag.Blackhole word n none e is = cc
  value_more flag.Reject word n none e is = cc

  -- with one bare word more
  bare_stands : (more : Met) (word : List ℕ) → more.first ≡ slice_get (bare_words earlier ++ word ∷ []) 0 → more.second ≡ slice_get (bare_words earlier ++ word ∷ []) 1
      → more.family ≡ met.family → more.extent ≡ met.extent → more.discard ≡ met.discard → more.iface ≡ met.iface → more.mtu ≡ met.mtu → more.weight ≡ met.weight → more.flow ≡ met.flow
      → Stands more (earlier ++ Bare word ∷ [])
  bare_stands more word first second family extent discard iface mtu weight flow =
      stands_more earlier (Bare word) more (record {
        first = first;
        second = second;
        family = subst (λ f. Matches f (option_or (told (codes "family") earlier) None)) (sym family) family_kept;
        extent = subst (λ f. Matches f (option_or (told (codes "extent") earlier) None)) (sym extent) extent_kept;
        discard = subst (λ f. Matches f (option_or (told (codes "discard") earlier) None)) (sym discard) discard_kept;
        iface = subst (λ n. NumberIs n (option_or (told (codes "-if") earlier) None)) (sym iface) iface_kept;
        mtu = subst (λ n. NumberIs n (option_or (told (codes "-mtu") earlier) None)) (sym mtu) mtu_kept;
        weight = subst (λ n. NumberIs n (option_or (told (codes "-weight") earlier) None)) (sym weight) weight_kept;
        flow = subst (λ n. NumberIs n (option_or (told (codes "flow") earlier) None)) (sym flow) flow_kept;
      })

-- nothing was met where there are no parts
pub stands_first : Stands nothing_met []
stands_first = record { first = refl; second = refl; family = tt; extent = tt; discard = tt; iface = tt; mtu = tt; weight = tt; flow = tt }

-- ---- one word

-- an answer of the walk, where there is this reason or none, and these parts
abbrev pub Steps : Result Met Reason → Option Reason → List Part → Type 0
Steps (Ok met) None parts = Stands met parts
Steps (Err why) (Some reason) parts = why ≡ reason
Steps (Ok met) (Some reason) parts = ⊥
Steps (Err why) None parts = ⊥

pub given_matches : (f : Option Flag) (o : Told) → Matches f o → is_some f ≡ is_some o
given_matches None None h = refl
given_matches (Some f) (Some t) h = refl
given_matches None (Some t) h = absurd h
given_matches (Some f) None h = absurd h

given_number : (n : Option ℕ) (o : Told) → NumberIs n o → is_some n ≡ is_some o
given_number None None h = refl
given_number (Some n) (Some t) h = refl
given_number None (Some t) h = absurd h
given_number (Some n) None h = absurd h

-- an option was given where something tells of the same
given_same : (met : Met) (earlier : List Part) (f : Flag) → Stands met earlier → is_given met f ≡ is_some (told (option_row f).about earlier)
given_same met earlier flag.Inet h = given_matches met.family (told (codes "family") earlier) h.family
given_same met earlier flag.Inet6 h = given_matches met.family (told (codes "family") earlier) h.family
given_same met earlier flag.Net h = given_matches met.extent (told (codes "extent") earlier) h.extent
given_same met earlier flag.Host h = given_matches met.extent (told (codes "extent") earlier) h.extent
given_same met earlier flag.Blackhole h = given_matches met.discard (told (codes "discard") earlier) h.discard
given_same met earlier flag.Reject h = given_matches met.discard (told (codes "discard") earlier) h.discard
given_same met earlier flag.Iface h = given_number met.iface (told (codes "-if") earlier) h.iface
given_same met earlier flag.Mtu h = given_number met.mtu (told (codes "-mtu") earlier) h.mtu
given_same met earlier flag.Weight h = given_number met.weight (told (codes "-weight") earlier) h.weight
given_same met earlier flag.Flow h = given_number met.flow (told (codes "flow") earlier) h.flow

none_told : (o : Told) → is_some o ≡ false → o ≡ None
none_told None e = refl
none_told (Some t) e = cc

abbrev range_of : Flag → Numbers
range_of f = record { least = least_value f; most = greatest_value f }

no_range : (f : Flag) → takes_value f ≡ false → (option_row f).value ≡ None
no_range flag.Inet e = refl
no_range flag.Inet6 e = refl
no_range flag.Net e = refl
no_range flag.Host e = refl
no_range flag.Blackhole e = refl
no_range flag.Reject e = refl
no_range flag.Iface e = cc
no_range flag.Mtu e = cc
no_range flag.Weight e = cc
no_range flag.Flow e = cc

has_range : (f : Flag) → takes_value f ≡ true → (option_row f).value ≡ Some (range_of f)
has_range flag.Inet e = cc
has_range flag.Inet6 e = cc
has_range flag.Net e = cc
has_range flag.Host e = cc
has_range flag.Blackhole e = cc
has_range flag.Reject e = cc
has_range flag.Iface e = refl
has_range flag.Mtu e = refl
has_range flag.Weight e = refl
has_range flag.Flow e = refl

module _ (met : Met) (earlier : List Part) (f : Flag) (h : Stands met earlier) (most : ℕ) where
  abbrev is_told : Bool
  is_told = is_some (told (option_row f).about earlier)

  flag_steps : takes_value f ≡ false → Steps (with_flag met f) (part_fault most earlier (Given (option_row f) None)) (earlier ++ Given (option_row f) None ∷ [])
  flag_steps e =
      subst (λ t. Steps (cond t (Err Repeated) (Ok (set_flag met f))) (cond is_told (Some Repeated) (value_fault (option_row f).value None)) (earlier ++ Given (option_row f) None ∷ [])) (sym (given_same met earlier f h))
      (subst (λ v. Steps (cond is_told (Err Repeated) (Ok (set_flag met f))) (cond is_told (Some Repeated) (value_fault v None)) (earlier ++ Given (option_row f) None ∷ [])) (sym (no_range f e)) (choice is_told refl))
    where
      choice : (t : Bool) → is_told ≡ t → Steps (cond t (Err Repeated) (Ok (set_flag met f))) (cond t (Some Repeated) None) (earlier ++ Given (option_row f) None ∷ [])
      choice true same = refl
      choice false same = plain_more met earlier h f (none_told (told (option_row f).about earlier) same) e

  missing_steps : takes_value f ≡ true → (parts : List Part) → Steps (without_value met f) (part_fault most earlier (Given (option_row f) None)) parts
  missing_steps e parts =
      subst (λ t. Steps (cond t (Err Repeated) (Err MissingWord)) (cond is_told (Some Repeated) (value_fault (option_row f).value None)) parts) (sym (given_same met earlier f h))
      (subst (λ v. Steps (cond is_told (Err Repeated) (Err MissingWord)) (cond is_told (Some Repeated) (value_fault v None)) parts) (sym (has_range f e)) (choice is_told))
    where
      choice : (t : Bool) → Steps (cond t (Err Repeated) (Err MissingWord)) (cond t (Some Repeated) (Some MissingWord)) parts
      choice true = refl
      choice false = refl

  value_steps : (word : List ℕ) → takes_value f ≡ true → Steps (with_value met f word) (part_fault most earlier (Given (option_row f) (Some word))) (earlier ++ Given (option_row f) (Some word) ∷ [])
  value_steps word e =
      subst (λ t. Steps (cond t (Err Repeated) (with_parsed met f (value_of f word))) (cond is_told (Some Repeated) (value_fault (option_row f).value (Some word))) (earlier ++ Given (option_row f) (Some word) ∷ [])) (sym (given_same met earlier f h))
      (subst (λ v. Steps (cond is_told (Err Repeated) (with_parsed met f (value_of f word))) (cond is_told (Some Repeated) (value_fault v (Some word))) (earlier ++ Given (option_row f) (Some word) ∷ [])) (sym (has_range f e)) (choice is_told refl))
    where
      within : (n : ℕ) (t : Bool) → told (option_row f).about earlier ≡ None → number_of word ≡ Some n → Steps (with_parsed met f (cond t (Some n) None)) (cond t None (Some BadNumber)) (earlier ++ Given (option_row f) (Some word) ∷ [])
      within n true none is = value_more met earlier h f word n none e is
      within n false none is = refl

      parsed : (o : Option ℕ) → told (option_row f).about earlier ≡ None → number_of word ≡ o → Steps (with_parsed met f (option_and_then (within_range f) o)) (cond (is_in (range_of f) o) None (Some BadNumber)) (earlier ++ Given (option_row f) (Some word) ∷ [])
      parsed None none is = refl
      parsed (Some n) none is = within n (nat_le (least_value f) n && nat_le n (greatest_value f)) none is

      choice : (t : Bool) → is_told ≡ t → Steps (cond t (Err Repeated) (with_parsed met f (value_of f word))) (cond t (Some Repeated) (value_fault (Some (range_of f)) (Some word))) (earlier ++ Given (option_row f) (Some word) ∷ [])
      choice true same = refl
      choice false same = parsed (number_of word) (none_told (told (option_row f).about earlier) same) refl

not_below : (n k : ℕ) → k ≤ n → nat_lt n k ≡ false
not_below n k few = grind (arith, nat_tests)

module _ (met : Met) (earlier : List Part) (word : List ℕ) (h : Stands met earlier) where
  abbrev more_bare : List Part
  more_bare = earlier ++ Bare word ∷ []

  -- a word for which there is room, behind none or behind one
  first_put : bare_words earlier ≡ [] → Stands (record met { first = Some word }) more_bare
  first_put none =
      bare_stands met earlier h (record met { first = Some word }) word (ap (λ bare. slice_get (bare ++ word ∷ []) 0) (sym none)) (h.second ∙ ap (λ bare. slice_get bare 1) none ∙ ap (λ bare. slice_get (bare ++ word ∷ []) 1) (sym none))
      refl refl refl refl refl refl refl

  second_put : (a : List ℕ) → bare_words earlier ≡ a ∷ [] → Stands (record met { second = Some word }) more_bare
  second_put a one =
      bare_stands met earlier h (record met { second = Some word }) word (h.first ∙ ap (λ bare. slice_get bare 0) one ∙ ap (λ bare. slice_get (bare ++ word ∷ []) 0) (sym one)) (ap (λ bare. slice_get (bare ++ word ∷ []) 1) (sym one))
      refl refl refl refl refl refl refl

  abbrev Puts : ℕ → List (List ℕ) → Type 0
  Puts most bare = Steps (put_bare most met word (slice_get bare 0) (slice_get bare 1)) (cond (nat_lt (length bare) most) None (Some ExtraWord)) more_bare

  -- there is no room behind two
  no_third : (most : ℕ) (a b : List ℕ) (bare : List (List ℕ)) → most ≤ 2 → Puts most (a ∷ b ∷ bare)
  no_third most a b bare few =
      let long : most ≤ length (a ∷ b ∷ bare) = omega (arith, few) in
      subst (λ t. Steps (Err ExtraWord) (cond t None (Some ExtraWord)) more_bare) (sym (not_below (length (a ∷ b ∷ bare)) most long)) refl

  no_room : (bare : List (List ℕ)) → Puts 0 bare
  no_room [] = refl
  no_room (a ∷ []) = refl
  no_room (a ∷ b ∷ bare) = no_third 0 a b bare (omega arith)

  room_for_1 : (bare : List (List ℕ)) → bare_words earlier ≡ bare → Puts 1 bare
  room_for_1 [] e = first_put e
  room_for_1 (a ∷ []) e = refl
  room_for_1 (a ∷ b ∷ bare) e = no_third 1 a b bare (omega arith)

  room_for_2 : (bare : List (List ℕ)) → bare_words earlier ≡ bare → Puts 2 bare
  room_for_2 [] e = first_put e
  room_for_2 (a ∷ []) e = second_put a e
  room_for_2 (a ∷ b ∷ bare) e = no_third 2 a b bare (omega arith)

  abbrev puts_word : ℕ → Option (List ℕ) → Option (List ℕ) → Type 0
  puts_word most first second = Steps (put_bare most met word first second) (cond (nat_lt (length (bare_words earlier)) most) None (Some ExtraWord)) more_bare

  by_met : (most : ℕ) → Puts most (bare_words earlier) → puts_word most met.first met.second
  by_met most puts = subst (λ first. puts_word most first met.second) (sym h.first) (subst (λ second. puts_word most (slice_get (bare_words earlier) 0) second) (sym h.second) puts)

  bare_steps : (v : Verb) → Steps (with_bare v met word) (part_fault (command_row v).most earlier (Bare word)) more_bare
  bare_steps verb.Add = by_met 2 (room_for_2 (bare_words earlier) refl)
  bare_steps verb.Change = by_met 2 (room_for_2 (bare_words earlier) refl)
  bare_steps verb.Delete = by_met 2 (room_for_2 (bare_words earlier) refl)
  bare_steps verb.Get = by_met 1 (room_for_1 (bare_words earlier) refl)
  bare_steps verb.Flush = by_met 0 (no_room (bare_words earlier))
  bare_steps verb.Tick = by_met 1 (room_for_1 (bare_words earlier) refl)
  bare_steps verb.Sync = by_met 0 (no_room (bare_words earlier))
  bare_steps verb.Algo = by_met 1 (room_for_1 (bare_words earlier) refl)
  bare_steps verb.Profile = by_met 1 (room_for_1 (bare_words earlier) refl)

-- ---- the walk

first_of : (o : Option Reason) → slice_get (cons_option o []) 0 ≡ o
first_of None = refl
first_of (Some reason) = refl

then_steps : (r : Result Met Reason) (o : Option Reason) (rest : List Reason) (parts whole : List Part) (below : Met → Result Met Reason) → Steps r o parts
    → ((met : Met) → Stands met parts → Steps (below met) (slice_get rest 0) whole) → Steps (r >>= below) (slice_get (cons_option o rest) 0) whole
then_steps (Ok met) None rest parts whole below h later = later met h
then_steps (Err why) (Some reason) rest parts whole below h later = h
then_steps (Ok met) (Some reason) rest parts whole below h later = absurd h
then_steps (Err why) None rest parts whole below h later = absurd h

module _ (v : Verb) where
  abbrev most : ℕ
  most = (command_row v).most

  -- what the walk over words that are these parts answers behind these
  abbrev Walks : Result Met Reason → List Part → List Part → Type 0
  Walks r earlier parts = Steps r (slice_get (faults_behind most earlier parts) 0) (earlier ++ parts)

  one_part : (r : Result Met Reason) (earlier : List Part) (part : Part) → Steps r (part_fault most earlier part) (earlier ++ part ∷ []) → Walks r earlier (part ∷ [])
  one_part r earlier part h = subst (λ o. Steps r o (earlier ++ part ∷ [])) (sym (first_of (part_fault most earlier part))) h

  more_parts : (r : Result Met Reason) (earlier : List Part) (part : Part) (later : List Part) (below : Met → Result Met Reason) → Steps r (part_fault most earlier part) (earlier ++ part ∷ [])
      → ((met : Met) → Stands met (earlier ++ part ∷ []) → Walks (below met) (earlier ++ part ∷ []) later) → Walks (r >>= below) earlier (part ∷ later)
  more_parts r earlier part later below h next =
      subst (Steps (r >>= below) (slice_get (faults_behind most earlier (part ∷ later)) 0)) (append_assoc earlier (part ∷ []) later)
      (then_steps r (part_fault most earlier part) (faults_behind most (earlier ++ part ∷ []) later) (earlier ++ part ∷ []) ((earlier ++ part ∷ []) ++ later) below h next)

  module _ (word : List ℕ) (option : Option OptionRow) where
    unknown_part : option ≡ None → begins_with_dash word ≡ true → last_part word option ≡ Unknown
    unknown_part none dash = ap (last_part word) none ∙ ap (λ t. cond t Unknown (Bare word)) dash

    bare_part : option ≡ None → begins_with_dash word ≡ false → last_part word option ≡ Bare word
    bare_part none dash = ap (last_part word) none ∙ ap (λ t. cond t Unknown (Bare word)) dash

    unknown_parts : (next : List ℕ) (from_next behind : List Part) → option ≡ None → begins_with_dash word ≡ true → word_parts word next option from_next behind ≡ Unknown ∷ from_next
    unknown_parts next from_next behind none dash = ap (λ o. word_parts word next o from_next behind) none ∙ ap (λ t. cond t Unknown (Bare word) ∷ from_next) dash

    bare_parts : (next : List ℕ) (from_next behind : List Part) → option ≡ None → begins_with_dash word ≡ false → word_parts word next option from_next behind ≡ Bare word ∷ from_next
    bare_parts next from_next behind none dash = ap (λ o. word_parts word next o from_next behind) none ∙ ap (λ t. cond t Unknown (Bare word) ∷ from_next) dash

    plain_parts : (f : Flag) (next : List ℕ) (from_next behind : List Part) → option ≡ Some (option_row f) → takes_value f ≡ false → word_parts word next option from_next behind ≡ Given (option_row f) None ∷ from_next
    plain_parts f next from_next behind is e = ap (λ o. word_parts word next o from_next behind) is ∙ ap (λ v. given_parts (option_row f) next v from_next behind) (no_range f e)

    valued_parts : (f : Flag) (next : List ℕ) (from_next behind : List Part) → option ≡ Some (option_row f) → takes_value f ≡ true → word_parts word next option from_next behind ≡ Given (option_row f) (Some next) ∷ behind
    valued_parts f next from_next behind is e = ap (λ o. word_parts word next o from_next behind) is ∙ ap (λ v. given_parts (option_row f) next v from_next behind) (has_range f e)

  last_walks : (met : Met) (earlier : List Part) (word : List ℕ) (kind : Option Token) (option : Option OptionRow) → Stands met earlier → TokenIs word kind option → Walks (at_end v met word kind) earlier (last_part word option ∷ [])
  last_walks met earlier word None option h is = subst (λ part. Walks (Err UnknownOption) earlier (part ∷ [])) (sym (unknown_part word option is.0 is.1)) refl
  last_walks met earlier word (Some token.Bare) option h is = subst (λ part. Walks (with_bare v met word) earlier (part ∷ [])) (sym (bare_part word option is.0 is.1)) (one_part (with_bare v met word) earlier (Bare word) (bare_steps met earlier word h v))
  last_walks met earlier word (Some (token.Plain f)) option h is =
      subst (λ part. Walks (with_flag met f) earlier (part ∷ [])) (sym (ap (last_part word) is.0)) (one_part (with_flag met f) earlier (Given (option_row f) None) (flag_steps met earlier f h most is.1))
  last_walks met earlier word (Some (token.Valued f)) option h is =
      subst (λ part. Walks (without_value met f) earlier (part ∷ [])) (sym (ap (last_part word) is.0)) (one_part (without_value met f) earlier (Given (option_row f) None) (missing_steps met earlier f h most is.1 (earlier ++ Given (option_row f) None ∷ [])))

  word_walks : (met : Met) (earlier : List Part) (word next : List ℕ) (kind : Option Token) (option : Option OptionRow) (here behind : Met → Result Met Reason) (from_next later : List Part) → Stands met earlier → TokenIs word kind option
      → ((more : Met) (before : List Part) → Stands more before → Walks (here more) before from_next) → ((more : Met) (before : List Part) → Stands more before → Walks (behind more) before later)
      → Walks (along v met word next kind here behind) earlier (word_parts word next option from_next later)
  word_walks met earlier word next None option here behind from_next later h is on over =
      subst (Walks (Err UnknownOption) earlier) (sym (unknown_parts word option next from_next later is.0 is.1)) refl
  word_walks met earlier word next (Some token.Bare) option here behind from_next later h is on over =
      subst (Walks (with_bare v met word >>= here) earlier) (sym (bare_parts word option next from_next later is.0 is.1))
      (more_parts (with_bare v met word) earlier (Bare word) from_next here (bare_steps met earlier word h v) (λ more. on more (earlier ++ Bare word ∷ [])))
  word_walks met earlier word next (Some (token.Plain f)) option here behind from_next later h is on over =
      subst (Walks (with_flag met f >>= here) earlier) (sym (plain_parts word option f next from_next later is.0 is.1))
      (more_parts (with_flag met f) earlier (Given (option_row f) None) from_next here (flag_steps met earlier f h most is.1) (λ more. on more (earlier ++ Given (option_row f) None ∷ [])))
  word_walks met earlier word next (Some (token.Valued f)) option here behind from_next later h is on over =
      subst (Walks (with_value met f next >>= behind) earlier) (sym (valued_parts word option f next from_next later is.0 is.1))
      (more_parts (with_value met f next) earlier (Given (option_row f) (Some next)) later behind (value_steps met earlier f h most next is.1) (λ more. over more (earlier ++ Given (option_row f) (Some next) ∷ [])))

  pub walks : (met : Met) (earlier : List Part) (words : List (List ℕ)) → Stands met earlier → Walks (walk_from v met words) earlier (parts_of (command_row v).options words)
  walks met earlier [] h = subst (Stands met) (sym (append-nil earlier)) h
  walks met earlier (word ∷ []) h = last_walks met earlier word (token_of v word) (option_named (command_row v).options word) h (token_is v word)
  walks met earlier (word ∷ next ∷ words) h =
      word_walks met earlier word next (token_of v word) (option_named (command_row v).options word) (λ more. walk_from v more (next ∷ words)) (λ more. walk_from v more words)
      (parts_of (command_row v).options (next ∷ words)) (parts_of (command_row v).options words) h (token_is v word)
      (λ more before s. walks more before (next ∷ words) s) (λ more before s. walks more before words s)
