-- What the reader makes of what was met is what the grammar says of the parts that tell it, and so of each line.
use Rattle.std.proofs.Common.{◌≡◌, ◌∙◌, ℕ, Bool, true, false, cond, nat_lt, List, [], ◌∷◌, Option, Some, None, Result, Ok, Err, length, codes, bytes_eq, refl, sym, ap}
use Rattle.std.specs.Prelude.{is_some, unwrap_or}
use Rattle.std.specs.List.{find, list_all, slice_get}
use Rattle.prefix_width.specs.Prefix.{Block}
use Rattle.prefix_width.specs.Path.{WeightedHop}
use Rattle.addr_text.specs.Address.{address_of}
use Rattle.addr_text.specs.Number.{number_of}
use Rattle.addr_text.specs.PrefixText.{block_of}
use Rattle.rib_store.specs.declared.command.Command.{Command}
use Rattle.rib_store.specs.declared.command.Command.TheVariants as command
use Rattle.route_lang.specs.Reader.Asked.{agrees, agreeing, destination_of, gateway_of, address_asked, path_by, path_of, path_asked, add_of, change_of, delete_of, algo_of, is_inet6, tick_of, get_of, profile_named, profile_asked, in_family, flush_of, asked_by, by_verb, by_command, by_words, asked_of, requested}
use Rattle.route_lang.specs.Grammar.{◌>>=◌, or_reason, OptionRow, Part, parts_of, bare_words, told, is_by, number_by, faults_behind, extent_agrees, with_extent, destination_in, gateway_by, gateway_in, path_by_told, path_in, is_of_inet6, of_family, routed, deleted, setting_of, module_set, address_in, looked_up, flushed, ticked, profiled, CommandRow, command_rows, is_taken, is_comment, from_command, unless_faulty, row_asks, command_asks, words_ask, asked_for}
use Rattle.route_lang.specs.Limits.{lines_limit, line_limit}
use Rattle.route_lang.specs.Request.{Request, OfInet, OfInet6, OfBoth, LookUp, LookUp6, OfProfile, Flush, Tick}
use Rattle.route_lang.specs.Text.{words_of}
use Rattle.route_lang.specs.Reader.Verb.{verb_of}
use Rattle.route_lang.specs.Reader.Walk.{Met, nothing_met, walk_from}
use Rattle.route_lang.specs.declared.asked.Asked.{Asked}
use Rattle.route_lang.specs.declared.asked.Asked.TheVariants.{Nothing, Inet, Inet6, Both, Get4, Get6, Profile}
use Rattle.route_lang.specs.declared.asked.Shared.TheVariants as shared
use Rattle.route_lang.specs.declared.fault.Reason.{Reason}
use Rattle.route_lang.specs.declared.fault.Reason.TheVariants.{TooManyLines, LineTooLong, BadByte, UnknownCommand, MissingWord, BadNumber, BadAddress, BadLength, NoModule}
use Rattle.route_lang.specs.declared.verb.Verb.{Verb}
use Rattle.route_lang.specs.declared.verb.Verb.TheVariants as verb
use Rattle.route_lang.specs.declared.verb.Flag.{Flag}
use Rattle.route_lang.specs.declared.verb.Flag.TheVariants as flag
use Rattle.route_lang.proofs.GrammarLemmas.{command_row, option_row, Told, Matches, NumberIs, Stands, Steps, stands_first, walks}

-- ---- what is told

bind_same : {A B : Type 0} (r : Result A Reason) (f g : A → Result B Reason) → ((x : A) → f x ≡ g x) → (r >>= f) ≡ (r >>= g)
bind_same (Ok x) f g h = h x
bind_same (Err why) f g h = refl

number_same : (n : Option ℕ) (o : Told) → NumberIs n o → n ≡ number_by o
number_same None None h = refl
number_same (Some n) (Some t) h = sym h
number_same None (Some t) h = absurd h
number_same (Some n) None h = absurd h

inet6_same : (f : Option Flag) (o : Told) → Matches f o → is_inet6 f ≡ is_by (codes "-inet6") o
inet6_same None None h = refl
inet6_same None (Some t) h = absurd h
inet6_same (Some f) None h = absurd h
inet6_same (Some f) (Some t) h = row f ∙ ap (λ (option : OptionRow). bytes_eq option.word (codes "-inet6")) (sym h)
  where
    row : (f : Flag) → is_inet6 (Some f) ≡ bytes_eq (option_row f).word (codes "-inet6")
    row flag.Inet = refl
    row flag.Inet6 = refl
    row flag.Net = refl
    row flag.Host = refl
    row flag.Iface = refl
    row flag.Mtu = refl
    row flag.Weight = refl
    row flag.Blackhole = refl
    row flag.Reject = refl
    row flag.Flow = refl

abbrev extent_by_row : ℕ → List ℕ → Block → OptionRow → Bool
extent_by_row w word b option = extent_agrees w (Some (option, None)) word b

agrees_same : (w : ℕ) (f : Option Flag) (o : Told) (word : List ℕ) (b : Block) → Matches f o → agrees w f word b ≡ extent_agrees w o word b
agrees_same w None None word b h = refl
agrees_same w None (Some t) word b h = absurd h
agrees_same w (Some f) None word b h = absurd h
agrees_same w (Some f) (Some t) word b h = row f ∙ ap (extent_by_row w word b) (sym h)
  where
    row : (f : Flag) → agrees w (Some f) word b ≡ extent_by_row w word b (option_row f)
    row flag.Inet = refl
    row flag.Inet6 = refl
    row flag.Net = refl
    row flag.Host = refl
    row flag.Iface = refl
    row flag.Mtu = refl
    row flag.Weight = refl
    row flag.Blackhole = refl
    row flag.Reject = refl
    row flag.Flow = refl

abbrev path_by_row : Met → Option ℕ → OptionRow → Result WeightedHop Reason
path_by_row met gateway option = path_by_told (Some (option, None)) met.iface met.mtu met.weight gateway

path_same : (f : Option Flag) (o : Told) (met : Met) (gateway : Option ℕ) → Matches f o → path_by f met gateway ≡ path_by_told o met.iface met.mtu met.weight gateway
path_same None None met gateway h = refl
path_same None (Some t) met gateway h = absurd h
path_same (Some f) None met gateway h = absurd h
path_same (Some f) (Some t) met gateway h = row f ∙ ap (path_by_row met gateway) (sym h)
  where
    row : (f : Flag) → path_by (Some f) met gateway ≡ path_by_row met gateway (option_row f)
    row flag.Inet = refl
    row flag.Inet6 = refl
    row flag.Net = refl
    row flag.Host = refl
    row flag.Iface = refl
    row flag.Mtu = refl
    row flag.Weight = refl
    row flag.Blackhole = refl
    row flag.Reject = refl
    row flag.Flow = refl

-- ---- what a command asks for

abbrev some_asked : Result Request Reason → Result (Option Request) Reason
some_asked asked = asked >>= (λ request. Ok (Some request))

module _ (met : Met) (parts : List Part) (h : Stands met parts) where
  abbrev extent : Told
  extent = told (codes "extent") parts

  destination_same : (w : ℕ) → destination_of w met ≡ destination_in w parts
  destination_same w =
      ap (λ (first : Option (List ℕ)). or_reason MissingWord first >>= (λ word. or_reason BadAddress (block_of w word) >>= agreeing w met.extent word)) h.first
      ∙ bind_same (or_reason MissingWord (slice_get (bare_words parts) 0)) (λ word. or_reason BadAddress (block_of w word) >>= agreeing w met.extent word) (λ word. or_reason BadAddress (block_of w word) >>= with_extent w extent word)
      (λ word. bind_same (or_reason BadAddress (block_of w word)) (agreeing w met.extent word) (with_extent w extent word) (λ b. ap (λ t. cond t (Ok b) (Err BadLength)) (agrees_same w met.extent extent word b h.extent)))

  gateway_same : (w : ℕ) → gateway_of w met ≡ gateway_in w parts
  gateway_same w = ap (gateway_by w) h.second

  path_asked_same : (w : ℕ) → path_asked w met ≡ path_in w parts
  path_asked_same w =
      ap (λ (g : Result (Option ℕ) Reason). g >>= path_of met) (gateway_same w)
      ∙ bind_same (gateway_in w parts) (path_of met) (path_by_told (told (codes "discard") parts) (number_by (told (codes "-if") parts)) (number_by (told (codes "-mtu") parts)) (number_by (told (codes "-weight") parts)))
      (λ g. path_same met.discard (told (codes "discard") parts) met g h.discard
      ∙ ap (λ iface. path_by_told (told (codes "discard") parts) iface met.mtu met.weight g) (number_same met.iface (told (codes "-if") parts) h.iface)
      ∙ ap (λ mtu. path_by_told (told (codes "discard") parts) (number_by (told (codes "-if") parts)) mtu met.weight g) (number_same met.mtu (told (codes "-mtu") parts) h.mtu)
      ∙ ap (λ weight. path_by_told (told (codes "discard") parts) (number_by (told (codes "-if") parts)) (number_by (told (codes "-mtu") parts)) weight g) (number_same met.weight (told (codes "-weight") parts) h.weight))

  add_same : (w : ℕ) → add_of w met ≡ routed w command.Add parts
  add_same w =
      ap (λ (d : Result Block Reason). d >>= (λ b. path_asked w met >>= (λ p. Ok (command.Add b p)))) (destination_same w)
      ∙ ap (λ (r : Result WeightedHop Reason). destination_in w parts >>= (λ b. r >>= (λ p. Ok (command.Add b p)))) (path_asked_same w)

  change_same : (w : ℕ) → change_of w met ≡ routed w command.Change parts
  change_same w =
      ap (λ (d : Result Block Reason). d >>= (λ b. path_asked w met >>= (λ p. Ok (command.Change b p)))) (destination_same w)
      ∙ ap (λ (r : Result WeightedHop Reason). destination_in w parts >>= (λ b. r >>= (λ p. Ok (command.Change b p)))) (path_asked_same w)

  delete_same : (w : ℕ) → delete_of w met ≡ deleted w parts
  delete_same w =
      ap (λ (d : Result Block Reason). d >>= (λ b. gateway_of w met >>= (λ g. Ok (command.Delete b g)))) (destination_same w)
      ∙ ap (λ (r : Result (Option ℕ) Reason). destination_in w parts >>= (λ b. r >>= (λ g. Ok (command.Delete b g)))) (gateway_same w)

  algo_same : (w : ℕ) → algo_of w met ≡ module_set w parts
  algo_same w = ap (λ (first : Option (List ℕ)). or_reason MissingWord first >>= (λ word. or_reason NoModule (setting_of w word)) >>= (λ s. Ok (command.Algo s))) h.first

  address_same : (w : ℕ) → address_asked w met ≡ address_in w parts
  address_same w = ap (λ (first : Option (List ℕ)). or_reason MissingWord first >>= (λ word. or_reason BadAddress (address_of w word))) h.first

  abbrev by_family : Bool → Result (Command 32) Reason → Result (Command 128) Reason → Result Asked Reason
  by_family t inet inet6 = cond t (inet6 >>= (λ c. Ok (Inet6 c))) (inet >>= (λ c. Ok (Inet c)))

  family_choice : (t : Bool) (inet : Result (Command 32) Reason) (inet6 : Result (Command 128) Reason)
      → requested (by_family t inet inet6) ≡ some_asked (cond t (inet6 >>= (λ c. Ok (OfInet6 c))) (inet >>= (λ c. Ok (OfInet c))))
  family_choice true inet (Ok c) = refl
  family_choice true inet (Err why) = refl
  family_choice false (Ok c) inet6 = refl
  family_choice false (Err why) inet6 = refl

  family_same : (inet more : Result (Command 32) Reason) (inet6 more6 : Result (Command 128) Reason) → inet ≡ more → inet6 ≡ more6 → requested (in_family met.family inet inet6) ≡ some_asked (of_family parts more more6)
  family_same inet more inet6 more6 e e6 =
      ap (λ t. requested (by_family t inet inet6)) (inet6_same met.family (told (codes "family") parts) h.family)
      ∙ ap (λ r. requested (by_family (is_of_inet6 parts) r inet6)) e
      ∙ ap (λ r. requested (by_family (is_of_inet6 parts) more r)) e6
      ∙ family_choice (is_of_inet6 parts) more more6

  get_choice : (t : Bool) (a a6 : Result ℕ Reason) (flow : ℕ)
      → requested (cond t (a6 >>= (λ a. Ok (Get6 a flow))) (a >>= (λ a. Ok (Get4 a flow)))) ≡ some_asked (cond t (a6 >>= (λ a. Ok (LookUp6 a flow))) (a >>= (λ a. Ok (LookUp a flow))))
  get_choice true a (Ok x) flow = refl
  get_choice true a (Err why) flow = refl
  get_choice false (Ok x) a6 flow = refl
  get_choice false (Err why) a6 flow = refl

  abbrev got : Bool → Result ℕ Reason → Result ℕ Reason → Option ℕ → Result (Option Request) Reason
  got t a a6 flow = requested (cond t (a6 >>= (λ a. Ok (Get6 a (unwrap_or flow 0)))) (a >>= (λ a. Ok (Get4 a (unwrap_or flow 0)))))

  get_same : requested (get_of met) ≡ some_asked (looked_up parts)
  get_same =
      ap (λ t. got t (address_asked 32 met) (address_asked 128 met) met.flow) (inet6_same met.family (told (codes "family") parts) h.family)
      ∙ ap (λ a. got (is_of_inet6 parts) a (address_asked 128 met) met.flow) (address_same 32)
      ∙ ap (λ a. got (is_of_inet6 parts) (address_in 32 parts) a met.flow) (address_same 128)
      ∙ ap (got (is_of_inet6 parts) (address_in 32 parts) (address_in 128 parts)) (number_same met.flow (told (codes "flow") parts) h.flow)
      ∙ get_choice (is_of_inet6 parts) (address_in 32 parts) (address_in 128 parts) (unwrap_or (number_by (told (codes "flow") parts)) 0)

  flush_same : requested (flush_of met.family) ≡ some_asked (flushed parts)
  flush_same = by_given met.family (told (codes "family") parts) h.family
    where
      by_given : (f : Option Flag) (o : Told) → Matches f o
          → requested (flush_of f) ≡ some_asked (cond (is_some o) (cond (is_by (codes "-inet6") o) (Ok (OfInet6 command.Flush)) (Ok (OfInet command.Flush))) (Ok (OfBoth Flush)))
      by_given None None m = refl
      by_given (Some f) (Some t) m = ap (λ b. requested (by_family b (Ok command.Flush) (Ok command.Flush))) (inet6_same (Some f) (Some t) m) ∙ family_choice (is_by (codes "-inet6") (Some t)) (Ok command.Flush) (Ok command.Flush)
      by_given None (Some t) m = absurd m
      by_given (Some f) None m = absurd m

  tick_same : requested (tick_of met) ≡ some_asked (ticked parts)
  tick_same = ap (λ (first : Option (List ℕ)). requested (or_reason MissingWord first >>= (λ word. or_reason BadNumber (number_of word) >>= (λ ms. Ok (Both (shared.Tick ms)))))) h.first ∙ by_first (slice_get (bare_words parts) 0)
    where
      by_number : (o : Option ℕ) → requested (or_reason BadNumber o >>= (λ ms. Ok (Both (shared.Tick ms)))) ≡ some_asked (or_reason BadNumber o >>= (λ ms. Ok (OfBoth (Tick ms))))
      by_number None = refl
      by_number (Some ms) = refl

      by_first : (first : Option (List ℕ))
          → requested (or_reason MissingWord first >>= (λ word. or_reason BadNumber (number_of word) >>= (λ ms. Ok (Both (shared.Tick ms)))))
          ≡ some_asked (or_reason MissingWord first >>= (λ word. or_reason BadNumber (number_of word) >>= (λ ms. Ok (OfBoth (Tick ms)))))
      by_first None = refl
      by_first (Some word) = by_number (number_of word)

  profile_same : requested (profile_asked met) ≡ some_asked (profiled parts)
  profile_same = ap (λ (first : Option (List ℕ)). requested (or_reason MissingWord first >>= profile_named)) h.first ∙ by_first (slice_get (bare_words parts) 0)
    where
      by_word : (one two : Bool) → requested (cond one (Ok (Profile 1)) (cond two (Ok (Profile 2)) (Err BadNumber))) ≡ some_asked (cond one (Ok (OfProfile 1)) (cond two (Ok (OfProfile 2)) (Err BadNumber)))
      by_word true two = refl
      by_word false true = refl
      by_word false false = refl

      by_first : (first : Option (List ℕ))
          → requested (or_reason MissingWord first >>= profile_named)
          ≡ some_asked (or_reason MissingWord first >>= (λ word. cond (bytes_eq word (codes "1")) (Ok (OfProfile 1)) (cond (bytes_eq word (codes "2")) (Ok (OfProfile 2)) (Err BadNumber))))
      by_first None = refl
      by_first (Some word) = by_word (bytes_eq word (codes "1")) (bytes_eq word (codes "2"))

  asked_same : (v : Verb) → requested (asked_by v met) ≡ some_asked ((command_row v).asks parts)
  asked_same verb.Add = family_same (add_of 32 met) (routed 32 command.Add parts) (add_of 128 met) (routed 128 command.Add parts) (add_same 32) (add_same 128)
  asked_same verb.Change = family_same (change_of 32 met) (routed 32 command.Change parts) (change_of 128 met) (routed 128 command.Change parts) (change_same 32) (change_same 128)
  asked_same verb.Delete = family_same (delete_of 32 met) (deleted 32 parts) (delete_of 128 met) (deleted 128 parts) (delete_same 32) (delete_same 128)
  asked_same verb.Get = get_same
  asked_same verb.Flush = flush_same
  asked_same verb.Tick = tick_same
  asked_same verb.Sync = refl
  asked_same verb.Algo = family_same (algo_of 32 met) (module_set 32 parts) (algo_of 128 met) (module_set 128 parts) (algo_same 32) (algo_same 128)
  asked_same verb.Profile = profile_same

-- ---- a line

walk_same : (v : Verb) (r : Result Met Reason) (o : Option Reason) (parts : List Part) → Steps r o parts → requested (r >>= asked_by v) ≡ some_asked (unless_faulty o ((command_row v).asks parts))
walk_same v (Ok met) None parts h = asked_same met parts h v
walk_same v (Err why) (Some reason) parts h = ap Err h
walk_same v (Ok met) (Some reason) parts h = absurd h
walk_same v (Err why) None parts h = absurd h

row_same : (v : Verb) (words : List (List ℕ)) → requested (walk_from v nothing_met words >>= asked_by v) ≡ some_asked (row_asks words (command_row v))
row_same v words =
    let parts = parts_of (command_row v).options words in
    walk_same v (walk_from v nothing_met words) (slice_get (faults_behind (command_row v).most [] parts) 0) parts (walks v nothing_met [] words stands_first)

-- the row of a command
abbrev RowIs : Option Verb → Option CommandRow → Type 0
RowIs None None = Unit {0}
RowIs (Some v) (Some row) = row ≡ command_row v
RowIs None (Some row) = ⊥
RowIs (Some v) None = ⊥

row_is : (word : List ℕ) → RowIs (verb_of word) (find (λ (row : CommandRow). bytes_eq word row.word) command_rows)
row_is word = choice (bytes_eq word (codes "add")) (bytes_eq word (codes "change")) (bytes_eq word (codes "delete")) (bytes_eq word (codes "get")) (bytes_eq word (codes "flush")) (bytes_eq word (codes "tick")) (bytes_eq word (codes "sync")) (bytes_eq word (codes "algo")) (bytes_eq word (codes "profile"))
  where
    choice : (a b c d e f g h i : Bool)
        → RowIs (cond a (Some verb.Add) (cond b (Some verb.Change) (cond c (Some verb.Delete) (cond d (Some verb.Get) (cond e (Some verb.Flush) (cond f (Some verb.Tick) (cond g (Some verb.Sync) (cond h (Some verb.Algo) (cond i (Some verb.Profile) None)))))))))
        (cond a (Some (command_row verb.Add)) (cond b (Some (command_row verb.Change)) (cond c (Some (command_row verb.Delete)) (cond d (Some (command_row verb.Get)) (cond e (Some (command_row verb.Flush)) (cond f (Some (command_row verb.Tick)) (cond g (Some (command_row verb.Sync)) (cond h (Some (command_row verb.Algo)) (cond i (Some (command_row verb.Profile)) None)))))))))
    choice true b c d e f g h i = refl
    choice false true c d e f g h i = refl
    choice false false true d e f g h i = refl
    choice false false false true e f g h i = refl
    choice false false false false true f g h i = refl
    choice false false false false false true g h i = refl
    choice false false false false false false true h i = refl
    choice false false false false false false false true i = refl
    choice false false false false false false false false true = refl
    choice false false false false false false false false false = tt

named_same : (o : Option Verb) (row : Option CommandRow) (words : List (List ℕ)) → RowIs o row → requested (by_verb o words) ≡ some_asked (or_reason UnknownCommand row >>= row_asks words)
named_same None None words h = refl
named_same (Some v) (Some row) words h = row_same v words ∙ ap (λ (r : CommandRow). some_asked (row_asks words r)) (sym h)
named_same None (Some row) words h = absurd h
named_same (Some v) None words h = absurd h

command_same : (words : List (List ℕ)) → requested (by_command words) ≡ some_asked (command_asks words)
command_same [] = refl
command_same (word ∷ words) = named_same (verb_of word) (find (λ (row : CommandRow). bytes_eq word row.word) command_rows) words (row_is word)

words_same : (line : List ℕ) (words : List (List ℕ)) → requested (by_words line words) ≡ words_ask line words
words_same line [] = refl
words_same line (first ∷ words) = choice (is_comment first) (list_all is_taken line)
  where
    choice : (comment taken : Bool) → requested (cond comment (Ok Nothing) (cond taken (by_command (from_command (first ∷ words))) (Err BadByte))) ≡ cond comment (Ok None) (cond taken (some_asked (command_asks (from_command (first ∷ words)))) (Err BadByte))
    choice true taken = refl
    choice false true = command_same (from_command (first ∷ words))
    choice false false = refl

-- what the reader makes of a line is what the grammar says
pub asked_agrees : (number : ℕ) (line : List ℕ) → requested (asked_of number line) ≡ asked_for number line
asked_agrees number line = choice (nat_lt lines_limit number) (nat_lt line_limit (length line))
  where
    choice : (past long : Bool) → requested (cond past (Err TooManyLines) (cond long (Err LineTooLong) (by_words line (words_of line)))) ≡ cond past (Err TooManyLines) (cond long (Err LineTooLong) (words_ask line (words_of line)))
    choice true long = refl
    choice false true = refl
    choice false false = words_same line (words_of line)
