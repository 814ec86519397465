-- No line is refused as too large: that is said of the whole input alone.
use Rattle.std.proofs.Common.{◌≡◌, ◌∙◌, ◌&&◌, ℕ, ◌+◌, ◌<◌, ◌≤◌, codes, bytes_eq, Bool, true, false, List, [], ◌∷◌, Option, Some, None, Result, Ok, Err, cond, length, nat_lt, ltb-true, ltb-false, refl, subst, arith}
use Rattle.rib_store.specs.declared.command.Command.{Command}
use Rattle.route_lang.specs.declared.asked.Asked.{Asked}
use Rattle.route_lang.specs.declared.asked.Asked.TheVariants.{Profile}
use Rattle.std.specs.Prelude.{IsErrOf}
use Rattle.route_lang.specs.declared.fault.LineFault.{LineFault}
use Rattle.route_lang.specs.declared.fault.ScriptError.{ScriptError}
use Rattle.route_lang.specs.declared.fault.ScriptError.TheVariants as script_error
use Rattle.route_lang.specs.declared.fault.Reason.{Reason}
use Rattle.route_lang.specs.declared.fault.Reason.TheVariants as reason
use Rattle.route_lang.specs.declared.script.Plans.{Plans}
use Rattle.route_lang.specs.Limits.{input_limit, lines_limit, line_limit}
use Rattle.route_lang.specs.Text.{lines_of, words_of}
use Rattle.route_lang.specs.declared.verb.Verb.{Verb}
use Rattle.route_lang.specs.declared.verb.Verb.TheVariants as verb
use Rattle.route_lang.specs.declared.verb.Flag.{Flag}
use Rattle.route_lang.specs.declared.verb.Flag.TheVariants as flag
use Rattle.route_lang.specs.declared.verb.Token.{Token}
use Rattle.route_lang.specs.declared.verb.Token.TheVariants.{Bare, Plain, Valued}
use Rattle.route_lang.specs.Reader.Walk.{Met, with_flag, with_value, with_parsed, without_value, with_bare, put_bare, at_end, along, walk_from}
use Rattle.route_lang.specs.Grammar.{◌>>=◌}
use Rattle.addr_text.specs.PrefixText.{block_of}
use Rattle.route_lang.specs.Reader.Verb.{token_of, bare_words}
use Rattle.route_lang.specs.Reader.Asked.{destination_of, agreeing, agrees, gateway_of, address_asked, path_by, path_of, path_asked, add_of, change_of, delete_of, setting_asked, algo_of, tick_of, get_of, profile_named, profile_asked, in_family, flush_of, asked_by, by_verb, by_command, by_words, asked_of, is_profile, in_time}
use Rattle.route_lang.specs.Grammar.{or_reason, gateway_by, leading, from_command}
use Rattle.route_lang.specs.Reader.Lines.{then_lines, with_front, lines_from, no_plans, plans_behind, entries_of}
use Rattle.route_lang.specs.Script.{Reading, GivesScript, input_too_large, script_of}
use Rattle.route_lang.proofs.AgreementLemmas.{script_agrees}

-- a reason for which a line may be refused
abbrev pub IsOfLine : Reason → Type 0
IsOfLine reason.TooLarge = ⊥
IsOfLine why = Unit {0}

-- what is refused is refused for such a reason
unfoldable OfLine : {A : Type 0} → Result A Reason → Type 0
OfLine (Ok x) = Unit {0}
OfLine (Err why) = IsOfLine why

fine : {A : Type 0} (x : A) → OfLine {A = A} (Ok x)
unfolding OfLine
fine x = tt

bad : (A : Type 0) (why : Reason) → IsOfLine why → OfLine {A = A} (Err why)
unfolding OfLine
bad A why h = h

bind : {A B : Type 0} (r : Result A Reason) (f : A → Result B Reason) → OfLine r → ((x : A) → OfLine (f x)) → OfLine (r >>= f)
unfolding OfLine
bind (Ok x) f first later = later x
bind (Err why) f first later = first

either : {A : Type 0} (b : Bool) (x y : Result A Reason) → OfLine x → OfLine y → OfLine (cond b x y)
either true x y here there = here
either false x y here there = there

given : {A : Type 0} (why : Reason) (o : Option A) → IsOfLine why → OfLine (or_reason why o)
given why None h = bad _ why h
given why (Some x) h = fine x

-- ---- the walk

flag_given : (met : Met) (f : Flag) → OfLine (with_flag met f)
flag_given met f = either _ _ _ (bad _ reason.Repeated tt) (fine _)

value_parsed : (met : Met) (f : Flag) (o : Option ℕ) → OfLine (with_parsed met f o)
value_parsed met f None = bad _ reason.BadNumber tt
value_parsed met f (Some n) = fine _

value_given : (met : Met) (f : Flag) (word : List ℕ) → OfLine (with_value met f word)
value_given met f word = either _ _ _ (bad _ reason.Repeated tt) (value_parsed met f _)

value_missing : (met : Met) (f : Flag) → OfLine (without_value met f)
value_missing met f = either _ _ _ (bad _ reason.Repeated tt) (bad _ reason.MissingWord tt)

bare_put : (most : ℕ) (met : Met) (word : List ℕ) (first second : Option (List ℕ)) → OfLine (put_bare most met word first second)
bare_put most met word None second = either _ _ _ (fine _) (bad _ reason.ExtraWord tt)
bare_put most met word (Some first) None = either _ _ _ (fine _) (bad _ reason.ExtraWord tt)
bare_put most met word (Some first) (Some second) = bad _ reason.ExtraWord tt

last_word : (v : Verb) (met : Met) (word : List ℕ) (token : Option Token) → OfLine (at_end v met word token)
last_word v met word None = bad _ reason.UnknownOption tt
last_word v met word (Some Bare) = bare_put (bare_words v) met word met.first met.second
last_word v met word (Some (Plain f)) = flag_given met f
last_word v met word (Some (Valued f)) = value_missing met f

some_word : (v : Verb) (met : Met) (word next : List ℕ) (token : Option Token) (here behind : Met → Result Met Reason)
    → ((more : Met) → OfLine (here more)) → ((more : Met) → OfLine (behind more)) → OfLine (along v met word next token here behind)
some_word v met word next None here behind h b = bad _ reason.UnknownOption tt
some_word v met word next (Some Bare) here behind h b = bind (with_bare v met word) here (bare_put (bare_words v) met word met.first met.second) h
some_word v met word next (Some (Plain f)) here behind h b = bind (with_flag met f) here (flag_given met f) h
some_word v met word next (Some (Valued f)) here behind h b = bind (with_value met f next) behind (value_given met f next) b

walked : (v : Verb) (met : Met) (words : List (List ℕ)) → OfLine (walk_from v met words)
walked v met [] = fine met
walked v met (word ∷ []) = last_word v met word (token_of v word)
walked v met (word ∷ next ∷ words) =
    some_word v met word next (token_of v word) (λ more. walk_from v more (next ∷ words)) (λ more. walk_from v more words) (λ more. walked v more (next ∷ words)) (λ more. walked v more words)

-- ---- after the walk

gateway_read : (w : ℕ) (o : Option (List ℕ)) → OfLine (gateway_by w o)
gateway_read w None = fine None
gateway_read w (Some word) = given reason.BadAddress _ tt

destination_read : (w : ℕ) (met : Met) → OfLine (destination_of w met)
destination_read w met =
    bind (or_reason reason.MissingWord met.first) _ (given reason.MissingWord met.first tt) (λ word. bind (or_reason reason.BadAddress (block_of w word)) (agreeing w met.extent word) (given reason.BadAddress (block_of w word) tt) (λ b. either (agrees w met.extent word b) (Ok b) (Err reason.BadLength) (fine b) (bad _ reason.BadLength tt)))

address_read : (w : ℕ) (met : Met) → OfLine (address_asked w met)
address_read w met = bind (or_reason reason.MissingWord met.first) _ (given reason.MissingWord met.first tt) (λ word. given reason.BadAddress _ tt)

path_led : (gateway iface : Option ℕ) (mtu weight : ℕ) → OfLine (leading gateway iface mtu weight)
path_led (Some gateway) iface mtu weight = fine _
path_led None (Some iface) mtu weight = fine _
path_led None None mtu weight = bad _ reason.NoTarget tt

path_discarded : (o : Option Flag) (met : Met) (gateway : Option ℕ) → OfLine (path_by o met gateway)
path_discarded None met gateway = path_led gateway _ _ _
path_discarded (Some flag.Blackhole) met gateway = fine _
path_discarded (Some flag.Reject) met gateway = fine _
path_discarded (Some flag.Inet) met gateway = path_led gateway _ _ _
path_discarded (Some flag.Inet6) met gateway = path_led gateway _ _ _
path_discarded (Some flag.Net) met gateway = path_led gateway _ _ _
path_discarded (Some flag.Host) met gateway = path_led gateway _ _ _
path_discarded (Some flag.Iface) met gateway = path_led gateway _ _ _
path_discarded (Some flag.Mtu) met gateway = path_led gateway _ _ _
path_discarded (Some flag.Weight) met gateway = path_led gateway _ _ _
path_discarded (Some flag.Flow) met gateway = path_led gateway _ _ _

path_read : (w : ℕ) (met : Met) → OfLine (path_asked w met)
path_read w met = bind (gateway_of w met) (path_of met) (gateway_read w met.second) (λ gateway. path_discarded met.discard met gateway)

added : (w : ℕ) (met : Met) → OfLine (add_of w met)
added w met = bind (destination_of w met) _ (destination_read w met) (λ b. bind (path_asked w met) _ (path_read w met) (λ p. fine _))

changed : (w : ℕ) (met : Met) → OfLine (change_of w met)
changed w met = bind (destination_of w met) _ (destination_read w met) (λ b. bind (path_asked w met) _ (path_read w met) (λ p. fine _))

deleted : (w : ℕ) (met : Met) → OfLine (delete_of w met)
deleted w met = bind (destination_of w met) _ (destination_read w met) (λ b. bind (gateway_of w met) _ (gateway_read w met.second) (λ g. fine _))

set : (w : ℕ) (met : Met) → OfLine (algo_of w met)
set w met =
    bind (setting_asked w met) _ (bind (or_reason reason.MissingWord met.first) _ (given reason.MissingWord met.first tt) (λ word. given reason.NoModule _ tt)) (λ s. fine _)

of_family : (family : Option Flag) (inet : Result (Command 32) Reason) (inet6 : Result (Command 128) Reason) → OfLine inet → OfLine inet6 → OfLine (in_family family inet inet6)
of_family family inet inet6 h h6 = either _ _ _ (bind inet6 _ h6 (λ c. fine _)) (bind inet _ h (λ c. fine _))

flushed : (family : Option Flag) → OfLine (flush_of family)
flushed None = fine _
flushed (Some family) = of_family (Some family) _ _ (fine _) (fine _)

ticked : (met : Met) → OfLine (tick_of met)
ticked met = bind (or_reason reason.MissingWord met.first) _ (given reason.MissingWord met.first tt) (λ word. bind _ _ (given reason.BadNumber _ tt) (λ ms. fine _))

looked_up : (met : Met) → OfLine (get_of met)
looked_up met = either _ _ _ (bind (address_asked 128 met) _ (address_read 128 met) (λ a. fine _)) (bind (address_asked 32 met) _ (address_read 32 met) (λ a. fine _))

profiled : (met : Met) → OfLine (profile_asked met)
profiled met =
    bind (or_reason reason.MissingWord met.first) profile_named (given reason.MissingWord met.first tt)
    (λ word. either (bytes_eq word (codes "1")) (Ok (Profile 1)) _ (fine (Profile 1)) (either (bytes_eq word (codes "2")) (Ok (Profile 2)) (Err reason.BadNumber) (fine (Profile 2)) (bad _ reason.BadNumber tt)))

asked : (v : Verb) (met : Met) → OfLine (asked_by v met)
asked verb.Add met = of_family met.family _ _ (added 32 met) (added 128 met)
asked verb.Change met = of_family met.family _ _ (changed 32 met) (changed 128 met)
asked verb.Delete met = of_family met.family _ _ (deleted 32 met) (deleted 128 met)
asked verb.Get met = looked_up met
asked verb.Flush met = flushed met.family
asked verb.Tick met = ticked met
asked verb.Sync met = fine _
asked verb.Algo met = of_family met.family _ _ (set 32 met) (set 128 met)
asked verb.Profile met = profiled met

-- ---- lines

named : (o : Option Verb) (words : List (List ℕ)) → OfLine (by_verb o words)
named None words = bad _ reason.UnknownCommand tt
named (Some v) words = bind (walk_from v _ words) (asked_by v) (walked v _ words) (asked v)

commanded : (words : List (List ℕ)) → OfLine (by_command words)
commanded [] = bad _ reason.MissingWord tt
commanded (word ∷ words) = named _ words

worded : (line : List ℕ) (words : List (List ℕ)) → OfLine (by_words line words)
worded line [] = fine _
worded line (first ∷ words) = either _ _ _ (fine _) (either _ _ _ (commanded (from_command (first ∷ words))) (bad _ reason.BadByte tt))

line_asked : (at : ℕ) (line : List ℕ) → OfLine (asked_of at line)
line_asked at line =
    either (nat_lt lines_limit at) (Err reason.TooManyLines) _ (bad _ reason.TooManyLines tt)
    (either (nat_lt line_limit (length line)) (Err reason.LineTooLong) (by_words line (words_of line)) (bad _ reason.LineTooLong tt) (worded line (words_of line)))

timely : (begun : Bool) (r : Result Asked Reason) → OfLine r → OfLine (in_time begun r)
timely begun (Ok a) h = either (is_profile a && begun) (Err reason.NotFirst) (Ok a) (bad _ reason.NotFirst tt) (fine a)
timely begun (Err why) h = h

abbrev FaultOfLine : Result Reading LineFault → Type 0
FaultOfLine (Ok reading) = Unit {0}
FaultOfLine (Err fault) = IsOfLine fault.reason

behind_front : (front : List _) (below : Result Reading LineFault) → FaultOfLine below → FaultOfLine (with_front front below)
behind_front front (Ok reading) h = tt
behind_front front (Err fault) h = h

line_first : (at : ℕ) (plans : Plans) (r : Result Asked Reason) (below : Plans → Result Reading LineFault) → OfLine r → ((p : Plans) → FaultOfLine (below p)) → FaultOfLine (then_lines at plans r below)
unfolding OfLine
line_first at plans (Err why) below h b = h
line_first at plans (Ok a) below h b = behind_front (entries_of at plans a) (below (plans_behind plans a)) (b (plans_behind plans a))

pub fault_of_line : (at : ℕ) (plans : Plans) (lines : List (List ℕ)) → FaultOfLine (lines_from at plans lines)
fault_of_line at plans [] = tt
fault_of_line at plans (text ∷ lines) =
    line_first at plans (in_time plans.begun (asked_of at text)) (λ behind. lines_from (at + 1) behind lines) (timely plans.begun (asked_of at text) (line_asked at text)) (λ behind. fault_of_line (at + 1) behind lines)

-- bytes within the limit are refused for a reason of their line
pub reason_of_line : (bytes : List ℕ) (fault : LineFault) → length bytes ≤ input_limit → script_of bytes ≡ Err fault → IsOfLine fault.reason
reason_of_line bytes fault few e = by_length (nat_lt input_limit (length bytes)) refl (script_agrees bytes ∙ e)
  where
    by_length : (large : Bool) → nat_lt input_limit (length bytes) ≡ large → cond large (Err (record { line = 0; reason = reason.TooLarge })) (lines_from 1 no_plans (lines_of bytes)) ≡ Err fault → IsOfLine fault.reason
    by_length true large e = let past : input_limit < length bytes = ltb-true input_limit (length bytes) large in absurd (omega arith)
    by_length false large e = subst FaultOfLine e (fault_of_line 1 no_plans (lines_of bytes))

-- the fault of bytes that are too many is told of no others
pub only_too_large : (bytes : List ℕ) (r : Result Reading ScriptError) → GivesScript r (script_of bytes) → IsErrOf r (script_error.Fault input_too_large) → input_limit < length bytes
only_too_large bytes r gives told =
    let P : Result Reading ScriptError → Type 0 = λ answer. GivesScript answer (script_of bytes) in
    by_length (nat_lt input_limit (length bytes)) refl (subst P told gives)
  where
    by_length : (large : Bool) → nat_lt input_limit (length bytes) ≡ large → script_of bytes ≡ Err input_too_large → input_limit < length bytes
    by_length true large e = ltb-true input_limit (length bytes) large
    by_length false small e = absurd (reason_of_line bytes input_too_large (ltb-false input_limit (length bytes) small) e)
