-- How the reader makes of what it has met what a line asks for. No public clause cites this; that it agrees with the grammar
-- is proved.
use Rattle.std.specs.Prelude.{◌≡◌, ℕ, ◌==◌, ◌&&◌, not, Bool, true, false, nat_lt, List, [], ◌∷◌, length, codes, bytes_eq, Option, Some, None, unwrap_or, Result, Ok, Err, if◌then◌else◌}
use Rattle.std.specs.List.{list_all}
use Rattle.prefix_width.specs.Prefix.{Block}
use Rattle.prefix_width.specs.Path.{WeightedHop}
use Rattle.prefix_width.specs.declared.nexthop.NhKind.TheVariants as kind
use Rattle.prefix_width.specs.declared.module.Kind.TheVariants.{Dxr}
use Rattle.prefix_width.specs.declared.module.Setting.{Setting}
use Rattle.prefix_width.specs.declared.module.Setting.TheVariants.{Fixed}
use Rattle.addr_text.specs.Address.{address_of}
use Rattle.addr_text.specs.Number.{number_of}
use Rattle.addr_text.specs.PrefixText.{block_of}
use Rattle.rib_store.specs.declared.command.Command.{Command}
use Rattle.rib_store.specs.declared.command.Command.TheVariants as command
use Rattle.rib_store.specs.Plan.{IsWrongModule}
use Rattle.rib_store.specs.Profile.{IsProfile}
use Rattle.route_lang.specs.declared.fault.Reason.{Reason}
use Rattle.route_lang.specs.declared.fault.Reason.TheVariants.{TooManyLines, LineTooLong, BadByte, UnknownCommand, MissingWord, BadNumber, BadAddress, BadLength, NoModule, NotFirst}
use Rattle.route_lang.specs.declared.verb.Verb.{Verb}
use Rattle.route_lang.specs.declared.verb.Verb.TheVariants as verb
use Rattle.route_lang.specs.declared.verb.Flag.{Flag}
use Rattle.route_lang.specs.declared.verb.Flag.TheVariants as flag
use Rattle.route_lang.specs.declared.asked.Asked.{Asked}
use Rattle.route_lang.specs.declared.asked.Asked.TheVariants.{Nothing, Inet, Inet6, Both, Get4, Get6, Profile}
use Rattle.route_lang.specs.declared.asked.Shared.{Shared}
use Rattle.route_lang.specs.declared.asked.Shared.TheVariants as shared
use Rattle.route_lang.specs.Grammar.{or_reason, is_alone, gateway_by, dropping, leading, setting_of, is_taken, is_comment, from_command}
use Rattle.route_lang.specs.Limits.{lines_limit, line_limit}
use Rattle.route_lang.specs.Request.{Request, OfInet, OfInet6, OfBoth, LookUp, LookUp6, OfProfile}
use Rattle.route_lang.specs.Request as request
use Rattle.route_lang.specs.Text.{words_of}
use Rattle.route_lang.specs.Reader.Verb.{verb_of}
use Rattle.route_lang.specs.Reader.Walk.{Met, nothing_met, walk_from}
use Rattle.route_lang.specs.Grammar.{◌>>=◌}

-- ---- words after the walk

-- whether `-net` or `-host` agrees with the destination that a word writes
abbrev pub agrees : ℕ → Option Flag → List ℕ → Block → Bool
agrees w (Some flag.Net) word b = not (is_alone word)
agrees w (Some flag.Host) word b = b.len == w
agrees w extent word b = true

abbrev pub agreeing : ℕ → Option Flag → List ℕ → Block → Result Block Reason
agreeing w extent word b = if agrees w extent word b then Ok b else Err BadLength

-- the destination
abbrev pub destination_of : ℕ → Met → Result Block Reason
destination_of w met =
    or_reason MissingWord met.first >>= (λ word. or_reason BadAddress (block_of w word) >>= agreeing w met.extent word)

-- the gateway, where there is one
abbrev pub gateway_of : ℕ → Met → Result (Option ℕ) Reason
gateway_of w met = gateway_by w met.second

-- the address of a get
abbrev pub address_asked : ℕ → Met → Result ℕ Reason
address_asked w met = or_reason MissingWord met.first >>= (λ word. or_reason BadAddress (address_of w word))

-- ---- the path of an `add` or a `change`

abbrev pub path_by : Option Flag → Met → Option ℕ → Result WeightedHop Reason
path_by (Some flag.Blackhole) met gateway = Ok (dropping kind.Blackhole)
path_by (Some flag.Reject) met gateway = Ok (dropping kind.Reject)
path_by discard met gateway = leading gateway met.iface (unwrap_or met.mtu 0) (unwrap_or met.weight 1)

-- the path that options and gateway give
abbrev pub path_of : Met → Option ℕ → Result WeightedHop Reason
path_of met gateway = path_by met.discard met gateway

-- the path that options and words give
abbrev pub path_asked : ℕ → Met → Result WeightedHop Reason
path_asked w met = gateway_of w met >>= path_of met

-- ---- commands

abbrev pub add_of : (w : ℕ) → Met → Result (Command w) Reason
add_of w met = destination_of w met >>= (λ b. path_asked w met >>= (λ p. Ok (command.Add b p)))

abbrev pub change_of : (w : ℕ) → Met → Result (Command w) Reason
change_of w met = destination_of w met >>= (λ b. path_asked w met >>= (λ p. Ok (command.Change b p)))

abbrev pub delete_of : (w : ℕ) → Met → Result (Command w) Reason
delete_of w met = destination_of w met >>= (λ b. gateway_of w met >>= (λ g. Ok (command.Delete b g)))

abbrev pub setting_asked : ℕ → Met → Result Setting Reason
setting_asked w met = or_reason MissingWord met.first >>= (λ word. or_reason NoModule (setting_of w word))

-- a setting that a family of this width may have
abbrev pub IsModuleOf : ℕ → Setting → Type 0
IsModuleOf w (Fixed Dxr) = w ≡ 32
IsModuleOf w setting = Unit {0}

abbrev pub algo_of : (w : ℕ) → Met → Result (Command w) Reason
algo_of w met = setting_asked w met >>= (λ s. Ok (command.Algo s))

-- ---- what a command asks for

-- whether the family is inet6; without an option it is inet
abbrev pub is_inet6 : Option Flag → Bool
is_inet6 (Some flag.Inet6) = true
is_inet6 family = false

abbrev pub tick_of : Met → Result Asked Reason
tick_of met = or_reason MissingWord met.first >>= (λ word. or_reason BadNumber (number_of word) >>= (λ ms. Ok (Both (shared.Tick ms))))

abbrev pub get_of : Met → Result Asked Reason
get_of met =
    if is_inet6 met.family then address_asked 128 met >>= (λ a. Ok (Get6 a (unwrap_or met.flow 0)))
    else address_asked 32 met >>= (λ a. Ok (Get4 a (unwrap_or met.flow 0)))

-- the profile that a word names
abbrev pub profile_named : List ℕ → Result Asked Reason
profile_named word =
    if bytes_eq word (codes "1") then Ok (Profile 1)
    else if bytes_eq word (codes "2") then Ok (Profile 2)
    else Err BadNumber

abbrev pub profile_asked : Met → Result Asked Reason
profile_asked met = or_reason MissingWord met.first >>= profile_named

-- the command of the family that an option gives
abbrev pub in_family : Option Flag → Result (Command 32) Reason → Result (Command 128) Reason → Result Asked Reason
in_family family inet inet6 = if is_inet6 family then inet6 >>= (λ c. Ok (Inet6 c)) else inet >>= (λ c. Ok (Inet c))

-- a flush without a family is of both
abbrev pub flush_of : Option Flag → Result Asked Reason
flush_of None = Ok (Both shared.Flush)
flush_of (Some family) = in_family (Some family) (Ok command.Flush) (Ok command.Flush)

-- what a command asks for, after the walk over its words
abbrev pub asked_by : Verb → Met → Result Asked Reason
asked_by verb.Add met = in_family met.family (add_of 32 met) (add_of 128 met)
asked_by verb.Change met = in_family met.family (change_of 32 met) (change_of 128 met)
asked_by verb.Delete met = in_family met.family (delete_of 32 met) (delete_of 128 met)
asked_by verb.Get met = get_of met
asked_by verb.Flush met = flush_of met.family
asked_by verb.Tick met = tick_of met
asked_by verb.Sync met = Ok (Both shared.Sync)
asked_by verb.Algo met = in_family met.family (algo_of 32 met) (algo_of 128 met)
asked_by verb.Profile met = profile_asked met

-- a command of one family sets no module that is not for it, and a profile is 1 or 2
abbrev pub IsOfForm : Asked → Type 0
IsOfForm (Inet c) = ¬ (IsWrongModule c)
IsOfForm (Inet6 c) = ¬ (IsWrongModule c)
IsOfForm (Profile n) = IsProfile n
IsOfForm asked = Unit {0}

-- ---- the line

abbrev pub by_verb : Option Verb → List (List ℕ) → Result Asked Reason
by_verb None words = Err UnknownCommand
by_verb (Some verb) words = walk_from verb nothing_met words >>= asked_by verb

abbrev pub by_command : List (List ℕ) → Result Asked Reason
by_command [] = Err MissingWord
by_command (word ∷ words) = by_verb (verb_of word) words

-- the words of a line that is not too long
abbrev pub by_words : List ℕ → List (List ℕ) → Result Asked Reason
by_words line [] = Ok Nothing
by_words line (first ∷ words) =
    if is_comment first then Ok Nothing
    else if list_all is_taken line then by_command (from_command (first ∷ words)) else Err BadByte

-- what the line of a number asks for, or the first reason against it
abbrev pub asked_of : ℕ → List ℕ → Result Asked Reason
asked_of at line =
    if nat_lt lines_limit at then Err TooManyLines
    else if nat_lt line_limit (length line) then Err LineTooLong
    else by_words line (words_of line)

abbrev pub is_profile : Asked → Bool
is_profile (Profile n) = true
is_profile asked = false

-- behind a line that asked for something it is too late for a profile
abbrev pub in_time : Bool → Result Asked Reason → Result Asked Reason
in_time begun (Ok asked) = if is_profile asked && begun then Err NotFirst else Ok asked
in_time begun (Err reason) = Err reason

-- ---- as a request

abbrev pub shared_request : Shared → request.Shared
shared_request shared.Flush = request.Flush
shared_request (shared.Tick ms) = request.Tick ms
shared_request shared.Sync = request.Sync

abbrev pub request_by : Asked → Option Request
request_by Nothing = None
request_by (Inet c) = Some (OfInet c)
request_by (Inet6 c) = Some (OfInet6 c)
request_by (Both s) = Some (OfBoth (shared_request s))
request_by (Get4 a flow) = Some (LookUp a flow)
request_by (Get6 a flow) = Some (LookUp6 a flow)
request_by (Profile n) = Some (OfProfile n)

abbrev pub requested : Result Asked Reason → Result (Option Request) Reason
requested (Ok asked) = Ok (request_by asked)
requested (Err reason) = Err reason
