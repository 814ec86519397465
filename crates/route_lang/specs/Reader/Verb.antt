-- The reader's commands and options. No public clause cites them; that they agree with the grammar's tables is proved.
use Rattle.std.specs.Prelude.{ℕ, ◌&&◌, ◌||◌, not, nat_le, Bool, true, false, List, Option, Some, None, option_and_then, bytes_eq, codes, if◌then◌else◌}
use Rattle.addr_text.specs.Number.{number_of}
use Rattle.route_lang.specs.Grammar.{begins_with_dash}
use Rattle.route_lang.specs.declared.verb.Verb.{Verb}
use Rattle.route_lang.specs.declared.verb.Verb.TheVariants as verb
use Rattle.route_lang.specs.declared.verb.Flag.{Flag}
use Rattle.route_lang.specs.declared.verb.Flag.TheVariants.{Inet, Inet6, Net, Host, Iface, Mtu, Weight, Blackhole, Reject, Flow}
use Rattle.route_lang.specs.declared.verb.Token.{Token}
use Rattle.route_lang.specs.declared.verb.Token.TheVariants.{Bare, Plain, Valued}

-- the command that a word names
abbrev pub verb_of : List ℕ → Option Verb
verb_of word =
    if bytes_eq word (codes "add") then Some verb.Add
    else if bytes_eq word (codes "change") then Some verb.Change
    else if bytes_eq word (codes "delete") then Some verb.Delete
    else if bytes_eq word (codes "get") then Some verb.Get
    else if bytes_eq word (codes "flush") then Some verb.Flush
    else if bytes_eq word (codes "tick") then Some verb.Tick
    else if bytes_eq word (codes "sync") then Some verb.Sync
    else if bytes_eq word (codes "algo") then Some verb.Algo
    else if bytes_eq word (codes "profile") then Some verb.Profile
    else None

-- the option that a word names, whatever the command
abbrev pub flag_of : List ℕ → Option Flag
flag_of word =
    if bytes_eq word (codes "-inet") then Some Inet
    else if bytes_eq word (codes "-inet6") then Some Inet6
    else if bytes_eq word (codes "-net") then Some Net
    else if bytes_eq word (codes "-host") then Some Host
    else if bytes_eq word (codes "-if") then Some Iface
    else if bytes_eq word (codes "-mtu") then Some Mtu
    else if bytes_eq word (codes "-weight") then Some Weight
    else if bytes_eq word (codes "-blackhole") then Some Blackhole
    else if bytes_eq word (codes "-reject") then Some Reject
    else if bytes_eq word (codes "flow") then Some Flow
    else None

-- an option of the family
abbrev pub is_family : Flag → Bool
is_family Inet = true
is_family Inet6 = true
is_family flag = false

-- an option that says how a destination without a length is read
abbrev pub is_extent : Flag → Bool
is_extent Net = true
is_extent Host = true
is_extent flag = false

abbrev pub is_flow : Flag → Bool
is_flow Flow = true
is_flow flag = false

-- whether a command has an option
abbrev pub has_flag : Verb → Flag → Bool
has_flag verb.Add flag = not (is_flow flag)
has_flag verb.Change flag = not (is_flow flag)
has_flag verb.Delete flag = is_family flag || is_extent flag
has_flag verb.Get flag = is_family flag || is_flow flag
has_flag verb.Flush flag = is_family flag
has_flag verb.Tick flag = false
has_flag verb.Sync flag = false
has_flag verb.Algo flag = is_family flag
has_flag verb.Profile flag = false

-- whether an option takes the next word as its value
abbrev pub takes_value : Flag → Bool
takes_value Iface = true
takes_value Mtu = true
takes_value Weight = true
takes_value Flow = true
takes_value flag = false

-- how many bare words a command has
abbrev pub bare_words : Verb → ℕ
bare_words verb.Add = 2
bare_words verb.Change = 2
bare_words verb.Delete = 2
bare_words verb.Get = 1
bare_words verb.Flush = 0
bare_words verb.Tick = 1
bare_words verb.Sync = 0
bare_words verb.Algo = 1
bare_words verb.Profile = 1

-- a word that begins with `-` is an option, and so is `flow` in a get
abbrev pub is_option : Verb → List ℕ → Bool
is_option verb.Get word = begins_with_dash word || bytes_eq word (codes "flow")
is_option verb word = begins_with_dash word

abbrev pub flag_token : Flag → Token
flag_token flag = if takes_value flag then Valued flag else Plain flag

-- the option, if the command has it
abbrev pub own_flag : Verb → Option Flag → Option Token
own_flag verb None = None
own_flag verb (Some flag) = if has_flag verb flag then Some (flag_token flag) else None

-- what a word behind the command is: a bare word or one of the command's options, None for an option that it hasn't
abbrev pub token_of : Verb → List ℕ → Option Token
token_of verb word = if is_option verb word then own_flag verb (flag_of word) else Some Bare

-- ---- values of options

-- the least and the greatest value of an option
abbrev pub least_value : Flag → ℕ
least_value Flow = 0
least_value flag = 1

abbrev pub greatest_value : Flag → ℕ
greatest_value Iface = 65535
greatest_value Weight = 16777215
greatest_value flag = 4294967295

abbrev pub within_range : Flag → ℕ → Option ℕ
within_range flag n = if nat_le (least_value flag) n && nat_le n (greatest_value flag) then Some n else None

-- the number of an option's range that a word writes
abbrev pub value_of : Flag → List ℕ → Option ℕ
value_of flag word = option_and_then (within_range flag) (number_of word)
