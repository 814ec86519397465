-- The grammar of a line: options, commands, and what the words of a line ask for, or the first reason against them.
use Rattle.std.specs.Prelude.{ℕ, ◌==◌, ◌||◌, ◌&&◌, not, nat_lt, nat_le, Bool, true, false, List, [], ◌∷◌, ◌++◌, length, Option, Some, None, is_some, option_map, option_and_then, unwrap_or, Result, Ok, Err, slice_get, slice_index, bytes_eq, codes, if◌then◌else◌}
use Rattle.std.specs.List.{cons_option, filter_map, find, list_all, list_any}
use Rattle.prefix_width.specs.Prefix.{Block}
use Rattle.prefix_width.specs.Path.{WeightedHop}
use Rattle.prefix_width.specs.declared.nexthop.NhKind.{NhKind}
use Rattle.prefix_width.specs.declared.nexthop.NhKind.TheVariants as kind
use Rattle.prefix_width.specs.declared.module.Kind.TheVariants.{Scan, Range, Radix, Dxr}
use Rattle.prefix_width.specs.declared.module.Setting.{Setting}
use Rattle.prefix_width.specs.declared.module.Setting.TheVariants.{Auto, Fixed}
use Rattle.addr_text.specs.Address.{address_of}
use Rattle.addr_text.specs.Number.{number_of}
use Rattle.addr_text.specs.PrefixText.{block_of, is_slash}
use Rattle.rib_store.specs.declared.command.Command.{Command}
use Rattle.rib_store.specs.declared.command.Command.TheVariants as command
use Rattle.route_lang.specs.Limits.{lines_limit, line_limit}
use Rattle.route_lang.specs.Request.{Request, OfInet, OfInet6, OfBoth, LookUp, LookUp6, OfProfile, Flush, Tick, Sync}
use Rattle.route_lang.specs.Text.{is_blank, words_of}
use Rattle.route_lang.specs.declared.fault.Reason.{Reason}
use Rattle.route_lang.specs.declared.fault.Reason.TheVariants.{TooManyLines, LineTooLong, BadByte, UnknownCommand, UnknownOption, Repeated, MissingWord, BadNumber, ExtraWord, BadAddress, BadLength, NoTarget, NoModule}

-- ---- reasons in turn: what comes next, unless there is a reason already
infixl 10 ◌>>=◌
abbrev pub ◌>>=◌ : {A B : Type 0} → Result A Reason → (A → Result B Reason) → Result B Reason
(Ok x) >>= f = f x
(Err reason) >>= f = Err reason

-- what is there, or the reason why it is wanted
abbrev pub or_reason : {A : Type 0} → Reason → Option A → Result A Reason
or_reason reason None = Err reason
or_reason reason (Some x) = Ok x

-- what there is, unless a fault is found
abbrev pub unless_faulty : {A E : Type 0} → Option E → Result A E → Result A E
unless_faulty None made = made
unless_faulty (Some fault) made = Err fault

-- ---- options: the least and the greatest of the numbers that one takes
pub record Numbers : Type 0 where
  pub least : ℕ
  pub most : ℕ

-- an option: its word, of what it tells, and the numbers that its value may have, if it takes one.
-- Options that tell of the same exclude one another.
pub record OptionRow : Type 0 where
  pub word : List ℕ
  pub about : List ℕ
  pub value : Option Numbers

abbrev pub plain : List ℕ → List ℕ → OptionRow
plain word about = record { word = word; about = about; value = None }

abbrev pub valued : List ℕ → ℕ → ℕ → OptionRow
valued word least most = record { word = word; about = word; value = Some (record { least = least; most = most }) }

abbrev pub family_options : List OptionRow
family_options = plain (codes "-inet") (codes "family") ∷ plain (codes "-inet6") (codes "family") ∷ []

abbrev pub extent_options : List OptionRow
extent_options = plain (codes "-net") (codes "extent") ∷ plain (codes "-host") (codes "extent") ∷ []

abbrev pub path_options : List OptionRow
path_options =
    valued (codes "-if") 1 65535 ∷ valued (codes "-mtu") 1 4294967295 ∷ valued (codes "-weight") 1 16777215
    ∷ plain (codes "-blackhole") (codes "discard") ∷ plain (codes "-reject") (codes "discard") ∷ []

-- ---- the words behind a command: a bare word, an option with the word behind it if it takes a value, or an option that the command hasn't
pub data Part : Type 0 where
  Bare : (word : List ℕ) → Part
  Given : (option : OptionRow) (value : Option (List ℕ)) → Part
  Unknown : Part

abbrev pub begins_with_dash : List ℕ → Bool
begins_with_dash word = slice_index word 0 == 45

-- the option of these that a word names
abbrev pub option_named : List OptionRow → List ℕ → Option OptionRow
option_named options word = find (λ (option : OptionRow). bytes_eq word option.word) options

-- a word that names none of the command's options
abbrev pub other_part : List ℕ → Part
other_part word = if begins_with_dash word then Unknown else Bare word

abbrev pub last_part : List ℕ → Option OptionRow → Part
last_part word None = other_part word
last_part word (Some option) = Given option None

-- an option with a word behind it, which is its value if it takes one
abbrev pub given_parts : OptionRow → List ℕ → Option Numbers → List Part → List Part → List Part
given_parts option next None from_next behind = Given option None ∷ from_next
given_parts option next (Some numbers) from_next behind = Given option (Some next) ∷ behind

abbrev pub word_parts : List ℕ → List ℕ → Option OptionRow → List Part → List Part → List Part
word_parts word next None from_next behind = other_part word ∷ from_next
word_parts word next (Some option) from_next behind = given_parts option next option.value from_next behind

-- the parts that words are, for a command with these options
abbrev pub parts_of : List OptionRow → List (List ℕ) → List Part
parts_of options [] = []
parts_of options (word ∷ []) = last_part word (option_named options word) ∷ []
parts_of options (word ∷ next ∷ words) =
    word_parts word next (option_named options word) (parts_of options (next ∷ words)) (parts_of options words)

-- ---- what parts tell
abbrev pub bare_in : Part → Option (List ℕ)
bare_in (Bare word) = Some word
bare_in part = None

abbrev pub bare_words : List Part → List (List ℕ)
bare_words parts = filter_map bare_in parts

-- an option that tells of this, with its value
abbrev pub telling : List ℕ → Part → Option (OptionRow × Option (List ℕ))
telling about (Given option value) = if bytes_eq option.about about then Some (option, value) else None
telling about part = None

-- the option among parts that tells of this, with its value
abbrev pub told : List ℕ → List Part → Option (OptionRow × Option (List ℕ))
told about parts = slice_get (filter_map (telling about) parts) 0

-- whether it is the option of this word
abbrev pub is_by : List ℕ → Option (OptionRow × Option (List ℕ)) → Bool
is_by word None = false
is_by word (Some t) = bytes_eq t.0.word word

-- the number that it has as its value
abbrev pub number_by : Option (OptionRow × Option (List ℕ)) → Option ℕ
number_by None = None
number_by (Some t) = option_and_then number_of t.1

-- ---- reasons against parts
abbrev pub is_in : Numbers → Option ℕ → Bool
is_in numbers None = false
is_in numbers (Some n) = nat_le numbers.least n && nat_le n numbers.most

abbrev pub value_fault : Option Numbers → Option (List ℕ) → Option Reason
value_fault None value = None
value_fault (Some numbers) None = Some MissingWord
value_fault (Some numbers) (Some word) = if is_in numbers (number_of word) then None else Some BadNumber

-- the reason against a part behind these, for a command with so many bare words at most
abbrev pub part_fault : ℕ → List Part → Part → Option Reason
part_fault most earlier (Bare word) = if nat_lt (length (bare_words earlier)) most then None else Some ExtraWord
part_fault most earlier (Given option value) = if is_some (told option.about earlier) then Some Repeated else value_fault option.value value
part_fault most earlier Unknown = Some UnknownOption

-- those against parts behind these, in their order
abbrev pub faults_behind : ℕ → List Part → List Part → List Reason
faults_behind most earlier [] = []
faults_behind most earlier (part ∷ later) = cons_option (part_fault most earlier part) (faults_behind most (earlier ++ part ∷ []) later)

-- ---- destination and path: whether a destination is an address alone
abbrev pub is_alone : List ℕ → Bool
is_alone word = not (bytes_eq word (codes "default") || list_any is_slash word)

-- whether `-net` or `-host` agrees with the destination that a word writes
abbrev pub extent_agrees : ℕ → Option (OptionRow × Option (List ℕ)) → List ℕ → Block → Bool
extent_agrees w extent word b =
    if is_by (codes "-net") extent then not (is_alone word)
    else if is_by (codes "-host") extent then b.len == w
    else true

abbrev pub with_extent : ℕ → Option (OptionRow × Option (List ℕ)) → List ℕ → Block → Result Block Reason
with_extent w extent word b = if extent_agrees w extent word b then Ok b else Err BadLength

-- the destination, which is the first bare word
abbrev pub destination_in : ℕ → List Part → Result Block Reason
destination_in w parts =
    or_reason MissingWord (slice_get (bare_words parts) 0)
    >>= (λ word. or_reason BadAddress (block_of w word) >>= with_extent w (told (codes "extent") parts) word)

abbrev pub gateway_by : ℕ → Option (List ℕ) → Result (Option ℕ) Reason
gateway_by w None = Ok None
gateway_by w (Some word) = or_reason BadAddress (option_map Some (address_of w word))

-- the gateway, which is the second, where there is one
abbrev pub gateway_in : ℕ → List Part → Result (Option ℕ) Reason
gateway_in w parts = gateway_by w (slice_get (bare_words parts) 1)

-- a path that drops packets
abbrev pub dropping : NhKind → WeightedHop
dropping k = record { nexthop = record { kind = k; gateway = 0; iface = 0; mtu = 0 }; weight = 1 }

-- a path to a gateway or, without one, to the destination itself on an interface
abbrev pub leading : Option ℕ → Option ℕ → ℕ → ℕ → Result WeightedHop Reason
leading (Some gateway) iface mtu weight =
    Ok (record { nexthop = record { kind = kind.Via; gateway = gateway; iface = unwrap_or iface 0; mtu = mtu }; weight = weight })
leading None (Some iface) mtu weight =
    Ok (record { nexthop = record { kind = kind.Direct; gateway = 0; iface = iface; mtu = mtu }; weight = weight })
leading None None mtu weight = Err NoTarget

-- the path that what is told and the gateway give
abbrev pub path_by_told : Option (OptionRow × Option (List ℕ)) → Option ℕ → Option ℕ → Option ℕ → Option ℕ → Result WeightedHop Reason
path_by_told discard iface mtu weight gateway =
    if is_by (codes "-blackhole") discard then Ok (dropping kind.Blackhole)
    else if is_by (codes "-reject") discard then Ok (dropping kind.Reject)
    else leading gateway iface (unwrap_or mtu 0) (unwrap_or weight 1)

abbrev pub path_in : ℕ → List Part → Result WeightedHop Reason
path_in w parts =
    gateway_in w parts
    >>= path_by_told (told (codes "discard") parts) (number_by (told (codes "-if") parts)) (number_by (told (codes "-mtu") parts)) (number_by (told (codes "-weight") parts))

-- ---- commands
abbrev pub is_of_inet6 : List Part → Bool
is_of_inet6 parts = is_by (codes "-inet6") (told (codes "family") parts)

-- the command of the family that an option gives, inet without one
abbrev pub of_family : List Part → Result (Command 32) Reason → Result (Command 128) Reason → Result Request Reason
of_family parts inet inet6 = if is_of_inet6 parts then inet6 >>= (λ c. Ok (OfInet6 c)) else inet >>= (λ c. Ok (OfInet c))

-- what `add` and `change` make of a destination and a path
abbrev pub routed : (w : ℕ) → (Block → WeightedHop → Command w) → List Part → Result (Command w) Reason
routed w command parts = destination_in w parts >>= (λ b. path_in w parts >>= (λ p. Ok (command b p)))

abbrev pub deleted : (w : ℕ) → List Part → Result (Command w) Reason
deleted w parts = destination_in w parts >>= (λ b. gateway_in w parts >>= (λ g. Ok (command.Delete b g)))

-- the module that a word names; dxr is for 32 bits alone
abbrev pub setting_of : ℕ → List ℕ → Option Setting
setting_of w word =
    if bytes_eq word (codes "auto") then Some Auto
    else if bytes_eq word (codes "scan") then Some (Fixed Scan)
    else if bytes_eq word (codes "range") then Some (Fixed Range)
    else if bytes_eq word (codes "radix") then Some (Fixed Radix)
    else if bytes_eq word (codes "dxr") && w == 32 then Some (Fixed Dxr)
    else None

abbrev pub module_set : (w : ℕ) → List Part → Result (Command w) Reason
module_set w parts =
    or_reason MissingWord (slice_get (bare_words parts) 0)
    >>= (λ word. or_reason NoModule (setting_of w word)) >>= (λ s. Ok (command.Algo s))

abbrev pub address_in : ℕ → List Part → Result ℕ Reason
address_in w parts = or_reason MissingWord (slice_get (bare_words parts) 0) >>= (λ word. or_reason BadAddress (address_of w word))

abbrev pub looked_up : List Part → Result Request Reason
looked_up parts =
    if is_of_inet6 parts then address_in 128 parts >>= (λ a. Ok (LookUp6 a (unwrap_or (number_by (told (codes "flow") parts)) 0)))
    else address_in 32 parts >>= (λ a. Ok (LookUp a (unwrap_or (number_by (told (codes "flow") parts)) 0)))

-- a flush without a family is of both
abbrev pub flushed : List Part → Result Request Reason
flushed parts = if is_some (told (codes "family") parts) then of_family parts (Ok command.Flush) (Ok command.Flush) else Ok (OfBoth Flush)

abbrev pub ticked : List Part → Result Request Reason
ticked parts = or_reason MissingWord (slice_get (bare_words parts) 0) >>= (λ word. or_reason BadNumber (number_of word) >>= (λ ms. Ok (OfBoth (Tick ms))))

abbrev pub profiled : List Part → Result Request Reason
profiled parts =
    or_reason MissingWord (slice_get (bare_words parts) 0)
    >>= (λ word. if bytes_eq word (codes "1") then Ok (OfProfile 1) else if bytes_eq word (codes "2") then Ok (OfProfile 2) else Err BadNumber)

-- a command: its word, how many bare words it has at most, its options, and what its parts ask for where none is faulty
pub record CommandRow : Type 0 where
  pub word : List ℕ
  pub most : ℕ
  pub options : List OptionRow
  pub asks : List Part → Result Request Reason

abbrev pub row : List ℕ → ℕ → List OptionRow → (List Part → Result Request Reason) → CommandRow
row word most options asks = record { word = word; most = most; options = options; asks = asks }

abbrev pub command_rows : List CommandRow
command_rows =
    row (codes "add") 2 (family_options ++ (extent_options ++ path_options)) (λ parts. of_family parts (routed 32 command.Add parts) (routed 128 command.Add parts))
    ∷ row (codes "change") 2 (family_options ++ (extent_options ++ path_options)) (λ parts. of_family parts (routed 32 command.Change parts) (routed 128 command.Change parts))
    ∷ row (codes "delete") 2 (family_options ++ extent_options) (λ parts. of_family parts (deleted 32 parts) (deleted 128 parts))
    ∷ row (codes "get") 1 (family_options ++ valued (codes "flow") 0 4294967295 ∷ []) looked_up
    ∷ row (codes "flush") 0 family_options flushed
    ∷ row (codes "tick") 1 [] ticked
    ∷ row (codes "sync") 0 [] (λ parts. Ok (OfBoth Sync))
    ∷ row (codes "algo") 1 family_options (λ parts. of_family parts (module_set 32 parts) (module_set 128 parts))
    ∷ row (codes "profile") 1 [] profiled
    ∷ []

-- ---- the line: a byte of one that is no comment
abbrev pub is_taken : ℕ → Bool
is_taken byte = is_blank byte || (nat_le 33 byte && nat_le byte 126)

-- whether a line with this first word is a comment
abbrev pub is_comment : List ℕ → Bool
is_comment word = slice_index word 0 == 35

-- `-n` and `-q`, which route(8) takes before its command
abbrev pub is_ignored : List ℕ → Bool
is_ignored word = bytes_eq word (codes "-n") || bytes_eq word (codes "-q")

abbrev pub behind_ignored : List (List ℕ) → List (List ℕ)
behind_ignored [] = []
behind_ignored (word ∷ words) = if is_ignored word then behind_ignored words else word ∷ words

-- the words from the command word on: a first word `route` is skipped, and what is ignored behind it
abbrev pub from_command : List (List ℕ) → List (List ℕ)
from_command [] = []
from_command (word ∷ words) = if bytes_eq word (codes "route") then behind_ignored words else word ∷ words

-- the words behind a command: the first reason against one of their parts, else what they ask for
abbrev pub row_asks : List (List ℕ) → CommandRow → Result Request Reason
row_asks words row =
    unless_faulty (slice_get (faults_behind row.most [] (parts_of row.options words)) 0) (row.asks (parts_of row.options words))

abbrev pub command_asks : List (List ℕ) → Result Request Reason
command_asks [] = Err MissingWord
command_asks (word ∷ words) = or_reason UnknownCommand (find (λ (row : CommandRow). bytes_eq word row.word) command_rows) >>= row_asks words

-- the words of a line that is not too long
abbrev pub words_ask : List ℕ → List (List ℕ) → Result (Option Request) Reason
words_ask line [] = Ok None
words_ask line (first ∷ words) =
    if is_comment first then Ok None
    else if list_all is_taken line then command_asks (from_command (first ∷ words)) >>= (λ request. Ok (Some request))
    else Err BadByte

-- what the line of a number asks for, nothing where it is blank or a comment; or the first reason against it
abbrev pub asked_for : ℕ → List ℕ → Result (Option Request) Reason
asked_for number line =
    if nat_lt lines_limit number then Err TooManyLines
    else if nat_lt line_limit (length line) then Err LineTooLong
    else words_ask line (words_of line)
