-- The canonical spelling: the one line of text that is written of each line of a script.
use Rattle.std.specs.Prelude.{◌≡◌, ℕ, ◌+◌, ◌==◌, ◌≤◌, List, [], ◌∷◌, ◌++◌, length, Option, Some, None, Ok, slice_get, codes, decimal, if◌then◌else◌}
use Rattle.std.specs.List.{flat_map}
use Rattle.prefix_width.specs.Prefix.{Block}
use Rattle.prefix_width.specs.Path.{WeightedHop}
use Rattle.prefix_width.specs.declared.nexthop.NhKind.{NhKind}
use Rattle.prefix_width.specs.declared.nexthop.NhKind.TheVariants as kind
use Rattle.prefix_width.specs.declared.module.Kind.TheVariants.{Scan, Range, Radix, Dxr}
use Rattle.prefix_width.specs.declared.module.Setting.{Setting}
use Rattle.prefix_width.specs.declared.module.Setting.TheVariants.{Auto, Fixed}
use Rattle.addr_text.specs.Address.{address_text}
use Rattle.addr_text.specs.PrefixText.{prefix_text}
use Rattle.rib_store.specs.declared.command.Command.{Command}
use Rattle.rib_store.specs.declared.command.Command.TheVariants as command
use Rattle.rib_store.specs.Profile.{keeps}
use Rattle.route_lang.specs.Script.{Reading, script_of}
use Rattle.route_lang.specs.declared.line.Line.{Line}
use Rattle.route_lang.specs.declared.line.Line.TheVariants.{Change, Quiet, Get4, Get6}
use Rattle.route_lang.specs.Limits.{input_limit}

-- ---- words of a command

abbrev pub family_word : ℕ → List ℕ
family_word w = if w == 32 then codes "-inet" else codes "-inet6"

-- an option and its value, left out where the value is what holds without the option
abbrev pub option_words : List ℕ → ℕ → ℕ → List (List ℕ)
option_words option absent n = if n == absent then [] else option ∷ decimal n ∷ []

-- interface, MTU and weight
abbrev pub setting_words : WeightedHop → List (List ℕ)
setting_words p = option_words (codes "-if") 0 p.nexthop.iface ++ (option_words (codes "-mtu") 0 p.nexthop.mtu ++ option_words (codes "-weight") 1 p.weight)

abbrev pub target_words : ℕ → NhKind → WeightedHop → List (List ℕ)
target_words w kind.Via p = address_text w p.nexthop.gateway ∷ setting_words p
target_words w kind.Direct p = setting_words p
target_words w kind.Blackhole p = codes "-blackhole" ∷ []
target_words w kind.Reject p = codes "-reject" ∷ []

abbrev pub route_words : ℕ → Block → WeightedHop → List (List ℕ)
route_words w b p = family_word w ∷ prefix_text w b ∷ target_words w p.nexthop.kind p

abbrev pub gateway_words : ℕ → Option ℕ → List (List ℕ)
gateway_words w None = []
gateway_words w (Some gateway) = address_text w gateway ∷ []

abbrev pub module_word : Setting → List ℕ
module_word Auto = codes "auto"
module_word (Fixed Scan) = codes "scan"
module_word (Fixed Range) = codes "range"
module_word (Fixed Radix) = codes "radix"
module_word (Fixed Dxr) = codes "dxr"

abbrev pub command_words : {w : ℕ} → Command w → List (List ℕ)
command_words {w} (command.Add b p) = codes "add" ∷ route_words w b p
command_words {w} (command.Change b p) = codes "change" ∷ route_words w b p
command_words {w} (command.Delete b gateway) = codes "delete" ∷ family_word w ∷ prefix_text w b ∷ gateway_words w gateway
command_words {w} command.Flush = codes "flush" ∷ family_word w ∷ []
command_words {w} (command.Tick ms) = codes "tick" ∷ decimal ms ∷ []
command_words {w} command.Sync = codes "sync" ∷ []
command_words {w} (command.Algo setting) = codes "algo" ∷ family_word w ∷ module_word setting ∷ []

-- a command of both families
abbrev pub shared_words : Command 32 → List (List ℕ)
shared_words command.Flush = codes "flush" ∷ []
shared_words c = command_words c

abbrev pub get_words : ℕ → ℕ → ℕ → List (List ℕ)
get_words w a flow = codes "get" ∷ family_word w ∷ address_text w a ∷ option_words (codes "flow") 0 flow

-- ---- words of a line

abbrev pub words_if : {A : Type 0} → (A → List (List ℕ)) → Option A → List (List ℕ)
words_if words None = []
words_if words (Some x) = words x

-- the words of the command that stands at these positions of the plans
abbrev pub words_at : Reading → Option ℕ → Option ℕ → List (List ℕ)
words_at script (Some pos) None = words_if command_words (slice_get script.inet.commands pos)
words_at script None (Some pos) = words_if command_words (slice_get script.inet6.commands pos)
words_at script (Some pos) (Some pos6) = words_if shared_words (slice_get script.inet.commands pos)
words_at script None None = []

abbrev pub line_words : Reading → Line → List (List ℕ)
line_words script (Change number inet inet6) = words_at script inet inet6
line_words script (Quiet number inet inet6) = words_at script inet inet6
line_words script (Get4 number a flow at) = get_words 32 a flow
line_words script (Get6 number a flow at) = get_words 128 a flow

-- ---- text

-- the line of the profile, which is left out where it is 1
abbrev pub profile_text : ℕ → List ℕ
profile_text profile = if keeps profile then codes "profile 2" ++ 10 ∷ [] else []

-- the words with a space before each
abbrev pub spaced : List (List ℕ) → List ℕ
spaced [] = []
spaced (word ∷ words) = (32 ∷ word) ++ spaced words

-- the words with a space between each two
abbrev pub joined : List (List ℕ) → List ℕ
joined [] = []
joined (word ∷ words) = word ++ spaced words

-- a line and its line feed
abbrev pub spelled_line : Reading → Line → List ℕ
spelled_line script line = joined (line_words script line) ++ 10 ∷ []

-- the line of a number, counted from 0
abbrev pub spelled_at : Reading → Option Line → List ℕ
spelled_at script None = []
spelled_at script (Some line) = spelled_line script line

-- the profile and all lines in their order
abbrev pub spelled : Reading → List ℕ
spelled script = profile_text script.profile ++ flat_map (spelled_line script) script.lines

-- ---- the law of the spelled text

-- the line with this number
abbrev pub numbered : ℕ → Line → Line
numbered n (Change number inet inet6) = Change n inet inet6
numbered n (Quiet number inet inet6) = Quiet n inet inet6
numbered n (Get4 number a flow at) = Get4 n a flow at
numbered n (Get6 number a flow at) = Get6 n a flow at

-- the lines, numbered in turn from this number on
abbrev pub numbered_from : ℕ → List Line → List Line
numbered_from n [] = []
numbered_from n (line ∷ lines) = numbered n line ∷ numbered_from (n + 1) lines

-- the script with its lines numbered in turn: from 1 on in profile 1, and from 2 on in profile 2, whose line comes first
abbrev pub renumbered : Reading → Reading
renumbered script = record script { lines = numbered_from script.profile script.lines }

-- the spelled text of a script, where a script may be so long, reads as it with its lines numbered in turn
abbrev pub ShownTextReadsBack : Type 0
ShownTextReadsBack = (bytes : List ℕ) (script : Reading) → script_of bytes ≡ Ok script → length (spelled script) ≤ input_limit → script_of (spelled script) ≡ Ok (renumbered script)
