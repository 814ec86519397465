-- The command line `fibrun MODE [--workers N] [--seed N] [--count N]`.
use Rattle.std.specs.Prelude.{◌≡◌, ◌≤◌, ℕ, Bool, true, false, pos, List, ◌∷◌, Option, Some, None, Result, Ok, Err, codes, if◌then◌else◌, option_map, option_and_then, unwrap_or, bytes_eq}
use Rattle.std.specs.Str.Parse.{IsNumeral, digits_value, without_leading_plus}
use Rattle.clap.specs.Walk.{is_empty}
use Rattle.clap.specs.Simple.{on_top}
use Rattle.clap.specs.Words.{App, Rule, Row, new_app, new_rule, with_rule, fault_of, matches_of, first_of, one_of}
use Rattle.clap.specs.declared.builder.value_parser.ValueParser.TheVariants as vp
use Rattle.command_line.specs.declared.request.Mode.{Mode}
use Rattle.command_line.specs.declared.request.Mode.TheVariants.{Replay, Check, Show, Gen}
use Rattle.command_line.specs.declared.request.Request.{Request}
use Rattle.command_line.specs.declared.words.WordsError.{WordsError}
use Rattle.command_line.specs.declared.words.WordsError.TheVariants.{Usage, OutOfMemory}

-- ---- the command, in clap's own terms

-- the one positional, which must be given
abbrev pub mode_rule : Rule
mode_rule = record (new_rule (codes "mode")) { required = true }

-- an option `--NAME N` with a number from low to high
abbrev pub number_rule : List ℕ → ℕ → ℕ → Rule
number_rule name low high = record (new_rule name) {
  long = Some name;
  parser = Some (vp.Signed (pos low) (pos high));
}

-- the program, without the flag that clap adds to every command
abbrev pub no_flags : App
no_flags = on_top (λ s. record s { disable_help_flag = true }) (new_app (codes "fibrun"))

abbrev pub fibrun : App
fibrun = with_rule (with_rule (with_rule (with_rule no_flags
    mode_rule)
    (number_rule (codes "workers") 1 64))
    (number_rule (codes "seed") 0 4294967295))
    (number_rule (codes "count") 1 1048576)

-- ---- what a line asks

-- the program's name, followed by the words
abbrev pub line_of : List (List ℕ) → List (List ℕ)
line_of words = codes "fibrun" ∷ words

-- clap's definition takes the line
abbrev pub is_taken : List (List ℕ) → Bool
is_taken line = is_empty (fault_of fibrun line)

abbrev pub mode_of : List ℕ → Option Mode
mode_of text = if bytes_eq text (codes "replay") then Some Replay
    else (if bytes_eq text (codes "check") then Some Check
    else (if bytes_eq text (codes "show") then Some Show
    else (if bytes_eq text (codes "gen") then Some Gen else None)))

-- the number that decimal digits write, behind a plus or not
abbrev pub number_of : List ℕ → ℕ
number_of text = digits_value 10 (without_leading_plus text)

-- the number of an option, where it is given
abbrev pub number_at : List ℕ → List Row → Option ℕ
number_at name rows = option_map number_of (one_of name rows)

-- what is asked in a mode
abbrev pub asked : List Row → Mode → Request
asked rows mode = record {
  mode = mode;
  workers = number_at (codes "workers") rows;
  seed = unwrap_or (number_at (codes "seed") rows) 1;
  count = unwrap_or (number_at (codes "count") rows) 10000;
}

-- what is asked by what was found, where the mode's text is one of the four
abbrev pub request_in : List Row → Option Request
request_in rows = option_map (asked rows) (option_and_then mode_of (first_of (codes "mode") rows))

abbrev pub request_of_line : List (List ℕ) → Option Request
request_of_line line = if is_taken line then request_in (matches_of fibrun line) else None

-- what the words ask: they are taken where clap's definition takes `fibrun` and the words, and the
-- mode's text is one of the four
abbrev pub request_of : List (List ℕ) → Option Request
request_of words = request_of_line (line_of words)

-- the answer is what is asked, and Usage where nothing is; want of memory may come at any time
abbrev pub Gives : Result Request WordsError → Option Request → Type 0
Gives (Ok request) asked = asked ≡ Some request
Gives (Err Usage) asked = asked ≡ None
Gives (Err OutOfMemory) asked = Unit {0}

-- ---- what clap finds in a line that it takes

abbrev pub IsBetween : ℕ → ℕ → ℕ → Type 0
IsBetween low high n = (low ≤ n) × (n ≤ high)

-- an option that is given has a number in its range
abbrev pub IsNumberIn : ℕ → ℕ → Option (List ℕ) → Type 0
IsNumberIn low high None = Unit {0}
IsNumberIn low high (Some text) = IsNumeral 10 (without_leading_plus text) × IsBetween low high (number_of text)

pub record HasNumbers (rows : List Row) : Type 0 where
  pub workers : IsNumberIn 1 64 (one_of (codes "workers") rows)
  pub seed : IsNumberIn 0 4294967295 (one_of (codes "seed") rows)
  pub count : IsNumberIn 1 1048576 (one_of (codes "count") rows)

module _ {V : Type 0} (rows_in : V → List Row) where
  -- what is found in the line is what clap's definition finds in it, where it takes the line
  abbrev pub FindsBy : Result V WordsError → List (List ℕ) → Type 0
  FindsBy (Ok found) line = (is_taken line ≡ true) × (rows_in found ≡ matches_of fibrun line)
  FindsBy (Err Usage) line = is_taken line ≡ false
  FindsBy (Err OutOfMemory) line = Unit {0}
