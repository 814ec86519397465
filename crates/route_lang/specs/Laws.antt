-- Laws of the script grammar, on lines with their numbers.
use Rattle.std.specs.Prelude.{◌≡◌, ◌⊎◌, ℕ, List, ◌∷◌, ◌++◌, None, Ok, Err, All}
use Rattle.rib_store.specs.declared.command.Command.{Command}
use Rattle.route_lang.specs.Grammar.{asked_for}
use Rattle.route_lang.specs.Script.{Reading, script_from}
use Rattle.route_lang.specs.declared.fault.LineFault.{LineFault}
use Rattle.route_lang.specs.declared.line.Line.{Line}

-- whatever is behind the first faulty line changes nothing
abbrev pub FirstFaultDecides : Type 0
FirstFaultDecides = (lines later : List (ℕ × List ℕ)) (fault : LineFault) → script_from lines ≡ Err fault → script_from (lines ++ later) ≡ Err fault

-- a line that is blank or a comment may be taken out
abbrev pub SkippedLineIsNone : Type 0
SkippedLineIsNone =
    (before after : List (ℕ × List ℕ)) (number : ℕ) (text : List ℕ) → asked_for number text ≡ Ok None
    → script_from (before ++ (number, text) ∷ after) ≡ script_from (before ++ after)

-- a script begins with that of its first lines, and has its profile unless each of them is blank or a comment
pub record BeginsWith (first : List (ℕ × List ℕ)) (whole : Reading) : Type 0 where
  pub script : Reading
  pub read : script_from first ≡ Ok script
  pub more : List (Command 32)
  pub more6 : List (Command 128)
  pub later : List Line
  pub inet : whole.inet.commands ≡ script.inet.commands ++ more
  pub inet6 : whole.inet6.commands ≡ script.inet6.commands ++ more6
  pub lines : whole.lines ≡ script.lines ++ later
  pub profile : All (λ here. asked_for here.0 here.1 ≡ Ok None) first ⊎ (whole.profile ≡ script.profile)

-- a text and the same with more lines agree on the lines before
abbrev pub LinesBeforeAgree : Type 0
LinesBeforeAgree = (lines later : List (ℕ × List ℕ)) (whole : Reading) → script_from (lines ++ later) ≡ Ok whole → BeginsWith lines whole
