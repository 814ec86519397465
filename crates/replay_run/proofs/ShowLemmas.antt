-- The spelling of the lines in turn.
use Rattle.std.proofs.Common.{◌≡◌, ◌∙◌, ℕ, ◌+◌, ◌<◌, List, ◌++◌, Some, length, drop, get_or, ap, sym}
use Rattle.std.specs.List.{flat_map, slice_get}
use Rattle.std.proofs.lemmas.Option.{slice_get-get_or}
use Rattle.route_lang.specs.declared.line.Line.{Line}
use Rattle.route_lang.specs.declared.line.Line.TheVariants.{Get4}
use Rattle.route_lang.specs.Script.{Reading}
use Rattle.route_lang.specs.Spelling.{spelled_line, spelled_at}
use Rattle.replay_run.proofs.ReplayLemmas.{lines_from_place, written}

-- the line at a place is written before those behind it
pub shown_on : (script : Reading) (i : ℕ) (before after whole : List ℕ) → i < length script.lines
    → after ≡ before ++ spelled_at script (slice_get script.lines i)
    → before ++ flat_map (spelled_line script) (drop i script.lines) ≡ whole
    → after ++ flat_map (spelled_line script) (drop (i + 1) script.lines) ≡ whole
shown_on script i before after whole inside out h =
    let line : Line = get_or script.lines i (Get4 0 0 0 0) in
    let here : slice_get script.lines i ≡ Some line = slice_get-get_or script.lines i (Get4 0 0 0 0) inside in
    written (spelled_line script) before after (spelled_at script (slice_get script.lines i)) whole line (drop (i + 1) script.lines) out (ap (spelled_at script) here)
    (ap (λ lines. before ++ flat_map (spelled_line script) lines) (sym (lines_from_place script.lines i line here)) ∙ h)
