-- How the generator goes over its lines. No public clause cites this; that it agrees with the definition is proved.
use Rattle.std.specs.Prelude.{ℕ, zero, suc, ◌+◌, ◌%◌, ◌==◌, nat_lt, List, [], ◌++◌, None, if◌then◌else◌}
use Rattle.rib_store.specs.declared.command.Command.TheVariants as command
use Rattle.route_lang.specs.Generator.{draw, state_after, drawn_prefix, drawn_path}
use Rattle.route_lang.specs.Reader.Lines.{plans_behind, entries_of, no_plans}
use Rattle.route_lang.specs.Script.{Reading}
use Rattle.route_lang.specs.declared.asked.Asked.{Asked}
use Rattle.route_lang.specs.declared.asked.Asked.TheVariants.{Inet, Both, Get4}
use Rattle.route_lang.specs.declared.asked.Shared.TheVariants as shared
use Rattle.route_lang.specs.declared.line.Line.{Line}
use Rattle.route_lang.specs.declared.script.Plans.{Plans}

-- what a line asks for, and how many numbers are drawn for it
pub record AskedDraw : Type 0 where
  pub asked : Asked
  pub draws : ℕ

-- the line behind a state: of sixteen, eight add, one changes, one deletes, one lets time pass, and five look up
abbrev pub asked_line : ℕ → AskedDraw
asked_line x =
    let kind = draw 1 x % 16 in
    if nat_lt kind 8 then record { asked = Inet (command.Add (drawn_prefix (draw 2 x) (draw 3 x)) (drawn_path (draw 4 x))); draws = 4 }
    else if kind == 8 then record { asked = Inet (command.Change (drawn_prefix (draw 2 x) (draw 3 x)) (drawn_path (draw 4 x))); draws = 4 }
    else if kind == 9 then record { asked = Inet (command.Delete (drawn_prefix (draw 2 x) (draw 3 x)) None); draws = 3 }
    else if kind == 10 then record { asked = Both (shared.Tick 10); draws = 1 }
    else record { asked = Get4 (167772160 + draw 2 x % 16777216) (draw 3 x); draws = 3 }

-- these lines before those of a script
abbrev pub led_by : List Line → Reading → Reading
led_by front below = record below { lines = front ++ below.lines }

-- so many lines from number `at` on, behind these plans and a state
abbrev pub generated_from : ℕ → ℕ → Plans → ℕ → Reading
generated_from zero at plans x = record { inet = plans.inet; inet6 = plans.inet6; lines = []; profile = plans.inet.profile }
generated_from (suc n) at plans x =
    let line = asked_line x in
    led_by (entries_of at plans line.asked) (generated_from n (at + 1) (plans_behind plans line.asked) (state_after line.draws x))

-- the script of so many lines that a seed gives, line by line
abbrev pub script_drawn : ℕ → ℕ → Reading
script_drawn seed count = generated_from count 1 no_plans seed
