-- The texts of `check` and `show`.
use Rattle.std.specs.Prelude.{ℕ, List, ◌++◌, length, codes, decimal}
use Rattle.route_lang.specs.Script.{Reading}

-- a script that was read: how many lines its text has, and how many of them ask for something
abbrev pub checked_text : Reading → ℕ → List ℕ
checked_text script lines =
    codes "ok " ++ (decimal lines ++ (codes " lines " ++ (decimal (length script.lines) ++ codes " commands\n")))
