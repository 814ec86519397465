-- Limits of a script.
use Rattle.std.specs.Prelude.{ℕ}

-- how many bytes a script may have
abbrev pub input_limit : ℕ
input_limit = 67108864

-- how many lines a script may have, blank lines and comments too
abbrev pub lines_limit : ℕ
lines_limit = 1048576

-- how many bytes a line may have without its end
abbrev pub line_limit : ℕ
line_limit = 255
