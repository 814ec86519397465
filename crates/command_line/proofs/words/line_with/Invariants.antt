-- The words so far, behind the program's name.
use Rattle.std.proofs.Common.{◌≡◌, map, take, string_bytes}
use Rattle.command_line.specs.Words.{line_of}
use Rattle.command_line.proofs.words.line_with.Given as goal

abbrev pub invariant-loop-word : goal.invariant-loop-word
invariant-loop-word l = map (λ word. word.now) l.line.items ≡ line_of (map string_bytes (take l.word-index l.words))
