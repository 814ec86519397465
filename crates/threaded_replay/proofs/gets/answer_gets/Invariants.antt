-- The fibs' own names.
use Rattle.std.proofs.Common.{length}
use Rattle.threaded_replay.proofs.gets.answer_gets.Given as goal

abbrev pub ghosts-answer_named-A-Naming : goal.ghosts-answer_named-A-Naming
ghosts-answer_named-A-Naming g a = record { table = a.fibs.inet.publisher.table; plan = a.fibs.inet.publisher.key; readers = length a.fibs.inet.passes.items }

abbrev pub ghosts-answer_named-B-Naming : goal.ghosts-answer_named-B-Naming
ghosts-answer_named-B-Naming g a = record { table = a.fibs.inet6.publisher.table; plan = a.fibs.inet6.publisher.key; readers = length a.fibs.inet.passes.items }
