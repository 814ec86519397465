-- The gets of the lines behind come behind those that are there.
use Rattle.std.proofs.Common.{◌≡◌, ◌++◌, drop}
use Rattle.threaded_replay.specs.Asked.{positions}
use Rattle.threaded_replay.specs.Legal.{gets_from, gets_of}
use Rattle.threaded_replay.proofs.ask.asks_of.Given as goal

abbrev pub invariant-loop-i : goal.invariant-loop-i
invariant-loop-i l = l.asks.items ++ gets_from l.script (positions l.synced) (drop l.i l.script.lines) ≡ gets_of l.script
