-- The ledger is the blank's.
use Rattle.threaded_replay.proofs.workers.work.Given as goal

abbrev pub ghosts-work_with : goal.ghosts-work_with
ghosts-work_with g a = record { name = a.blank.name; parts = a.blank.parts }
