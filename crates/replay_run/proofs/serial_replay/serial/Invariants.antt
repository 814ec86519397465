-- The reads are counted in a ledger of one part.
use Rattle.replay_run.proofs.serial_replay.serial.Given as goal

abbrev pub ghosts-serial_by : goal.ghosts-serial_by
ghosts-serial_by a = record { name = a.blank.name; parts = a.blank.parts }
