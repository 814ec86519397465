-- The bytes before the place are written, and the sink's count has not fallen.
use Rattle.std.proofs.Common.{◌≤◌, ◌-◌, take, length}
use Rattle.std.specs.Io.KnownBytes.{Appends}
use Rattle.outside_io.proofs.writing.write_all.Given as goal

abbrev pub invariant-writing : goal.invariant-writing
invariant-writing g l = record {
  in_range : l.place ≤ length l.text;
  later : g.K.Sink.faults l.fn.sink ≤ g.K.Sink.faults l.sink;
  written : Appends (g.K.Sink.written l.fn.sink) (g.K.Sink.written l.sink) (take l.place l.text);
}

abbrev pub decreases-writing : goal.decreases-writing
decreases-writing g l = length l.text - l.place
