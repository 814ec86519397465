-- Nothing is published yet, and the same is ready.
use Rattle.std.proofs.Common.{◌≡◌}
use Rattle.threaded_replay.proofs.producer.publish.Given as goal

abbrev pub invariant-loop : goal.invariant-loop
invariant-loop g l = record {
  table : l.publisher.table ≡ l.initial.publisher.table;
  key : l.publisher.key ≡ l.initial.publisher.key;
  readers : l.publisher.own.readers ≡ l.initial.publisher.own.readers;
  version : l.publisher.own.version ≡ l.initial.publisher.own.version;
  ready : l.ready ≡ l.initial.ready;
}
