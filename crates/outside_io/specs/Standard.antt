-- What clauses see of the adapters of real streams: the stream, and how often each has failed.
use Rattle.std.specs.Prelude.{ℕ}
use Rattle.outside_io.specs.declared.standard.StdSource.{StdSource}
use Rattle.outside_io.specs.declared.standard.StdSink.{StdSink}

abbrev pub source_reader : {R : Type 0} → StdSource R → R
source_reader source = source.reader

abbrev pub source_faults : {R : Type 0} → StdSource R → ℕ
source_faults source = source.faults

abbrev pub sink_writer : {W : Type 0} → StdSink W → W
sink_writer sink = sink.writer

abbrev pub sink_faults : {W : Type 0} → StdSink W → ℕ
sink_faults sink = sink.faults
