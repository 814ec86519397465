-- The source and the sink in memory: what clauses see of them, and what each call answers.
use Rattle.std.specs.Prelude.{ℕ, ◌-◌, ◌==◌, ◌||◌, Bool, List, Option, Some, drop, take, min, length, if◌then◌else◌}
use Rattle.std.specs.List.{list_any}
use Rattle.outside_io.specs.declared.source.Taken.{Taken}
use Rattle.outside_io.specs.declared.source.Taken.TheVariants as taken
use Rattle.outside_io.specs.declared.sink.Put.{Put}
use Rattle.outside_io.specs.declared.sink.Put.TheVariants as put
use Rattle.outside_io.specs.declared.memory.MemSource.{MemSource}
use Rattle.outside_io.specs.declared.memory.MemSink.{MemSink}

-- the bytes from the source's place on
abbrev pub left_of : MemSource → Option (List ℕ)
left_of source = Some (drop source.place source.bytes.items)

-- how often the source has failed
abbrev pub source_faults : MemSource → ℕ
source_faults source = source.faults

-- how a source or a sink in memory was made: the most bytes of a call, and the calls that fail
pub record Manner : Type 0 where
  pub piece : ℕ
  pub fails : List ℕ

abbrev pub source_manner : MemSource → Manner
source_manner source = record { piece = source.piece; fails = source.fails.items }

-- how many calls the source has had
abbrev pub source_calls : MemSource → ℕ
source_calls source = source.calls

-- how many bytes are left
abbrev pub source_len : MemSource → ℕ
source_len source = length source.bytes.items - source.place

-- the bytes that were written to the sink
abbrev pub written_of : MemSink → Option (List ℕ)
written_of sink = Some (take sink.len sink.bytes.items)

-- how many bytes more the sink has room for
abbrev pub room_of : MemSink → ℕ
room_of sink = length sink.bytes.items - sink.len

-- how often the sink has failed
abbrev pub sink_faults : MemSink → ℕ
sink_faults sink = sink.faults

abbrev pub sink_manner : MemSink → Manner
sink_manner sink = record { piece = sink.piece; fails = sink.fails.items }

-- how many calls the sink has had
abbrev pub sink_calls : MemSink → ℕ
sink_calls sink = sink.calls

-- whether the call of this number, counted from 1, is one that fails
abbrev pub fails_at : Manner → ℕ → Bool
fails_at manner call = list_any (λ n. n == call) manner.fails

-- so many bytes, or the end where there is none
abbrev pub some_or_end : ℕ → Taken
some_or_end n = if n == 0 then taken.End else taken.Some n

-- what the source answers to its call of this number, with so many bytes left and a buffer of this length
abbrev pub taken_at : Manner → ℕ → ℕ → ℕ → Taken
taken_at manner call left len =
    if fails_at manner call then taken.Failed else some_or_end (min (min left manner.piece) len)

-- what the sink answers to its call of this number, with so much room and a piece of this length
abbrev pub put_at : Manner → ℕ → ℕ → ℕ → Put
put_at manner call room len =
    if room == 0 || fails_at manner call then put.Failed else put.Took (min (min room manner.piece) len)

-- how many bytes a sink took
abbrev pub taken_by : Put → ℕ
taken_by (put.Took n) = n
taken_by put.Failed = 0
