-- What the sources in memory have left, what was written to the sinks in memory, which of their calls fail, and what the sink
-- over std's writer tells.
use Rattle.std.specs.Prelude.{ℕ, ◌+◌, ◌-◌, ◌^◌, min, List, drop, Option}
use Rattle.av1_rec.specs.declared.program.memory_source.MemorySource.{MemorySource}
use Rattle.av1_rec.specs.declared.program.memory_source.PlainSource.{PlainSource}
use Rattle.av1_rec.specs.declared.program.memory_sink.MemorySink.{MemorySink}
use Rattle.av1_rec.specs.declared.program.memory_sink.PlainSink.{PlainSink}
use Rattle.av1_rec.specs.declared.program.std_streams.WriteSink.{WriteSink}

-- the bytes that a source in memory has yet to give
abbrev pub source_left : MemorySource → List ℕ
source_left s = drop s.at s.bytes.items

-- the bytes that a plain source in memory has yet to give
abbrev pub plain_left : PlainSource → List ℕ
plain_left s = drop s.at s.bytes.items

-- the bytes that were written to a sink in memory
abbrev pub sink_bytes : MemorySink → List ℕ
sink_bytes s = s.bytes.items

-- the bytes that were written to a plain sink in memory
abbrev pub plain_bytes : PlainSink → List ℕ
plain_bytes s = s.bytes.items

-- how many reads a source in memory has had
abbrev pub calls_read : MemorySource → ℕ
calls_read s = s.calls

-- how many bytes a read gives at most
abbrev pub most_read : MemorySource → ℕ
most_read s = s.most

-- the numbers of the reads that fail
abbrev pub failing_reads : MemorySource → List ℕ
failing_reads s = s.failing.items

-- how many reads have failed
abbrev pub faults_read : MemorySource → ℕ
faults_read s = s.faults

-- how many writes a sink in memory has had
abbrev pub calls_written : MemorySink → ℕ
calls_written s = s.calls

-- how many bytes a write takes at most
abbrev pub most_written : MemorySink → ℕ
most_written s = s.most

-- the numbers of the writes that fail
abbrev pub failing_writes : MemorySink → List ℕ
failing_writes s = s.failing.items

-- how many writes have failed
abbrev pub faults_written : MemorySink → ℕ
faults_written s = s.faults

-- what the writer under a sink tells of its bytes
abbrev pub writer_bytes : {W : Type 0} → (W → Option (List ℕ)) → WriteSink W → Option (List ℕ)
writer_bytes contents s = contents s.writer

-- how often a sink over std's writer has failed
abbrev pub write_faults : {W : Type 0} → WriteSink W → ℕ
write_faults s = s.faults

-- the number of calls after one more, kept to 64 bits
abbrev pub one_more : ℕ → ℕ
one_more calls = min (calls + 1) (2 ^ 64 - 1)
