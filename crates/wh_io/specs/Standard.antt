-- What a clause reads of a source over a reader and a sink over a writer.
use Rattle.std.specs.Prelude.{ℕ}
use Rattle.wh_io.specs.declared.std_source.StdSource.{StdSource}
use Rattle.wh_io.specs.declared.std_sink.StdSink.{StdSink}

-- the reader that the source reads from
abbrev pub reader_of : {R : Type 0} → StdSource R → R
reader_of s = s.reader

-- how often the source failed
abbrev pub source_faults : {R : Type 0} → StdSource R → ℕ
source_faults s = s.faults

-- the writer that the sink writes to
abbrev pub writer_of : {W : Type 0} → StdSink W → W
writer_of s = s.writer

-- how often the sink failed
abbrev pub sink_faults : {W : Type 0} → StdSink W → ℕ
sink_faults s = s.faults
