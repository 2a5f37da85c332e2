-- What callers see of a source and a sink in memory.
use Rattle.std.specs.Prelude.{ℕ, List, ◌++◌, drop, Contains}
use Rattle.wh_io.specs.Device.{next_count}

-- the bytes left, the most that one read gives, the numbers of the reads that fail, and how many reads were asked for and failed
pub record SourceState : Type 0 where
  pub bytes_left : List ℕ
  pub most : ℕ
  pub fails : List ℕ
  pub calls : ℕ
  pub faults : ℕ

-- the next read is one of those that fail
abbrev pub NextReadFails : SourceState → Type 0
NextReadFails s = Contains s.fails (next_count s.calls)

-- the source after a read that gave n bytes
abbrev pub after_read : SourceState → ℕ → SourceState
after_read s n = record s { bytes_left = drop n s.bytes_left; calls = next_count s.calls }

-- the source after a read that failed
abbrev pub after_failed_read : SourceState → SourceState
after_failed_read s = record s { calls = next_count s.calls; faults = next_count s.faults }

-- the bytes held, those of them that were sent on, the most that one write takes, the numbers of the writes that fail, and how many writes were asked for and failed
pub record SinkState : Type 0 where
  pub bytes_held : List ℕ
  pub bytes_sent : List ℕ
  pub most : ℕ
  pub fails : List ℕ
  pub calls : ℕ
  pub faults : ℕ

-- the next write is one of those that fail
abbrev pub NextWriteFails : SinkState → Type 0
NextWriteFails s = Contains s.fails (next_count s.calls)

-- the sink after a write that took bs
abbrev pub after_write : SinkState → List ℕ → SinkState
after_write s bs = record s { bytes_held = s.bytes_held ++ bs; calls = next_count s.calls }

-- the sink after a write that failed
abbrev pub after_failed_write : SinkState → SinkState
after_failed_write s = record s { calls = next_count s.calls; faults = next_count s.faults }

-- the sink after a flush
abbrev pub after_flush : SinkState → SinkState
after_flush s = record s { bytes_sent = s.bytes_held }
