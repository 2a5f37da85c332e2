-- What the options may say, and what stands where they say nothing.
use Rattle.std.specs.Prelude.{ℕ}

-- The greatest number of tuples of a level that is explored, where `--limit` isn't given.
abbrev pub standing_limit : ℕ
standing_limit = 10000

-- The greatest number of workers.
abbrev pub most_workers : ℕ
most_workers = 64

-- The number of workers, where `--workers` isn't given.
abbrev pub standing_workers : ℕ
standing_workers = 1
