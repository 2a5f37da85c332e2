-- What is known of two tuples once they are reduced.
use Rattle.std.specs.Prelude.{◌≡◌, ◌≢◌, ◌≤◌}
use Rattle.wh_words.specs.Limits.{most_rank}
use Rattle.wh_words.specs.Tuples.{TupleData, IsTuple, tuple_length}
use Rattle.wh_words.specs.CapacityTraces.{IsCapacityTrace}
use Rattle.wh_reduce.specs.declared.trace.Trace.{Trace}

-- The traces are those of two tuples.
pub record AreTraced (s t : TupleData) (first second : Trace) : Type 0 where
  pub first_tuple : IsTuple s
  pub second_tuple : IsTuple t
  pub first_low : s.rank ≤ most_rank
  pub second_low : t.rank ≤ most_rank
  pub first_trace : IsCapacityTrace s first.moves first.end.plain
  pub second_trace : IsCapacityTrace t second.moves second.end.plain

-- The traces end at different tuples of one length.
abbrev pub AreApart : Trace → Trace → Type 0
AreApart first second = (tuple_length first.end.plain ≡ tuple_length second.end.plain) × (first.end.plain ≢ second.end.plain)
