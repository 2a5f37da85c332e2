-- The second end of two sides, where there is one: for the functions that judge levels.
use Rattle.std.proofs.Common.{Bor, Option}
use Rattle.std.specs.Option.{option_map}
use Rattle.wh_words.specs.Tuples.{TupleData, Tuple}

abbrev pub second_end : Option (Bor Tuple) → Option TupleData
second_end o = option_map (λ (s : Bor Tuple). s.now.plain) o
