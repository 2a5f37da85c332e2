-- Where the end of a side stands among the tuples of its level.
use Rattle.std.specs.Prelude.{ℕ, List}
use Rattle.std.specs.List.{position}
use Rattle.std.specs.Option.{unwrap_or}
use Rattle.std.specs.Ordering.{is_eq}
use Rattle.wh_words.specs.Tuples.{TupleData, tuple_cmp}

-- The place of the first tuple that is the end. Where there is none, the first place stands for it.
abbrev pub root_place : TupleData → List TupleData → ℕ
root_place end ts = unwrap_or (position (λ t. is_eq (tuple_cmp t end)) ts) 0
