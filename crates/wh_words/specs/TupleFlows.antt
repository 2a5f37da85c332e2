-- Flows in the Whitehead graph of a tuple, which show that no cut shortens it, after Roig, Ventura and Weil 2007.
use Rattle.std.specs.Prelude.{ℕ, count_by}
use Rattle.wh_words.specs.Letters.{inverse_letter}
use Rattle.wh_words.specs.Tuples.{TupleData}
use Rattle.wh_words.specs.Edges.{edges, joins, deg}
use Rattle.wh_words.specs.Flows.{IsFirstFlow, HasValue}

-- The Whitehead graph as a table: how many edges join two letters.
abbrev pub edge_table : TupleData → ℕ → ℕ → ℕ
edge_table t x y = count_by (joins x y) (edges t)

-- The flow of a letter: of the flows from it to its inverse that have its degree as their value, the first.
pub record IsFlowOfLetter (t : TupleData) (a : ℕ) (f : ℕ → ℕ → ℕ) : Type 0 where
  pub first : IsFirstFlow (edge_table t) f a (inverse_letter a)
  pub value : HasValue f a (deg a t)
