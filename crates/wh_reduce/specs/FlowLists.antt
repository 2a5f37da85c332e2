-- A flow for each generator of a tuple, which show that the tuple is flat, after Roig, Ventura and Weil 2007.
use Rattle.std.specs.Prelude.{◌≡◌, ℕ, ◌*◌, ◌<◌, List, [], length, get_or}
use Rattle.std.specs.List.{All}
use Rattle.wh_words.specs.Tuples.{TupleData}
use Rattle.wh_words.specs.TupleFlows.{IsFlowOfLetter}
use Rattle.wh_flow.specs.Tables.{cell, IsTable}

-- The tables are the flows of the generators of a tuple, counted from 0, in their order.
pub record AreFlows (t : TupleData) (flows : List (List ℕ)) : Type 0 where
  pub count : length flows ≡ t.rank
  pub tables : All IsTable flows
  pub each : (generator : ℕ) → generator < t.rank → IsFlowOfLetter t (2 * generator) (cell (get_or flows generator []))
