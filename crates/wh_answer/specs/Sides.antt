-- The side of a tuple, after Lyndon and Schupp, I.4.
use Rattle.wh_words.specs.Tuples.{TupleData}
use Rattle.wh_words.specs.CapacityTraces.{IsCapacityTrace}
use Rattle.wh_reduce.specs.FlowLists.{AreFlows}
use Rattle.wh_data.specs.declared.answer.Side.{Side}

-- The side of a tuple: its trace, the end of that, and the flows of the generators of the end.
pub record IsSideOf (t : TupleData) (side : Side) : Type 0 where
  pub trace : IsCapacityTrace t side.trace side.end.plain
  pub flows : AreFlows side.end.plain side.flows
