-- The flows of a side can be printed.
use Rattle.std.proofs.Common.{ℕ, ◌*◌, ◌≤◌, List, arith}
use Rattle.std.proofs.lemmas.List.Sums.{count_by-le-length}
use Rattle.wh_words.specs.Tuples.{TupleData, IsTuple}
use Rattle.wh_words.specs.Edges.{edges, ends_at, deg}
use Rattle.wh_graph.proofs.EdgeCounts.{edges_length}
use Rattle.wh_reduce.specs.FlowLists.{AreFlows}
use Rattle.wh_fields.specs.FlowFields.{HaveLines}

degree_few : (t : TupleData) (a : ℕ) → IsTuple t → deg a t ≤ 4096
degree_few t a is = omega (arith, count_by-le-length (ends_at a) (edges t), edges_length t, is.short)

pub flows_have_lines : (t : TupleData) (flows : List (List ℕ)) → IsTuple t → AreFlows t flows → HaveLines t.rank flows
flows_have_lines t flows is are = record {
  count = are.count;
  values = λ g h. record {
    least = omega (arith, (are.each g h).value);
    below = omega (arith, (are.each g h).value, degree_few t (2 * g) is);
  };
}
