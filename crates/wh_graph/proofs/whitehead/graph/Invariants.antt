use Rattle.std.proofs.Common.{◌≡◌, ℕ, ◌<◌, take, length}
use Rattle.std.specs.List.{sum_by}
use Rattle.wh_words.specs.Edges.{joins}
use Rattle.wh_flow.specs.Tables.{cell}
use Rattle.wh_flow.specs.Nets.{edge_count}
use Rattle.wh_graph.proofs.WordLoops.{words_count}
use Rattle.wh_graph.proofs.whitehead.graph.Given as goal

abbrev pub invariant-loop-place : goal.invariant-loop-place
invariant-loop-place l = record {
  rank : l.net.rank ≡ l.tuple.plain.rank;
  edges : (x y : ℕ) → x < 52 → y < 52 → cell l.net.cells x y ≡ words_count (joins x y) (take l.place l.tuple.plain.words);
  count : edge_count l.net.cells ≡ sum_by length (take l.place l.tuple.plain.words);
}
