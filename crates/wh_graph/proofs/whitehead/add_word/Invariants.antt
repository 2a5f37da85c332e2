use Rattle.std.proofs.Common.{◌≡◌, ℕ, ◌+◌, ◌<◌, take, count_by}
use Rattle.wh_words.specs.Edges.{joins, word_edges}
use Rattle.wh_flow.specs.Tables.{cell}
use Rattle.wh_flow.specs.Nets.{edge_count}
use Rattle.wh_graph.proofs.WordLoops.{letter_before}
use Rattle.wh_graph.proofs.whitehead.add_word.Given as goal

abbrev pub invariant-loop-x : goal.invariant-loop-x
invariant-loop-x l = record {
  rank : l.net.rank ≡ l.initial.net.rank;
  edges : (x y : ℕ) → x < 52 → y < 52 → cell l.net.cells x y ≡ cell l.initial.net.cells x y + count_by (joins x y) (take l.x-index (word_edges l.word));
  count : edge_count l.net.cells ≡ edge_count l.initial.net.cells + l.x-index;
  before : l.before ≡ letter_before l.word l.x-index;
}
