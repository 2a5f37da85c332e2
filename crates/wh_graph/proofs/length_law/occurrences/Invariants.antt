use Rattle.std.proofs.Common.{◌≡◌, ◌≤◌, take, count_by}
use Rattle.wh_graph.specs.Laws.{is_of}
use Rattle.wh_graph.proofs.length_law.occurrences.Given as goal

abbrev pub invariant-loop-x : goal.invariant-loop-x
invariant-loop-x l = record {
  total : l.total ≡ count_by (is_of l.letter) (take l.x-index l.word);
  few : l.total ≤ l.x-index;
}
