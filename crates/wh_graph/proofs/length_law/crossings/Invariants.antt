use Rattle.std.proofs.Common.{◌≡◌, ◌≤◌, take, count_by}
use Rattle.wh_words.specs.LetterSets.{in_set}
use Rattle.wh_words.specs.Edges.{crosses, word_edges}
use Rattle.wh_graph.proofs.WordLoops.{letter_before}
use Rattle.wh_graph.proofs.length_law.crossings.Given as goal

abbrev pub invariant-loop-x : goal.invariant-loop-x
invariant-loop-x l = record {
  total : l.total ≡ count_by (crosses (in_set l.set)) (take l.x-index (word_edges l.word));
  few : l.total ≤ l.x-index;
  before : l.before ≡ letter_before l.word l.x-index;
}
