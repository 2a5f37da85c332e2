use Rattle.std.proofs.Common.{◌≡◌, take}
use Rattle.wh_words.specs.LetterSets.{in_set}
use Rattle.wh_words.specs.Edges.{crosses}
use Rattle.wh_graph.proofs.WordLoops.{words_count}
use Rattle.wh_graph.proofs.length_law.capacity.Given as goal

abbrev pub invariant-loop-place : goal.invariant-loop-place
invariant-loop-place l = l.total ≡ words_count (crosses (in_set l.set)) (take l.place l.tuple.plain.words)
