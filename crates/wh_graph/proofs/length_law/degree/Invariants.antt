use Rattle.std.proofs.Common.{◌≡◌, take, count_by}
use Rattle.std.specs.List.{sum_by}
use Rattle.wh_graph.specs.Laws.{is_of}
use Rattle.wh_graph.proofs.length_law.degree.Given as goal

abbrev pub invariant-loop-place : goal.invariant-loop-place
invariant-loop-place l = l.total ≡ sum_by (count_by (is_of l.letter)) (take l.place l.tuple.plain.words)
