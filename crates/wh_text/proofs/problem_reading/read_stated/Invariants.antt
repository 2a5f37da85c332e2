use Rattle.std.proofs.Common.{◌≡◌, map}
use Rattle.wh_words.specs.Tuples.{Tuple}
use Rattle.wh_text.specs.Problems.{stated}
use Rattle.wh_text.proofs.StatedLines.{lines_left, behind_tuples}
use Rattle.wh_text.proofs.problem_reading.read_stated.Given as goal

abbrev pub invariant-lines : goal.invariant-lines
invariant-lines l = behind_tuples (map (λ (t : Tuple). t.plain) l.tuples.items) (stated l.takes_moves l.rank l.reader.rest) ≡ stated l.takes_moves l.rank l.initial.reader.rest

abbrev pub decreases-lines : goal.decreases-lines
decreases-lines l = lines_left l.reader.rest
