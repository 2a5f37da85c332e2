use Rattle.wh_data.specs.AnswerData.{parts_of}
use Rattle.wh_cert.proofs.RelatorNumbers.{IsReadSoFar}
use Rattle.wh_cert.proofs.relators.has_numbers.Given as goal

abbrev pub invariant-loop-k : goal.invariant-loop-k
invariant-loop-k l = IsReadSoFar (parts_of l.parts) l.relator.at l.relator.moves l.relator.word l.k l.read
