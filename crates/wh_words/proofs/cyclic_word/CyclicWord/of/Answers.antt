use Rattle.std.proofs.Common.{ap, ◌∙◌, sym, length, arith}
use Rattle.std.proofs.lemmas.Bool.{false≢true}
use Rattle.wh_words.specs.CyclicWords.{cyclic_word, least_rotation, cyclic_core}
use Rattle.wh_words.proofs.FreeReduction.{free_reduction-same}
use Rattle.wh_words.proofs.Turning.{cyclic_core-length}
use Rattle.wh_words.proofs.Rotations.{cyclic_word-same}
use Rattle.wh_words.proofs.cyclic_word.CyclicWord.of.Goals as goal

pub returns-clause-cyclic : goal.returns-clause-cyclic
returns-clause-cyclic c =
    c.of.ensures ∙ c.in_ok-letters.ensures.ok ∙ c.least_start-start.ensures.least ∙ ap least_rotation (c.strip_ends-core.ensures ∙ ap cyclic_core (c.letters.ensures.value ∙ sym (free_reduction-same c.args.word.now c.letters.ensures.reduced)))

pub invariant_of-result : goal.invariant_of-result
invariant_of-result c =
    let e = returns-clause-cyclic c in ap cyclic_word e ∙ cyclic_word-same c.args.word.now ∙ sym e

pub returns-in_err-letters-clause-succeeds : goal.returns-in_err-letters-clause-succeeds
returns-in_err-letters-clause-succeeds c =
    λ few. absurd (false≢true (c.in_err-letters.ensures.succeeds (omega (arith, ap length (c.strip_ends-core.ensures ∙ ap cyclic_core c.letters.ensures.value), cyclic_core-length c.args.word.now))))
