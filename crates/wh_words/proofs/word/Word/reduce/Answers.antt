use Rattle.std.proofs.Common.{[], ◌∷◌, ◌++◌, length, take, ap, sym, subst, ◌∙◌, arith, rules, length-take}
use Rattle.std.proofs.lemmas.Bool.{false≢true}
use Rattle.wh_words.specs.Words.{free_reduction, IsReduced}
use Rattle.wh_words.proofs.FreeReduction.{free_reduction-reduced, free_reduction-more, free_reduction-length}
use Rattle.wh_words.proofs.word.Word.reduce.Goals as goal

pub push_letter-requires : goal.push_letter-requires
push_letter-requires c = rw c.loop-x.invariant.0 (free_reduction-reduced (take c.loop-x.x-index c.args.letters.now))

pub returns-in_err-push_letter-clause-succeeds : goal.returns-in_err-push_letter-clause-succeeds
returns-in_err-push_letter-clause-succeeds c =
    λ few. absurd (false≢true (c.in_err-push_letter.ensures.succeeds (
    omega (arith, ap length c.loop-x.invariant.0, free_reduction-length (take c.loop-x.x-index c.args.letters.now), length-take c.loop-x.x-index c.args.letters.now))))

pub loop-x-preserved : goal.loop-x-preserved
loop-x-preserved c = (
  c.in_ok-push_letter.ensures.ok ∙ ap (λ w. free_reduction (w ++ c.x-item.result ∷ [])) c.loop-x.invariant.0
      ∙ free_reduction-more c.args.letters.now c.loop-x.x-index c.x-item.result (omega arith) (search rules),
  omega arith,
)

pub invariant_of-result : goal.invariant_of-result
invariant_of-result c =
    subst IsReduced (sym (c.of.ensures ∙ c.loop-x.invariant.0)) (free_reduction-reduced (take c.loop-x.x-index c.args.letters.now))
