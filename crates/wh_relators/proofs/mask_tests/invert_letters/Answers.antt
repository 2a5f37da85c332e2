use Rattle.std.proofs.Common.{◌≡◌, ℕ, ◌*◌, ◌∙◌, subst, arith}
use Rattle.wh_words.specs.LetterSets.{in_set}
use Rattle.wh_words.specs.Images.{invert_letter}
use Rattle.wh_relators.proofs.SetComplements.{Lacks, lacks_all}
use Rattle.wh_relators.proofs.mask_tests.invert_letters.Goals as goal

pub returns : goal.returns
returns c =
    let end : c.loop-index.index ≡ 2 * c.args.rank = omega (arith, c.loop-index-test.false, c.get-index-end.ensures.same) in
    c.others.ensures
    ∙ lacks_all c.args.rank (λ x. in_set c.args.set (invert_letter c.args.k x)) c.loop-index.rest
    (subst (λ (i : ℕ). Lacks (λ x. in_set c.args.set (invert_letter c.args.k x)) i c.loop-index.rest) end c.loop-index.invariant)
