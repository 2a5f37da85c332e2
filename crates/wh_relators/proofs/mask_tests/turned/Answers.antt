use Rattle.std.proofs.Common.{◌≡◌, ℕ, ◌∙◌, subst, arith}
use Rattle.std.specs.Int.{bit_at}
use Rattle.wh_moves.proofs.InverseMoves.{turned_is}
use Rattle.wh_relators.proofs.mask_tests.turned.Goals as goal

pub returns : goal.returns
returns c =
    turned_is c.args.letter c.args.set c.requires.holds c.requires.omits c.with.result c.without.result (omega arith) (omega arith) (omega arith)
    (subst (λ (b : ℕ). bit_at c.with.result b ≡ 1) c.inverse.ensures c.with.ensures.same)
    (λ i n. c.with.ensures.others i (λ e. n (e ∙ c.inverse.ensures)))
    c.without.ensures.same c.without.ensures.others
