use Rattle.std.proofs.Common.{◌≡◌, ◌∙◌, ap, ap₂, arith, rules, bit_and, subst, sym, ℕ, ◌<◌, ◌^◌, ◌*◌}
use Rattle.std.specs.Prelude.{◌&&◌}
use Rattle.wh_words.specs.LetterSets.{in_set}
use Rattle.wh_straighten.proofs.LoweredRows.{and_has, both_within}
use Rattle.wh_straighten.proofs.any_cuts.quadrant.Goals as goal

pub returns-clause-quadrant : goal.returns-clause-quadrant
returns-clause-quadrant c =
    let e : c.of_bits.result ≡ bit_and c.beside-near.result c.beside-far.result = search rules in
    record {
      within = subst (λ (z : ℕ). z < 2 ^ (2 * c.args.rank)) (sym e) (both_within c.args.rank c.beside-near.result c.beside-far.result c.get.ensures.greatest c.beside-near.ensures.within (omega arith));
      letters = λ x l. ap (λ (z : ℕ). in_set z x) e ∙ (and_has c.beside-near.result c.beside-far.result x ∙ ap₂ (λ y z. y && z) (c.beside-near.ensures.letters x l) (c.beside-far.ensures.letters x l));
    }
