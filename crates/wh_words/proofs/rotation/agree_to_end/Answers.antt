use Rattle.std.proofs.Common.{◌≡◌, ℕ, ◌+◌, get_or, sym, ◌∙◌, arith}
use Rattle.std.proofs.lemmas.Bool.{eqb-true}
use Rattle.std.proofs.lemmas.List.{get_or_default}
use Rattle.wh_words.proofs.Pointers.{agree_near}
use Rattle.wh_words.proofs.rotation.agree_to_end.Goals as goal

pub loop-same-preserved : goal.loop-same-preserved
loop-same-preserved c =
    let w = c.args.word.now in
    let x : ℕ = c.index-word-best.result in
    let y : ℕ = c.index-word-other.result in
    let same : x ≡ y = eqb-true x y (sym c.eq.ensures ∙ c.if-eq.true) in
    record {
      within = omega arith;
      agree = agree_near w c.args.best c.args.other c.loop-same.same c.requires.order (omega arith) c.loop-same.invariant.agree
          (get_or_default w (c.args.best + c.loop-same.same) 0 x (omega arith) ∙ sym c.index-word-best.is ∙ same ∙ c.index-word-other.is ∙ get_or_default w (c.args.other + c.loop-same.same) y 0 (omega arith));
    }
