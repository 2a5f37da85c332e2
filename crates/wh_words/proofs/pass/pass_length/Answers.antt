use Rattle.std.proofs.Common.{ℕ, ◌-◌, Bool, length, get_or, ◌∙◌, arith}
use Rattle.wh_words.specs.LetterSets.{in_set}
use Rattle.wh_words.proofs.CutImages.{step_length, here_more}
use Rattle.wh_words.proofs.pass.pass_length.Goals as goal

pub loop-x-preserved : goal.loop-x-preserved
loop-x-preserved c =
    let h : ℕ → Bool = in_set c.args.set in
    let p : ℕ = get_or c.args.word.now (length c.args.word.now - 1) 0 in
    record {
      total = omega (
        arith,
        c.loop-x.invariant.total,
        c.junction_length.ensures.value,
        c.kept_length.ensures.value,
        step_length c.args.mult h p c.args.word.now c.loop-x.x-index c.x-item.result c.loop-x.inside (omega arith) c.x-item.is c.loop-x.invariant.inside,
      );
      inside = c.contains-inside-in-loop-x.ensures.value ∙ here_more c.args.mult h p c.args.word.now c.loop-x.x-index c.x-item.result (omega arith) c.x-item.is;
      few = omega (arith, c.loop-x.invariant.few, c.junction_length.ensures.few, c.kept_length.ensures.few);
    }
