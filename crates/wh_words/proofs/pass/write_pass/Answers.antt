use Rattle.std.proofs.Common.{ℕ, ◌-◌, Bool, length, get_or, take, ◌∙◌, arith}
use Rattle.wh_words.specs.LetterSets.{in_set}
use Rattle.wh_words.proofs.CutImages.{step_fits, step_length, pass_step, here_more}
use Rattle.wh_words.proofs.pass.write_pass.Goals as goal

pub put_between-next-requires : goal.put_between-next-requires
put_between-next-requires c =
    let h : ℕ → Bool = in_set c.args.set in
    let p : ℕ = get_or c.args.word.now (length c.args.word.now - 1) 0 in
    omega (
      arith,
      c.requires,
      c.loop-x.invariant.place,
      c.loop-x.invariant.same_length,
      step_fits c.args.mult h p c.args.word.now c.loop-x.x-index c.x-item.result c.loop-x.here (omega arith) c.x-item.is c.loop-x.invariant.here,
    )

pub put_kept-next-requires : goal.put_kept-next-requires
put_kept-next-requires c =
    let h : ℕ → Bool = in_set c.args.set in
    let p : ℕ = get_or c.args.word.now (length c.args.word.now - 1) 0 in
    omega (
      arith,
      c.requires,
      c.loop-x.invariant.place,
      c.loop-x.invariant.same_length,
      c.put_between-next.ensures.place,
      c.put_between-next.ensures.same_length,
      step_fits c.args.mult h p c.args.word.now c.loop-x.x-index c.x-item.result c.loop-x.here (omega arith) c.x-item.is c.loop-x.invariant.here,
    )

pub loop-x-preserved : goal.loop-x-preserved
loop-x-preserved c =
    let h : ℕ → Bool = in_set c.args.set in
    let p : ℕ = get_or c.args.word.now (length c.args.word.now - 1) 0 in
    record {
      written = pass_step c.args.mult h p c.args.word.now c.loop-x.x-index c.x-item.result c.loop-x.here
          (take c.args.at c.args.out.now) (take c.loop-x.next c.loop-x.out) (take c.put_between-next.result c.put_between-next.new.out) (take c.put_kept-next.result c.put_kept-next.new.out)
          (omega arith) c.x-item.is c.loop-x.invariant.here c.loop-x.invariant.written
          c.put_between-next.ensures.written c.put_kept-next.ensures.written;
      place = omega (
        arith,
        c.loop-x.invariant.place,
        c.put_between-next.ensures.place,
        c.put_kept-next.ensures.place,
        step_length c.args.mult h p c.args.word.now c.loop-x.x-index c.x-item.result c.loop-x.here (omega arith) c.x-item.is c.loop-x.invariant.here,
      );
      here = c.contains-here-in-loop-x.ensures.value ∙ here_more c.args.mult h p c.args.word.now c.loop-x.x-index c.x-item.result (omega arith) c.x-item.is;
      same_length = omega (arith, c.loop-x.invariant.same_length, c.put_between-next.ensures.same_length, c.put_kept-next.ensures.same_length);
    }
