use Rattle.std.proofs.Common.{◌+◌, arith}
use Rattle.wh_moves.proofs.ActedWords.{length_more, acted_few}
use Rattle.wh_moves.proofs.action.acted_length.Goals as goal

pub overflow_add-total : goal.overflow_add-total
overflow_add-total c =
    omega (
      arith,
      c.image_length-total.ensures,
      length_more c.args.tuple.now.plain c.args.m.now c.loop-place.place c.loop-place.total c.word.result.now (omega arith) c.word.ensures.value c.loop-place.invariant,
      acted_few c.args.tuple.now.plain c.args.m.now (c.loop-place.place + 1) c.word.ensures.roomed.tuple,
    )
