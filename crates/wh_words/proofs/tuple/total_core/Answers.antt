use Rattle.std.proofs.Common.{◌≡◌, ◌+◌, length, ap, ◌∙◌, arith}
use Rattle.wh_words.specs.CyclicWords.{cyclic_core}
use Rattle.wh_words.specs.Words.{IsReduced}
use Rattle.wh_words.proofs.MadeOfReduced.{cyclic_core_length, total_more, total_few}
use Rattle.wh_words.proofs.tuple.total_core.Goals as goal

pub overflow_add-total : goal.overflow_add-total
overflow_add-total c =
    let e : c.strip_ends.result.now ≡ cyclic_core c.word-item.result = c.strip_ends.ensures ∙ ap cyclic_core c.letters.ensures.value in
    let r : IsReduced c.word-item.result = c.letters.ensures.reduced in
    omega (
      arith,
      total_more c.args.words.now c.loop-word.word-index c.loop-word.total c.word-item.result c.strip_ends.result.now (omega arith) c.word-item.is c.loop-word.invariant (ap length e ∙ cyclic_core_length c.word-item.result r),
      total_few c.args.words.now (c.loop-word.word-index + 1),
      c.requires,
    )

pub loop-word-preserved : goal.loop-word-preserved
loop-word-preserved c =
    let e : c.strip_ends.result.now ≡ cyclic_core c.word-item.result = c.strip_ends.ensures ∙ ap cyclic_core c.letters.ensures.value in
    let r : IsReduced c.word-item.result = c.letters.ensures.reduced in
    total_more c.args.words.now c.loop-word.word-index c.loop-word.total c.word-item.result c.strip_ends.result.now (omega arith) c.word-item.is c.loop-word.invariant (ap length e ∙ cyclic_core_length c.word-item.result r)
