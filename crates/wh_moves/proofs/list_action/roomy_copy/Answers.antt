use Rattle.std.proofs.Common.{arith}
use Rattle.wh_moves.proofs.ActedLists.{word_reduced}
use Rattle.wh_moves.proofs.list_action.roomy_copy.Goals as goal

pub push_word-requires-clause-reduced : goal.push_word-requires-clause-reduced
push_word-requires-clause-reduced c = word_reduced c.args.tuple.now.plain c.loop-place.place c.word.result.now c.word.ensures.roomed.tuple (omega arith) c.word.ensures.value
