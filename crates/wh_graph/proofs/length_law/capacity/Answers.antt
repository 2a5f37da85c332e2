use Rattle.std.proofs.Common.{ap, ◌∙◌, arith}
use Rattle.std.proofs.lemmas.List.{take_all}
use Rattle.wh_words.specs.LetterSets.{in_set}
use Rattle.wh_words.specs.Edges.{crosses}
use Rattle.wh_graph.proofs.WordLoops.{words_count, counts_fit, count_words}
use Rattle.wh_graph.proofs.length_law.capacity.Goals as goal

pub overflow_add-total : goal.overflow_add-total
overflow_add-total c =
    omega (
      arith,
      c.crossings-total.ensures,
      c.loop-place.invariant,
      counts_fit (crosses (in_set c.args.set)) c.args.tuple.now.plain c.loop-place.place c.word.result.now c.word.ensures.roomed.tuple (omega arith) c.word.ensures.value,
    )

pub returns : goal.returns
returns c =
    c.loop-place.invariant
    ∙ ap (words_count (crosses (in_set c.args.set))) (take_all c.loop-place.place c.args.tuple.now.plain.words (omega arith))
    ∙ count_words (crosses (in_set c.args.set)) c.args.tuple.now.plain.words
