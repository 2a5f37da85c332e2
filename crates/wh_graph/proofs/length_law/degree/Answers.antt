use Rattle.std.proofs.Common.{count_by, sym, ap, ◌∙◌, arith}
use Rattle.std.specs.List.{sum_by}
use Rattle.std.proofs.lemmas.List.{take_all}
use Rattle.wh_graph.specs.Laws.{is_of}
use Rattle.wh_graph.proofs.WordLoops.{letters_fit}
use Rattle.wh_graph.proofs.Degrees.{degree_counts}
use Rattle.wh_graph.proofs.length_law.degree.Goals as goal

pub overflow_add-total : goal.overflow_add-total
overflow_add-total c =
    omega (
      arith,
      c.occurrences-total.ensures,
      c.loop-place.invariant,
      letters_fit (is_of c.args.letter) c.args.tuple.now.plain c.loop-place.place c.word.result.now c.word.ensures.roomed.tuple (omega arith) c.word.ensures.value,
    )

pub returns : goal.returns
returns c =
    c.loop-place.invariant
    ∙ ap (sum_by (count_by (is_of c.args.letter))) (take_all c.loop-place.place c.args.tuple.now.plain.words (omega arith))
    ∙ sym (degree_counts c.args.tuple.now.plain c.args.letter c.count-place-end.ensures.roomed.tuple)
