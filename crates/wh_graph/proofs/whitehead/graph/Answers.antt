use Rattle.std.proofs.Common.{ap, ◌∙◌, arith}
use Rattle.std.proofs.lemmas.List.{take_all}
use Rattle.wh_words.specs.Edges.{joins}
use Rattle.wh_flow.specs.Tables.{cell}
use Rattle.wh_flow.specs.Nets.{Net}
use Rattle.wh_flow.proofs.Cells.{cell-zero}
use Rattle.wh_graph.proofs.WordLoops.{words_count, count_words, word_is}
use Rattle.wh_graph.proofs.whitehead.graph.Goals as goal

pub loop-place-init : goal.loop-place-init
loop-place-init c = record {
  rank = ap (λ (n : Net). n.rank) c.empty-net.ensures.same ∙ c.rank.ensures.rank;
  edges = λ x y i j. ap (λ (n : Net). cell n.cells x y) c.empty-net.ensures.same ∙ cell-zero x y i j;
  count = c.empty-net.ensures.none;
}

pub add_word-requires-clause-reduced : goal.add_word-requires-clause-reduced
add_word-requires-clause-reduced c = (word_is c.args.tuple.now.plain c.loop-place.place c.word.result.now c.word.ensures.roomed.tuple (omega arith) c.word.ensures.value).0

pub returns : goal.returns
returns c = record {
  rank = c.loop-place.invariant.rank;
  edges = λ x y i j.
      c.loop-place.invariant.edges x y i j
      ∙ ap (words_count (joins x y)) (take_all c.loop-place.place c.args.tuple.now.plain.words (omega arith))
      ∙ count_words (joins x y) c.args.tuple.now.plain.words;
}
