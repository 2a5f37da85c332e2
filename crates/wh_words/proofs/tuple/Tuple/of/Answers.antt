use Rattle.std.proofs.Common.{◌≡◌, ℕ, [], length, sym, ap, ◌∙◌, subst, arith}
use Rattle.wh_words.specs.CyclicWords.{cyclic_word, cyclic_core, IsCyclicallyReduced}
use Rattle.wh_words.specs.Words.{IsReduced, IsOfRank}
use Rattle.wh_words.specs.Tuples.{Tuple}
use Rattle.wh_words.proofs.Rotations.{cyclic_word-cyclic_core}
use Rattle.wh_words.proofs.StoredWords.{cyclic_core-of_rank}
use Rattle.wh_words.proofs.MadeOfReduced.{cyclic_core_good, of_fits, of_place, of_more, of_done}
use Rattle.wh_words.proofs.tuple.Tuple.of.Goals as goal

pub loop-word-init : goal.loop-word-init
loop-word-init c =
    c.in_ok-made.ensures.made
    ∙ ap (λ (n : ℕ). record { plain = record { rank = c.args.rank; words = [] }; room = n; word_room = length c.args.words.now }) c.total_core.ensures

pub push_word-requires-clause-reduced : goal.push_word-requires-clause-reduced
push_word-requires-clause-reduced c =
    let e : c.strip_ends.result.now ≡ cyclic_core c.word-item.result = c.strip_ends.ensures ∙ ap cyclic_core c.letters.ensures.value in
    let r : IsReduced c.word-item.result = c.letters.ensures.reduced in
    subst IsCyclicallyReduced (sym e) (cyclic_core_good c.word-item.result r)

pub push_word-requires-clause-of_rank : goal.push_word-requires-clause-of_rank
push_word-requires-clause-of_rank c =
    let e : c.strip_ends.result.now ≡ cyclic_core c.word-item.result = c.strip_ends.ensures ∙ ap cyclic_core c.letters.ensures.value in
    let r : IsReduced c.word-item.result = c.letters.ensures.reduced in
    subst (λ (n : ℕ). IsOfRank n c.strip_ends.result.now) (sym (ap (λ (u : Tuple). u.plain.rank) c.loop-word.invariant))
    (subst (IsOfRank c.args.rank) (sym e) (cyclic_core-of_rank c.args.rank c.word-item.result
    (subst (IsOfRank c.args.rank) (sym c.word-item.is) (c.requires.of_rank c.loop-word.word-index c.word-item.result (omega arith)))))

pub push_word-requires-clause-letters : goal.push_word-requires-clause-letters
push_word-requires-clause-letters c =
    let e : c.strip_ends.result.now ≡ cyclic_core c.word-item.result = c.strip_ends.ensures ∙ ap cyclic_core c.letters.ensures.value in
    let r : IsReduced c.word-item.result = c.letters.ensures.reduced in
    of_fits c.args.rank c.args.words.now c.loop-word.word-index c.word-item.result c.strip_ends.result.now c.loop-word.made (omega arith) c.word-item.is c.loop-word.invariant (ap cyclic_word e ∙ cyclic_word-cyclic_core c.word-item.result)

pub push_word-requires-clause-place : goal.push_word-requires-clause-place
push_word-requires-clause-place c = of_place c.args.rank c.args.words.now c.loop-word.word-index c.loop-word.made (omega arith) c.loop-word.invariant

pub loop-word-preserved : goal.loop-word-preserved
loop-word-preserved c =
    let e : c.strip_ends.result.now ≡ cyclic_core c.word-item.result = c.strip_ends.ensures ∙ ap cyclic_core c.letters.ensures.value in
    let r : IsReduced c.word-item.result = c.letters.ensures.reduced in
    of_more c.args.rank c.args.words.now c.loop-word.word-index c.word-item.result c.strip_ends.result.now c.loop-word.made c.push_word.new.self (omega arith) c.word-item.is c.loop-word.invariant
    (ap cyclic_word e ∙ cyclic_word-cyclic_core c.word-item.result) c.push_word.ensures

pub returns-clause-made : goal.returns-clause-made
returns-clause-made c = of_done c.args.rank c.args.words.now c.loop-word.word-index c.loop-word.made (omega arith) c.loop-word.invariant
