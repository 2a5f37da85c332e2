use Rattle.std.proofs.Common.{ℕ, [], length, sym, ap, ◌∙◌, subst, arith}
use Rattle.wh_words.specs.CyclicWords.{cyclic_word}
use Rattle.wh_words.specs.Tuples.{Tuple, with_word}
use Rattle.wh_words.specs.Words.{IsOfRank}
use Rattle.wh_words.proofs.CutImages.{own_reduced}
use Rattle.wh_words.proofs.MadeOfCyclic.{made_fits, made_place, made_more, made_own}
use Rattle.wh_words.proofs.tuple.Tuple.of_cyclic.Goals as goal

pub loop-word-init : goal.loop-word-init
loop-word-init c =
    c.in_ok-made.ensures.made
    ∙ ap (λ (n : ℕ). record { plain = record { rank = c.args.rank; words = [] }; room = n; word_room = length c.args.words.now }) c.total_length.ensures

pub push_word-requires-clause-reduced : goal.push_word-requires-clause-reduced
push_word-requires-clause-reduced c =
    own_reduced c.letters.result.now (ap cyclic_word c.letters.ensures.value ∙ c.letters.ensures.own ∙ sym c.letters.ensures.value)

pub push_word-requires-clause-of_rank : goal.push_word-requires-clause-of_rank
push_word-requires-clause-of_rank c =
    subst (λ (n : ℕ). IsOfRank n c.letters.result.now) (sym (ap (λ (u : Tuple). u.plain.rank) c.loop-word.invariant))
    (subst (IsOfRank c.args.rank) (sym (c.letters.ensures.value ∙ c.word-item.is)) (c.requires.of_rank c.loop-word.word-index c.word-item.result (omega arith)))

pub push_word-requires-clause-letters : goal.push_word-requires-clause-letters
push_word-requires-clause-letters c =
    omega (
      arith,
      made_fits c.args.rank c.args.words.now c.loop-word.word-index c.word-item.result c.loop-word.made (omega arith) c.word-item.is c.loop-word.invariant c.letters.ensures.own,
      ap (λ v. length (cyclic_word v)) c.letters.ensures.value,
    )

pub push_word-requires-clause-place : goal.push_word-requires-clause-place
push_word-requires-clause-place c = made_place c.args.rank c.args.words.now c.loop-word.word-index c.loop-word.made (omega arith) c.loop-word.invariant

pub loop-word-preserved : goal.loop-word-preserved
loop-word-preserved c =
    made_more c.args.rank c.args.words.now c.loop-word.word-index c.word-item.result c.loop-word.made c.push_word.new.self (omega arith) c.word-item.is c.loop-word.invariant c.letters.ensures.own
    (c.push_word.ensures ∙ ap (λ v. with_word c.loop-word.made (cyclic_word v)) c.letters.ensures.value)

pub returns-clause-made : goal.returns-clause-made
returns-clause-made c = made_own c.args.rank c.args.words.now c.loop-word.word-index c.loop-word.made (omega arith) c.loop-word.invariant
