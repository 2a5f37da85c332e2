use Rattle.std.proofs.Common.{◌≡◌, ℕ, ◌+◌, List, [], ◌∷◌, ◌++◌, length, map, sym, ap, ◌∙◌, subst, arith, length-append}
use Rattle.std.proofs.lemmas.List.{length-map}
use Rattle.wh_words.specs.CyclicWords.{cyclic_word, least_rotation}
use Rattle.wh_words.specs.Tuples.{Tuple}
use Rattle.wh_words.specs.Words.{IsOfRank}
use Rattle.wh_words.specs.Images.{invert_letter}
use Rattle.wh_words.specs.Action.{substitute}
use Rattle.wh_words.specs.Moves.{IsKind}
use Rattle.wh_words.specs.Moves.Kind.{invert}
use Rattle.wh_words.proofs.Rotations.{cyclic_word-same}
use Rattle.wh_words.proofs.StoredWords.{cyclic_word-of_rank}
use Rattle.wh_words.proofs.ImageLetters.{substitute_of_rank}
use Rattle.wh_words.proofs.CutImages.{least_length}
use Rattle.wh_words.proofs.Mapped.{invert_image}
use Rattle.wh_words.proofs.Storing.{letter_fits, place_fits, word_written, end_written, row_same, row_push, row_view}
use Rattle.wh_words.proofs.tuple.Tuple.push_invert.Goals as goal

pub push_inverted-requires : goal.push_inverted-requires
push_inverted-requires c =
    omega (
      arith,
      letter_fits c.args.self.now c.self.inside.rank c.self.inside.ends.items c.self.inside.letters.items c.self.inside.room c.self.inside.word_room c.self.inside.letters.capacity c.self.inside.ends.capacity (length (cyclic_word (substitute (invert c.args.k) c.args.word.now))) c.self.view_is c.self.invariant c.requires.letters,
      c.self.invariant.held,
      ap length (invert_image c.args.k c.args.word.now c.requires.own),
      least_length (map (invert_letter c.args.k) c.args.word.now),
      length-map c.args.word.now (invert_letter c.args.k),
    )

pub end_word-requires-clause-short : goal.end_word-requires-clause-short
end_word-requires-clause-short c =
    omega (
      arith,
      letter_fits c.args.self.now c.self.inside.rank c.self.inside.ends.items c.self.inside.letters.items c.self.inside.room c.self.inside.word_room c.self.inside.letters.capacity c.self.inside.ends.capacity (length (cyclic_word (substitute (invert c.args.k) c.args.word.now))) c.self.view_is c.self.invariant c.requires.letters,
      c.self.invariant.roomed.letters_within,
      ap length (invert_image c.args.k c.args.word.now c.requires.own),
      least_length (map (invert_letter c.args.k) c.args.word.now),
      ap length c.push_inverted.ensures.items,
      length-append c.self.inside.letters.items (map (invert_letter c.args.k) c.args.word.now),
    )

pub end_word-requires-clause-room : goal.end_word-requires-clause-room
end_word-requires-clause-room c =
    omega (arith, place_fits c.args.self.now c.self.inside.rank c.self.inside.ends.items c.self.inside.letters.items c.self.inside.room c.self.inside.word_room c.self.inside.letters.capacity c.self.inside.ends.capacity c.self.view_is c.self.invariant c.requires.place, c.self.invariant.held_words)

pub invariant_of-self : goal.invariant_of-self
invariant_of-self c =
    let w : List ℕ = cyclic_word (substitute (invert c.args.k) c.args.word.now) in
    let is : w ≡ least_rotation (map (invert_letter c.args.k) c.args.word.now) = invert_image c.args.k c.args.word.now c.requires.own in
    let xs : c.end_word.new.letters.items ≡ c.self.inside.letters.items ++ w =
    word_written c.self.inside.letters.items (map (invert_letter c.args.k) c.args.word.now) w c.push_inverted.new.self.items c.end_word.new.letters.items c.len-start.result c.len-start.ensures.value c.push_inverted.ensures.items c.end_word.ensures.items is in
    let es : c.end_word.new.ends.items ≡ c.self.inside.ends.items ++ (length c.self.inside.letters.items + length w) ∷ [] =
    end_written c.self.inside.letters.items (map (invert_letter c.args.k) c.args.word.now) w c.push_inverted.new.self.items c.self.inside.ends.items c.end_word.new.ends.items c.push_inverted.ensures.items is c.end_word.ensures.ends in
    let rank : c.self.inside.rank ≡ c.args.self.now.plain.rank = ap (λ (u : Tuple). u.plain.rank) c.self.view_is in
    let kind : IsKind c.args.self.now.plain.rank (invert c.args.k) = c.requires.is_invert in
    row_same c.self.inside.rank (c.self.inside.ends.items ++ (length c.self.inside.letters.items + length w) ∷ []) (c.self.inside.letters.items ++ w) c.end_word.new.ends.items c.end_word.new.letters.items
    c.self.inside.room c.self.inside.word_room c.self.inside.letters.capacity c.self.inside.ends.capacity c.end_word.new.letters.capacity c.end_word.new.ends.capacity
    (row_push c.self.inside.rank c.self.inside.ends.items c.self.inside.letters.items c.self.inside.room c.self.inside.word_room c.self.inside.letters.capacity c.self.inside.ends.capacity w c.self.invariant
    (cyclic_word-same (substitute (invert c.args.k) c.args.word.now))
    (subst (λ (n : ℕ). IsOfRank n w) (sym rank) (cyclic_word-of_rank c.args.self.now.plain.rank (substitute (invert c.args.k) c.args.word.now) (substitute_of_rank c.args.self.now.plain.rank (invert c.args.k) c.args.word.now kind c.requires.of_rank)))
    (letter_fits c.args.self.now c.self.inside.rank c.self.inside.ends.items c.self.inside.letters.items c.self.inside.room c.self.inside.word_room c.self.inside.letters.capacity c.self.inside.ends.capacity (length w) c.self.view_is c.self.invariant c.requires.letters)
    (place_fits c.args.self.now c.self.inside.rank c.self.inside.ends.items c.self.inside.letters.items c.self.inside.room c.self.inside.word_room c.self.inside.letters.capacity c.self.inside.ends.capacity c.self.view_is c.self.invariant c.requires.place))
    es xs (c.end_word.ensures.capacity ∙ c.push_inverted.ensures.capacity) c.end_word.ensures.ends_capacity

pub returns : goal.returns
returns c =
    let w : List ℕ = cyclic_word (substitute (invert c.args.k) c.args.word.now) in
    let is : w ≡ least_rotation (map (invert_letter c.args.k) c.args.word.now) = invert_image c.args.k c.args.word.now c.requires.own in
    row_view c.self.inside.rank c.self.inside.ends.items c.self.inside.letters.items c.end_word.new.ends.items c.end_word.new.letters.items w c.self.inside.room c.self.inside.word_room c.args.self.now c.self.invariant.laid c.self.view_is
    (end_written c.self.inside.letters.items (map (invert_letter c.args.k) c.args.word.now) w c.push_inverted.new.self.items c.self.inside.ends.items c.end_word.new.ends.items c.push_inverted.ensures.items is c.end_word.ensures.ends)
    (word_written c.self.inside.letters.items (map (invert_letter c.args.k) c.args.word.now) w c.push_inverted.new.self.items c.end_word.new.letters.items c.len-start.result c.len-start.ensures.value c.push_inverted.ensures.items c.end_word.ensures.items is)
