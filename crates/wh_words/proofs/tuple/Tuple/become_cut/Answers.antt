use Rattle.std.proofs.Common.{◌≡◌, ℕ, List, length, map, sym, ap, ◌∙◌, subst, arith}
use Rattle.wh_words.specs.Moves.{IsCut, cut_move}
use Rattle.wh_words.specs.Action.{act}
use Rattle.wh_words.specs.Storage.{split_at}
use Rattle.wh_words.specs.Tuples.{Tuple, tuple_length}
use Rattle.wh_words.proofs.StoredWords.{split_at_length}
use Rattle.wh_words.proofs.CutRows.{cut_word, cut_row}
use Rattle.wh_words.proofs.tuple.Tuple.become_cut.Goals as goal

pub fill_cuts-requires-clause-places : goal.fill_cuts-requires-clause-places
fill_cuts-requires-clause-places c =
    omega (
      arith,
      ap length c.as_slice-2.ensures,
      split_at_length 0 c.tuple.inside.ends.items c.tuple.inside.letters.items,
      ap (λ (u : Tuple). length u.plain.words) c.tuple.view_is,
      ap (λ (u : Tuple). u.word_room) c.self.view_is,
      c.requires.words,
      c.self.invariant.held_words,
    )

pub invariant_of-self : goal.invariant_of-self
invariant_of-self c =
    let rank : c.args.tuple.now.plain.rank ≡ c.tuple.inside.rank = ap (λ (u : Tuple). u.plain.rank) (sym c.tuple.view_is) in
    let words : split_at 0 c.fill_cuts.new.marks.items c.fill_cuts.new.letters.items ≡ map (cut_word c.args.mult c.args.set) (split_at 0 c.tuple.inside.ends.items c.tuple.inside.letters.items) =
    c.fill_cuts.ensures.words
    ∙ ap (λ (es : List ℕ). map (cut_word c.args.mult c.args.set) (split_at 0 es c.as_slice.result.now)) c.as_slice-2.ensures
    ∙ ap (λ (xs : List ℕ). map (cut_word c.args.mult c.args.set) (split_at 0 c.tuple.inside.ends.items xs)) c.as_slice.ensures in
    cut_row c.tuple.inside.rank c.args.mult c.args.set c.tuple.inside.ends.items c.tuple.inside.letters.items c.fill_cuts.new.marks.items c.fill_cuts.new.letters.items
    c.self.inside.room c.self.inside.word_room c.fill_cuts.new.letters.capacity c.fill_cuts.new.marks.capacity
    c.tuple.invariant.roomed.tuple (subst (λ (n : ℕ). IsCut n c.args.mult c.args.set) rank c.requires.is_cut) words c.fill_cuts.ensures.laid
    (omega (
      arith,
      c.requires.letters,
      ap (λ (u : Tuple). tuple_length (act u.plain (cut_move u.plain.rank c.args.mult c.args.set))) c.tuple.view_is,
      ap (λ (u : Tuple). u.room) c.self.view_is,
    ))
    (omega (arith, c.requires.words, ap (λ (u : Tuple). length u.plain.words) c.tuple.view_is, ap (λ (u : Tuple). u.word_room) c.self.view_is))
    c.self.invariant.roomed.letters_within c.self.invariant.roomed.words_within
    (omega (arith, c.fill_cuts.ensures.capacity, c.self.invariant.held)) (omega (arith, c.fill_cuts.ensures.ends_capacity, c.self.invariant.held_words))
