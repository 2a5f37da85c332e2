-- The definitions, computed on worked examples. Letters are written by index: a 0, A 1, b 2, B 3, c 4, C 5.
use Rattle.std.proofs.Common.{◌≡◌, [], ◌∷◌, refl}
use Rattle.std.specs.declared.cmp.Ordering.TheVariants.{Less, Greater}
use Rattle.wh_words.specs.Letters.{inverse_letter}
use Rattle.wh_words.specs.Words.{free_reduction, word_cmp}
use Rattle.wh_words.specs.CyclicWords.{cyclic_core, least_below, cyclic_reduction, cyclic_word}
use Rattle.wh_words.specs.Tuples.{TupleData}
use Rattle.wh_words.specs.Moves.{cut_move, move_cmp}
use Rattle.wh_words.specs.Moves.Kind.{swap, invert}
use Rattle.wh_words.specs.Images.{images}
use Rattle.wh_words.specs.Action.{act}

-- abBAc is ac
reduces : free_reduction (0 ∷ 2 ∷ 3 ∷ 1 ∷ 4 ∷ []) ≡ 4 ∷ []
unfolding inverse_letter
reduces = refl

-- BabAb reduces cyclically to b
reduces_round : cyclic_reduction (3 ∷ 0 ∷ 2 ∷ 1 ∷ 2 ∷ []) ≡ 2 ∷ []
unfolding inverse_letter cyclic_core
reduces_round = refl

-- the cyclic word of bAB is A, and that of BAba is aBAb
of_conjugate : cyclic_word (2 ∷ 1 ∷ 3 ∷ []) ≡ 1 ∷ []
unfolding inverse_letter cyclic_core least_below
of_conjugate = refl

of_commutator : cyclic_word (3 ∷ 1 ∷ 2 ∷ 0 ∷ []) ≡ 0 ∷ 3 ∷ 1 ∷ 2 ∷ []
unfolding inverse_letter cyclic_core least_below
of_commutator = refl

-- a comes before A, and a word before the words that it begins
in_order : word_cmp (0 ∷ []) (1 ∷ []) ≡ Less
in_order = refl

prefix_first : word_cmp (0 ∷ 2 ∷ []) (0 ∷ []) ≡ Greater
prefix_first = refl

-- ---- the cut of multiplier a and set {a, B}, in rank 2
images_of_cut : images (cut_move 2 0 9) ≡ (0 ∷ []) ∷ (1 ∷ 2 ∷ []) ∷ []
unfolding inverse_letter
images_of_cut = refl

abbrev ab : TupleData
ab = record { rank = 2; words = (0 ∷ 2 ∷ []) ∷ [] }

-- it takes ab to b
shortens : act ab (cut_move 2 0 9) ≡ record { rank = 2; words = (2 ∷ []) ∷ [] }
unfolding inverse_letter cyclic_core least_below
shortens = refl

-- swap 1 takes ab to itself turned, and inversion 2 takes it to aB
swaps : act ab (record { rank = 2; kind = swap 1 }) ≡ ab
unfolding inverse_letter cyclic_core least_below
swaps = refl

inverts : act ab (record { rank = 2; kind = invert 2 }) ≡ record { rank = 2; words = (0 ∷ 3 ∷ []) ∷ [] }
unfolding inverse_letter cyclic_core least_below
inverts = refl

swaps_first : move_cmp (record { rank = 2; kind = swap 1 }) (record { rank = 2; kind = invert 1 }) ≡ Less
swaps_first = refl
