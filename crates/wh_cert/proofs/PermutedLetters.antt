-- Swaps and inversions as permutations of letters that are level moves of every tuple.
use Rattle.std.proofs.Common.{◌≡◌, ℕ, List, [], ◌∷◌, ◌++◌, map, refl, sym, ap, ap₂, subst, ◌∙◌, arith}
use Rattle.std.specs.Prelude.{Contains}
use Rattle.wh_words.specs.Letters.{inverse_letter}
use Rattle.wh_words.specs.CyclicWords.{cyclic_word}
use Rattle.wh_words.specs.Tuples.{TupleData, IsTuple, tuple_length}
use Rattle.wh_words.specs.Moves.{Kind, Move, IsKind, IsMove, IsIdentityCut, inverse_kind}
use Rattle.wh_words.specs.Moves.Kind.{swap, invert, cut}
use Rattle.wh_words.specs.Images.{image, swap_letter, invert_letter}
use Rattle.wh_words.specs.Action.{substitute, act}
use Rattle.wh_words.specs.Levels.{IsLevelMove}
use Rattle.wh_words.proofs.LetterMaps.{swap_back, invert_back}
use Rattle.wh_words.proofs.ImageLetters.{act_tuple}
use Rattle.wh_words.proofs.Mapped.{swap_turns, invert_turns}
use Rattle.wh_moves.proofs.Substitutions.{of_class}
use Rattle.wh_moves.proofs.InverseMoves.{image_cancels, undone}
use Rattle.wh_graph.proofs.Lengths.{swaps_keep, inversions_keep}
use Rattle.wh_cert.specs.Listings.{StaysIn, SwapsStay, InversionsStay}
use Rattle.wh_cert.specs.Orbits.{PermutesLetters, OrbitsAreIn}

-- ---- letters
-- The letter that a swap or an inversion takes a letter to.
abbrev pub letter : Kind → ℕ → ℕ
letter (swap k) x = swap_letter k x
letter (invert k) x = invert_letter k x
letter (cut a set) x = x

pub letter_image : (k : Kind) → PermutesLetters k → (x : ℕ) → image k x ≡ letter k x ∷ []
letter_image (swap k) p x = refl
letter_image (invert k) p x = refl
letter_image (cut a set) p x = absurd p

pub letter_turns : (n : ℕ) (k : Kind) → IsKind n k → PermutesLetters k → (x : ℕ) → letter k (inverse_letter x) ≡ inverse_letter (letter k x)
letter_turns n (swap k) v p x = swap_turns k v.0 x
letter_turns n (invert k) v p x = invert_turns k x
letter_turns n (cut a set) v p x = absurd p

pub letter_twice : (n : ℕ) (k : Kind) → IsKind n k → PermutesLetters k → (x : ℕ) → letter k (letter k x) ≡ x
letter_twice n (swap k) v p x = swap_back k v.0 x
letter_twice n (invert k) v p x = invert_back k x
letter_twice n (cut a set) v p x = absurd p

-- ---- words
pub letters_mapped : (k : Kind) → PermutesLetters k → (w : List ℕ) → substitute k w ≡ map (letter k) w
letters_mapped k p [] = refl
letters_mapped k p (x ∷ w) = ap₂ (λ u v. u ++ v) (letter_image k p x) (letters_mapped k p w)

-- The image of a cyclic word is that of the word.
pub class_of_image : (n : ℕ) (k : Kind) → IsKind n k → (w : List ℕ) → cyclic_word (substitute k (cyclic_word w)) ≡ cyclic_word (substitute k w)
class_of_image n k h w = of_class (image k) (image_cancels n k h) w

-- ---- tuples
-- Swaps and inversions are their own inverses.
pub own_inverse : (k : Kind) → PermutesLetters k → inverse_kind k ≡ k
own_inverse (swap j) p = refl
own_inverse (invert j) p = refl
own_inverse (cut a set) p = absurd p

-- They keep the length.
pub permuting_keeps : (t : TupleData) (n : ℕ) (k : Kind) → IsTuple t → IsKind n k → PermutesLetters k → tuple_length (act t (record { rank = n; kind = k })) ≡ tuple_length t
permuting_keeps t n (swap j) is v p = swaps_keep t j n is v
permuting_keeps t n (invert j) is v p = inversions_keep t j n is v
permuting_keeps t n (cut a set) is v p = absurd p

pub permuting_level : (t : TupleData) (m : Move) → IsTuple t → IsMove m → m.rank ≡ t.rank → PermutesLetters m.kind → IsLevelMove t m
permuting_level t m is v e p = record {
  valid = v;
  rank = e;
  kept = permuting_keeps t m.rank m.kind is v.kind p;
  moves = no_cut m.kind p;
}
  where
    no_cut : (k : Kind) → PermutesLetters k → ¬ (IsIdentityCut k)
    no_cut (swap j) q = λ h. h
    no_cut (invert j) q = λ h. h
    no_cut (cut a set) q = absurd q

pub level_tuple : (t : TupleData) (m : Move) → IsTuple t → IsLevelMove t m → IsTuple (act t m)
level_tuple t m is l = act_tuple t m is l.valid (sym l.rank) (omega (arith, l.kept, is.short))

pub permuted_back : (t : TupleData) (m : Move) → IsTuple t → IsMove m → PermutesLetters m.kind → act (act t m) m ≡ t
permuted_back t m is v p =
    ap (λ (k : Kind). act (act t m) (record { rank = m.rank; kind = k })) (sym (own_inverse m.kind p)) ∙ undone t m is v

pub kind_stays : (ts : List TupleData) (t : TupleData) (k : Kind) → PermutesLetters k → SwapsStay ts t × InversionsStay ts t → StaysIn ts t (record { rank = t.rank; kind = k })
kind_stays ts t (swap j) p s = s.0 j
kind_stays ts t (invert j) p s = s.1 j
kind_stays ts t (cut a set) p s = absurd p

pub own_rank : (m : Move) (n : ℕ) → m.rank ≡ n → m ≡ record { rank = n; kind = m.kind }
own_rank m n e = ap (λ (r : ℕ). record { rank = r; kind = m.kind }) e

pub permuted_stays : (ts : List TupleData) (t : TupleData) (m : Move) → IsTuple t → OrbitsAreIn ts → Contains ts t → IsMove m → m.rank ≡ t.rank → PermutesLetters m.kind → Contains ts (act t m)
permuted_stays ts t m is orbits own v e p =
    subst (λ (k : Move). Contains ts (act t k)) (sym (own_rank m t.rank e))
    (kind_stays ts t m.kind p (orbits t own) (subst (IsLevelMove t) (own_rank m t.rank e) (permuting_level t m is v e p)))
