-- A cut and then a swap or an inversion is the swap or inversion and then the cut of the permuted letters.
use Rattle.std.proofs.Common.{◌≡◌, ◌≢◌, ℕ, ◌*◌, ◌/◌, ◌<◌, Bool, true, false, List, [], ◌∷◌, ◌++◌, map, refl, sym, ap, ap₂, subst, ◌∙◌, inl, inr, ◌⊎◌, arith}
use Rattle.std.specs.List.{All}
use Rattle.std.proofs.lemmas.Bool.{cases_eq}
use Rattle.std.proofs.lemmas.List.{map-append}
use Rattle.std.proofs.lemmas.List.Elements.{All-head, All-tail}
use Rattle.wh_words.specs.Letters.{inverse_letter}
use Rattle.wh_words.specs.LetterSets.{in_set}
use Rattle.wh_words.specs.Words.{IsOfRank}
use Rattle.wh_words.specs.CyclicWords.{cyclic_word}
use Rattle.wh_words.specs.Tuples.{TupleData, IsTuple}
use Rattle.wh_words.specs.Moves.{Kind, IsKind, IsCut, cut_move}
use Rattle.wh_words.specs.Moves.Kind.{cut}
use Rattle.wh_words.specs.Images.{image}
use Rattle.wh_words.specs.Action.{substitute, act}
use Rattle.wh_words.proofs.FreeReduction.{inverse_generator}
use Rattle.wh_words.proofs.ImageLetters.{image_of_rank}
use Rattle.wh_words.proofs.LetterMaps.{inverse_below}
use Rattle.wh_words.proofs.CutWords.{around, own_image, other_image}
use Rattle.wh_graph.proofs.SetNumbers.{mask, mask_has, mask_cut, holds, omits}
use Rattle.wh_cert.specs.Orbits.{PermutesLetters}
use Rattle.wh_cert.proofs.PermutedLetters.{letter, letter_image, letter_turns, letter_twice, letters_mapped, class_of_image}

either_letter : (a x : ℕ) → x / 2 ≡ a / 2 → (x ≡ a) ⊎ (x ≡ inverse_letter a)
unfolding inverse_letter
either_letter a x e = elim (cases_eq x a) [ inl s ↦ inl s | inr n ↦ inr (omega (arith, e, n)) ]

module _ (n : ℕ) (k : Kind) (valid : IsKind n k) (permutes : PermutesLetters k) where
  turns : (x : ℕ) → letter k (inverse_letter x) ≡ inverse_letter (letter k x)
  turns = letter_turns n k valid permutes

  twice : (x : ℕ) → letter k (letter k x) ≡ x
  twice = letter_twice n k valid permutes

  letter_below : (x : ℕ) → x < 2 * n → letter k x < 2 * n
  letter_below x l = All-head (λ y. y < 2 * n) (letter k x) [] (subst (IsOfRank n) (letter_image k permutes x) (image_of_rank n k x valid l))

  one_generator : (a x : ℕ) → x / 2 ≡ a / 2 → letter k x / 2 ≡ letter k a / 2
  one_generator a x e = elim (either_letter a x e) [
    | inl s ↦ ap (λ y. letter k y / 2) s
    | inr s ↦ ap (λ y. letter k y / 2) s ∙ (ap (λ y. y / 2) (turns a) ∙ inverse_generator (letter k a))
  ]

  two_generators : (a x : ℕ) → x / 2 ≢ a / 2 → letter k x / 2 ≢ letter k a / 2
  two_generators a x m e = m (ap (λ y. y / 2) (sym (twice x)) ∙ (one_generator (letter k a) (letter k x) e ∙ ap (λ y. y / 2) (twice a)))

  permuted_around : (b c : Bool) (a x : ℕ) → map (letter k) (around b c a x) ≡ around b c (letter k a) (letter k x)
  permuted_around true true a x = ap (λ y. y ∷ letter k x ∷ letter k a ∷ []) (turns a)
  permuted_around true false a x = ap (λ y. y ∷ letter k x ∷ []) (turns a)
  permuted_around false true a x = refl
  permuted_around false false a x = refl

  -- The letters of a set that holds the permuted letters of another.
  module _ (a A B : ℕ) (same : (x : ℕ) → x < 2 * n → in_set B (letter k x) ≡ in_set A x) where
    permuted_image : (x : ℕ) → x < 2 * n → map (letter k) (image (cut a A) x) ≡ image (cut (letter k a) B) (letter k x)
    permuted_image x l = elim (cases_eq (x / 2) (a / 2)) [
      | inl e ↦ ap (map (letter k)) (own_image a A x e) ∙ sym (own_image (letter k a) B (letter k x) (one_generator a x e))
      | inr m ↦ ap (map (letter k)) (other_image a A x m)
          ∙ (permuted_around (in_set A (inverse_letter x)) (in_set A x) a x
          ∙ sym (other_image (letter k a) B (letter k x) (two_generators a x m)
          ∙ ap₂ (λ s t. around s t (letter k a) (letter k x)) (ap (in_set B) (sym (turns x)) ∙ same (inverse_letter x) (inverse_below n x l)) (same x l)))
    ]

    permuted_word : (w : List ℕ) → IsOfRank n w → map (letter k) (substitute (cut a A) w) ≡ substitute (cut (letter k a) B) (map (letter k) w)
    permuted_word [] r = refl
    permuted_word (x ∷ w) r =
        map-append (letter k) (image (cut a A) x) (substitute (cut a A) w)
        ∙ ap₂ (λ u v. u ++ v) (permuted_image x (All-head (λ y. y < 2 * n) x w r)) (permuted_word w (All-tail (λ y. y < 2 * n) x w r))

    past_word : IsCut n a A → IsCut n (letter k a) B → (w : List ℕ) → IsOfRank n w →
        cyclic_word (substitute k (cyclic_word (substitute (cut a A) w))) ≡ cyclic_word (substitute (cut (letter k a) B) (cyclic_word (substitute k w)))
    past_word c d w r =
        class_of_image n k valid (substitute (cut a A) w)
        ∙ (ap cyclic_word (letters_mapped k permutes (substitute (cut a A) w) ∙ (permuted_word w r ∙ ap (substitute (cut (letter k a) B)) (sym (letters_mapped k permutes w))))
        ∙ sym (class_of_image n (cut (letter k a) B) d (substitute k w)))

    past_words : IsCut n a A → IsCut n (letter k a) B → (ws : List (List ℕ)) → All (IsOfRank n) ws →
        map (λ w. cyclic_word (substitute k w)) (map (λ w. cyclic_word (substitute (cut a A) w)) ws)
        ≡ map (λ w. cyclic_word (substitute (cut (letter k a) B) w)) (map (λ w. cyclic_word (substitute k w)) ws)
    past_words c d [] r = refl
    past_words c d (w ∷ ws) r =
        ap₂ (λ (v : List ℕ) (vs : List (List ℕ)). v ∷ vs) (past_word c d w (All-head (IsOfRank n) w ws r)) (past_words c d ws (All-tail (IsOfRank n) w ws r))

  -- The set of the permuted letters of a set.
  abbrev pub permuted_set : ℕ → ℕ
  permuted_set A = mask (2 * n) (λ x. in_set A (letter k x))

  permuted_has : (A x : ℕ) → x < 2 * n → in_set (permuted_set A) (letter k x) ≡ in_set A x
  permuted_has A x l = mask_has (2 * n) (λ y. in_set A (letter k y)) (letter k x) (letter_below x l) ∙ ap (in_set A) (twice x)

  pub permuted_cut : (a A : ℕ) → IsCut n a A → IsCut n (letter k a) (permuted_set A)
  permuted_cut a A c =
      mask_cut n (letter k a) (λ x. in_set A (letter k x)) (letter_below a c.of_rank)
      (ap (in_set A) (twice a) ∙ holds A a c.holds)
      (ap (λ y. in_set A (letter k y)) (sym (turns a)) ∙ (ap (in_set A) (twice (inverse_letter a)) ∙ omits A (inverse_letter a) c.omits))

  pub past_cut : (t : TupleData) (a A : ℕ) → IsTuple t → t.rank ≡ n → IsCut n a A →
      act (act t (cut_move n a A)) (record { rank = n; kind = k }) ≡ act (act t (record { rank = n; kind = k })) (cut_move n (letter k a) (permuted_set A))
  past_cut t a A is e c =
      ap (λ (ws : List (List ℕ)). record { rank = t.rank; words = ws })
      (past_words a A (permuted_set A) (permuted_has A) c (permuted_cut a A c) t.words (subst (λ (r : ℕ). All (IsOfRank r) t.words) e is.of_rank))
