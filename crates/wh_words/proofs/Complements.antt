-- A cut (A, a) and the cut with the complement of A and the inverse of a take a tuple to one tuple.
use Rattle.std.proofs.Common.{◌≡◌, ℕ, ◌-◌, ◌*◌, ◌<◌, ◌==◌, ◌&&◌, Bool, true, false, not, cond, List, [], ◌∷◌, ◌++◌, length, map, get_or, refl, sym, ap, ◌∙◌, arith}
use Rattle.std.specs.List.{All}
use Rattle.std.proofs.lemmas.List.Elements.{All-head, All-tail, All-get_or}
use Rattle.wh_words.specs.Letters.{inverse_letter}
use Rattle.wh_words.specs.LetterSets.{in_set}
use Rattle.wh_words.specs.Words.{IsOfRank}
use Rattle.wh_words.specs.CyclicWords.{cyclic_word, least_rotation}
use Rattle.wh_words.specs.Passes.{kept, junction_of, junction, pass, round_pass}
use Rattle.wh_words.specs.Tuples.{TupleData, IsTuple}
use Rattle.wh_words.specs.Moves.{IsCut, cut_move}
use Rattle.wh_words.specs.Moves.Kind.{cut}
use Rattle.wh_words.specs.Action.{act, substitute}
use Rattle.wh_words.proofs.FreeReduction.{inverse-inverse}
use Rattle.wh_words.proofs.CutImages.{cut_image}
use Rattle.wh_words.proofs.LetterMaps.{inverse_below}

-- ---- the pass
module _ (a : ℕ) (has other : ℕ → Bool) where
  turned_junction : (b c : Bool) → junction_of (inverse_letter a) other (not b) (not c) ≡ junction_of a has b c
  turned_junction true true = refl
  turned_junction true false = ap (λ z. z ∷ []) (inverse-inverse a)
  turned_junction false true = refl
  turned_junction false false = refl

  swapped_and : (b c : Bool) → (not b && not c) ≡ (not c && not b)
  swapped_and true true = refl
  swapped_and true false = refl
  swapped_and false true = refl
  swapped_and false false = refl

  turned_kept : (x : ℕ) → kept (inverse_letter a) other x ≡ kept a has x
  turned_kept x =
      ap (λ z. cond (not (x == inverse_letter a) && not (x == z)) (x ∷ []) []) (inverse-inverse a)
      ∙ ap (λ b. cond b (x ∷ []) []) (swapped_and (x == inverse_letter a) (x == a))

  -- Each letter of rank n is in just one of the two sets.
  module _ (n : ℕ) (flips : (x : ℕ) → x < 2 * n → other x ≡ not (has x)) where
    turned_pass : (p : ℕ) (w : List ℕ) → p < 2 * n → IsOfRank n w → pass (inverse_letter a) other p w ≡ pass a has p w
    turned_pass p [] l of_rank = refl
    turned_pass p (x ∷ w) l of_rank =
        let low : x < 2 * n = All-head (λ y. y < 2 * n) x w of_rank in
        ap (λ b. junction_of (inverse_letter a) other b (other (inverse_letter x)) ++ (kept (inverse_letter a) other x ++ pass (inverse_letter a) other x w)) (flips p l)
        ∙ ap (λ b. junction_of (inverse_letter a) other (not (has p)) b ++ (kept (inverse_letter a) other x ++ pass (inverse_letter a) other x w)) (flips (inverse_letter x) (inverse_below n x low))
        ∙ ap (λ v. v ++ (kept (inverse_letter a) other x ++ pass (inverse_letter a) other x w)) (turned_junction (has p) (has (inverse_letter x)))
        ∙ ap (λ v. junction a has p x ++ (v ++ pass (inverse_letter a) other x w)) (turned_kept x)
        ∙ ap (λ v. junction a has p x ++ (kept a has x ++ v)) (turned_pass x w low (All-tail (λ y. y < 2 * n) x w of_rank))

    turned_round : (w : List ℕ) → IsOfRank n w → round_pass (inverse_letter a) other w ≡ round_pass a has w
    turned_round [] of_rank = refl
    turned_round (x ∷ w) of_rank =
        turned_pass (get_or (x ∷ w) (length (x ∷ w) - 1) 0) (x ∷ w) (All-get_or (λ y. y < 2 * n) (x ∷ w) (length (x ∷ w) - 1) 0 (omega arith) of_rank) of_rank

-- ---- tuples
module _ (n a set other : ℕ) (is : IsCut n a set) (turned : IsCut n (inverse_letter a) other) (flips : (x : ℕ) → x < 2 * n → in_set other x ≡ not (in_set set x)) where
  turned_words : (ws : List (List ℕ)) → All (λ w. cyclic_word w ≡ w) ws → All (IsOfRank n) ws →
      map (λ w. cyclic_word (substitute (cut (inverse_letter a) other) w)) ws ≡ map (λ w. cyclic_word (substitute (cut a set) w)) ws
  turned_words [] own of_rank = refl
  turned_words (w ∷ ws) own of_rank =
      let mine : cyclic_word w ≡ w = All-head (λ v. cyclic_word v ≡ v) w ws own in
      ap (λ v. v ∷ map (λ u. cyclic_word (substitute (cut (inverse_letter a) other) u)) ws)
      (cut_image (inverse_letter a) other w turned.holds turned.omits mine
      ∙ ap least_rotation (turned_round a (in_set set) (in_set other) n flips w (All-head (IsOfRank n) w ws of_rank))
      ∙ sym (cut_image a set w is.holds is.omits mine))
      ∙ ap (λ vs. cyclic_word (substitute (cut a set) w) ∷ vs) (turned_words ws (All-tail (λ v. cyclic_word v ≡ v) w ws own) (All-tail (IsOfRank n) w ws of_rank))

pub turned_acts : (t : TupleData) (a set other : ℕ) → IsTuple t → IsCut t.rank a set → IsCut t.rank (inverse_letter a) other →
    ((x : ℕ) → x < 2 * t.rank → in_set other x ≡ not (in_set set x)) → act t (cut_move t.rank (inverse_letter a) other) ≡ act t (cut_move t.rank a set)
turned_acts t a set other tuple is turned flips =
    ap (λ (ws : List (List ℕ)). record { rank = t.rank; words = ws }) (turned_words t.rank a set other is turned flips t.words tuple.cyclic tuple.of_rank)
