-- A swap takes the inversion of the one generator to that of the other, so that swaps and one inversion tell of all inversions.
use Rattle.std.proofs.Common.{◌≡◌, ℕ, zero, suc, ◌+◌, ◌<◌, ◌≤◌, List, [], ◌∷◌, map, refl, sym, ap, ap₂, subst, ◌∙◌, arith}
use Rattle.std.specs.Prelude.{Contains}
use Rattle.std.proofs.lemmas.Bool.Decides.{nat_tests}
use Rattle.wh_words.specs.Limits.{most_rank}
use Rattle.wh_words.specs.Letters.{inverse_letter}
use Rattle.wh_words.specs.CyclicWords.{cyclic_word}
use Rattle.wh_words.specs.Tuples.{TupleData}
use Rattle.wh_words.specs.Moves.{Move, IsKind}
use Rattle.wh_words.specs.Moves.Kind.{swap, invert}
use Rattle.wh_words.specs.Images.{swap_letter, invert_letter}
use Rattle.wh_words.specs.Action.{substitute, act}
use Rattle.wh_words.specs.Levels.{IsLevelMove}
use Rattle.wh_cert.specs.Listings.{StaysIn}
use Rattle.wh_cert.specs.Orbits.{IsPermutedIn}
use Rattle.wh_cert.proofs.PermutedLetters.{letters_mapped, class_of_image, permuting_level}

taken_letter : (k x : ℕ) → 0 < k → swap_letter k (invert_letter k (swap_letter k x)) ≡ invert_letter (k + 1) x
unfolding inverse_letter
taken_letter k x h = grind (arith, nat_tests)

taken_letters : (k : ℕ) → 0 < k → (w : List ℕ) → map (swap_letter k) (map (invert_letter k) (map (swap_letter k) w)) ≡ map (invert_letter (k + 1)) w
taken_letters k h [] = refl
taken_letters k h (x ∷ w) = ap₂ (λ y v. y ∷ v) (taken_letter k x h) (taken_letters k h w)

module _ (n k : ℕ) (swaps : IsKind n (swap k)) where
  inverts : IsKind n (invert k)
  inverts = (swaps.0, omega (arith, swaps.1))

  -- A swap, the inversion of the one generator and the swap again.
  abbrev there_and_back : List ℕ → List ℕ
  there_and_back w = substitute (swap k) (substitute (invert k) (substitute (swap k) w))

  there_and_back_is : (w : List ℕ) → there_and_back w ≡ substitute (invert (k + 1)) w
  there_and_back_is w =
      letters_mapped (swap k) tt (substitute (invert k) (substitute (swap k) w))
      ∙ (ap (map (swap_letter k)) (letters_mapped (invert k) tt (substitute (swap k) w) ∙ ap (map (invert_letter k)) (letters_mapped (swap k) tt w))
      ∙ (taken_letters k swaps.0 w ∙ sym (letters_mapped (invert (k + 1)) tt w)))

  taken_word : (w : List ℕ) → cyclic_word (substitute (swap k) (cyclic_word (substitute (invert k) (cyclic_word (substitute (swap k) w))))) ≡ cyclic_word (substitute (invert (k + 1)) w)
  taken_word w =
      ap (λ v. cyclic_word (substitute (swap k) v)) (class_of_image n (invert k) inverts (substitute (swap k) w))
      ∙ (class_of_image n (swap k) swaps (substitute (invert k) (substitute (swap k) w)) ∙ ap cyclic_word (there_and_back_is w))

  taken_words : (ws : List (List ℕ)) →
      map (λ w. cyclic_word (substitute (swap k) w)) (map (λ w. cyclic_word (substitute (invert k) w)) (map (λ w. cyclic_word (substitute (swap k) w)) ws))
      ≡ map (λ w. cyclic_word (substitute (invert (k + 1)) w)) ws
  taken_words [] = refl
  taken_words (w ∷ ws) = ap₂ (λ (v : List ℕ) (vs : List (List ℕ)). v ∷ vs) (taken_word w) (taken_words ws)

  abbrev swapping : Move
  swapping = record { rank = n; kind = swap k }

  abbrev inverting : Move
  inverting = record { rank = n; kind = invert k }

  taken_over : (t : TupleData) → act (act (act t swapping) inverting) swapping ≡ act t (record { rank = n; kind = invert (k + 1) })
  taken_over t = ap (λ (ws : List (List ℕ)). record { rank = t.rank; words = ws }) (taken_words t.words)

-- ---- lists
module _ (ts : List TupleData) (permuted : (t : TupleData) → Contains ts t → IsPermutedIn ts t) where
  swapped_in : (k : ℕ) (t : TupleData) → t.rank ≤ most_rank → IsKind t.rank (swap k) → Contains ts t → Contains ts (act t (record { rank = t.rank; kind = swap k }))
  swapped_in k t few v c =
      (permuted t c).swaps k (permuting_level t (record { rank = t.rank; kind = swap k }) (permuted t c).tuple (record { rank = few; kind = v }) refl tt)

  next_inversion : (k : ℕ) → ((t : TupleData) → Contains ts t → StaysIn ts t (record { rank = t.rank; kind = invert k })) →
      (t : TupleData) → t.rank ≤ most_rank → IsKind t.rank (swap k) → Contains ts t → Contains ts (act t (record { rank = t.rank; kind = invert (k + 1) }))
  next_inversion k before t few v c =
      let swapped : TupleData = act t (record { rank = t.rank; kind = swap k }) in
      let one : Contains ts swapped = swapped_in k t few v c in
      let level : IsLevelMove swapped (record { rank = t.rank; kind = invert k }) =
      permuting_level swapped (record { rank = t.rank; kind = invert k }) (permuted swapped one).tuple (record { rank = few; kind = inverts t.rank k v }) refl tt in
      let two : Contains ts (act swapped (record { rank = t.rank; kind = invert k })) = before swapped one level in
      subst (Contains ts) (taken_over t.rank k v t) (swapped_in k (act swapped (record { rank = t.rank; kind = invert k })) few v two)

  pub inversions_stay : (k : ℕ) (t : TupleData) → Contains ts t → StaysIn ts t (record { rank = t.rank; kind = invert k })
  inversions_stay zero t c level = absurd (omega (arith, level.valid.kind.0))
  inversions_stay (suc zero) t c level = (permuted t c).inversion level
  inversions_stay (suc (suc k)) t c level =
      let next : suc k + 1 ≡ suc (suc k) = omega arith in
      subst (λ (j : ℕ). Contains ts (act t (record { rank = t.rank; kind = invert j }))) next
      (next_inversion (suc k) (inversions_stay (suc k)) t level.valid.rank (omega arith, omega (arith, level.valid.kind.1)) c)
