-- Composites of lists of moves, and conjugating words of a rank.
use Rattle.std.proofs.lemmas.List.Concat.{flat_map-append}
use Rattle.std.proofs.Common.{◌≡◌, ℕ, ◌*◌, ◌≤◌, ◌<◌, List, [], ◌∷◌, refl, sym, ap, ap₂, subst, inl, inr, ◌∙◌, arith, map}
use Rattle.std.proofs.lemmas.Bool.{cases_lt, lt-ltb, le-ltb}
use Rattle.std.proofs.lemmas.List.{reverse-append}
use Rattle.std.proofs.lemmas.List.Elements.{All-nil, All-cons, All-head, All-tail, All-append}
use Rattle.std.specs.Prelude.{cond, ltb, ◌++◌}
use Rattle.std.specs.List.{flat_map}
use Rattle.wh_words.specs.Letters.{inverse_letter}
use Rattle.wh_words.specs.Words.{free_reduction, IsOfRank}
use Rattle.wh_words.specs.Moves.{Move}
use Rattle.wh_words.specs.Images.{inverse_word}
use Rattle.wh_words.proofs.LetterMaps.{inverse_below}
use Rattle.wh_peak.specs.Equivalence.{AreMovesOfRank}
use Rattle.wh_words.specs.Composites.{substitute_all}
use Rattle.wh_peak.specs.Automorphisms.{AreAlike}
use Rattle.wh_peak.proofs.FreeWords.{cancel_left, run, run-append, Same, inverse_of, run-inverse_left, red_of, run-inverse_right}
use Rattle.wh_peak.proofs.Substitutions.{Substitution, flat_map-same, substitute_by, substitute_by-inverse_of}
use Rattle.wh_peak.proofs.AlikeLists.{three_parts}
use Rattle.wh_peak.proofs.KindLists.{substitute_kinds, substitute_kinds-of_rank, one_letter}
use Rattle.wh_peak.proofs.LoweredKinds.{AlikeOn}
use Rattle.wh_peak.proofs.MovesOfRank.{kinds, are_kinds, substituted}

-- ---- inverse words
pub inverse_word-is : (w : List ℕ) → inverse_word w ≡ inverse_of w
unfolding inverse_of
inverse_word-is [] = refl
inverse_word-is (x ∷ w) = reverse-append (inverse_letter x ∷ []) (map inverse_letter w) ∙ ap (λ v. v ++ inverse_letter x ∷ []) (inverse_word-is w)

-- ---- the letters of a rank alone
abbrev pub keeps : ℕ → ℕ → List ℕ
keeps n x = cond (ltb x (2 * n)) (x ∷ []) []

keeps-below : (n x : ℕ) → x < 2 * n → keeps n x ≡ x ∷ []
keeps-below n x l = ap (λ b. cond b (x ∷ []) []) (lt-ltb x (2 * n) l)

keeps-above : (n x : ℕ) → 2 * n ≤ x → keeps n x ≡ []
keeps-above n x g = ap (λ b. cond b (x ∷ []) []) (le-ltb x (2 * n) g)

inverse-above : (n x : ℕ) → 2 * n ≤ x → 2 * n ≤ inverse_letter x
unfolding inverse_letter
inverse-above n x g = omega arith

keeps-goes : (n x : ℕ) → Same (keeps n x ++ keeps n (inverse_letter x)) []
unfolding run
keeps-goes n x r = elim (cases_lt x (2 * n)) [
  | inl l ↦ ap₂ (λ u v. run (u ++ v) r) (keeps-below n x l) (keeps-below n (inverse_letter x) (inverse_below n x l)) ∙ cancel_left x r
  | inr g ↦ ap₂ (λ u v. run (u ++ v) r) (keeps-above n x g) (keeps-above n (inverse_letter x) (inverse-above n x g))
]

abbrev keeping : ℕ → Substitution
keeping n = record { of = keeps n; goes = keeps-goes n }

kept_word : (n : ℕ) (w : List ℕ) → IsOfRank n w → flat_map (keeps n) w ≡ w
kept_word n [] h = refl
kept_word n (x ∷ w) h =
    ap₂ (λ u v. u ++ v) (keeps-below n x (All-head (λ y. y < 2 * n) x w h)) (kept_word n w (All-tail (λ y. y < 2 * n) x w h))

kept_of_rank : (n : ℕ) (w : List ℕ) → IsOfRank n (flat_map (keeps n) w)
kept_of_rank n [] = All-nil (λ y. y < 2 * n)
kept_of_rank n (x ∷ w) = All-append (λ y. y < 2 * n) (keeps n x) (flat_map (keeps n) w) (one x) (kept_of_rank n w)
  where
    one : (x : ℕ) → IsOfRank n (keeps n x)
    one x = elim (cases_lt x (2 * n)) [
      | inl l ↦ subst (IsOfRank n) (sym (keeps-below n x l)) (All-cons (λ y. y < 2 * n) x [] l (All-nil (λ y. y < 2 * n)))
      | inr g ↦ subst (IsOfRank n) (sym (keeps-above n x g)) (All-nil (λ y. y < 2 * n))
    ]

-- Where words of a rank are conjugate by a word, they are by the letters of the rank in it.
pub conjugate_of_rank : (n : ℕ) (u v g : List ℕ) → IsOfRank n u → IsOfRank n v → Same u (inverse_of g ++ (v ++ g)) → Same u (inverse_of (flat_map (keeps n) g) ++ (v ++ flat_map (keeps n) g))
unfolding substitute_by
conjugate_of_rank n u v g hu hv h r =
    ap (λ w. run w r) (sym (kept_word n u hu))
    ∙ (flat_map-same (keeping n) u (inverse_of g ++ (v ++ g)) h r
    ∙ (ap (λ w. run w r) (flat_map-append (keeps n) (inverse_of g) (v ++ g) ∙ ap (λ w. flat_map (keeps n) (inverse_of g) ++ w) (flat_map-append (keeps n) v g ∙ ap (λ w. w ++ flat_map (keeps n) g) (kept_word n v hv)))
    ∙ (run-append (flat_map (keeps n) (inverse_of g)) (v ++ flat_map (keeps n) g) r
    ∙ (substitute_by-inverse_of (keeping n ∷ []) g (run (v ++ flat_map (keeps n) g) r)
    ∙ sym (run-append (inverse_of (flat_map (keeps n) g)) (v ++ flat_map (keeps n) g) r)))))

-- ---- alike lists
pub alike_of : (n : ℕ) (ms ns : List Move) → AreMovesOfRank n ms → AreMovesOfRank n ns → AlikeOn n (kinds ms) (kinds ns) → AreAlike n ms ns
alike_of n ms ns hm hn a =
    let by : List ℕ = flat_map (keeps n) a.by in
    record {
      by = flat_map (keeps n) a.by;
      of_rank = kept_of_rank n a.by;
      conjugates = λ g l. at g l;
    }
  where
    at : (g : ℕ) → g < n → free_reduction (substitute_all ms (2 * g ∷ [])) ≡ free_reduction (inverse_word (flat_map (keeps n) a.by) ++ (substitute_all ns (2 * g ∷ []) ++ flat_map (keeps n) a.by))
    at g l =
        let low : 2 * g < 2 * n = omega arith in
        let alone : IsOfRank n (2 * g ∷ []) = one_letter n (2 * g) (omega arith) in
        ap free_reduction (substituted ms (2 * g ∷ []))
        ∙ (red_of (substitute_kinds (kinds ms) (2 * g ∷ [])) (inverse_of (flat_map (keeps n) a.by) ++ (substitute_kinds (kinds ns) (2 * g ∷ []) ++ flat_map (keeps n) a.by))
        (conjugate_of_rank n (substitute_kinds (kinds ms) (2 * g ∷ [])) (substitute_kinds (kinds ns) (2 * g ∷ [])) a.by
        (substitute_kinds-of_rank n (kinds ms) (2 * g ∷ []) (are_kinds n ms hm) alone) (substitute_kinds-of_rank n (kinds ns) (2 * g ∷ []) (are_kinds n ns hn) alone) (a.at (2 * g) low))
        ∙ ap₂ (λ u v. free_reduction (u ++ (v ++ flat_map (keeps n) a.by))) (sym (inverse_word-is (flat_map (keeps n) a.by))) (sym (substituted ns (2 * g ∷ []))))

-- One list's images are those of another, conjugated by a word of the rank.
pub record IsConjugate (n : ℕ) (ms ns : List Move) : Type 0 where
  pub by : List ℕ
  pub of_rank : IsOfRank n by
  pub at : (x : ℕ) → x < 2 * n → Same (substitute_all ms (x ∷ [])) (inverse_of by ++ (substitute_all ns (x ∷ []) ++ by))

pub conjugate_back : (u v g : List ℕ) → Same v (inverse_of g ++ (u ++ g)) → Same u (inverse_of (inverse_of g) ++ (v ++ inverse_of g))
conjugate_back u v g h r =
    sym (three_parts (inverse_of g) v r
    ∙ (ap (run (inverse_of (inverse_of g))) (h (run (inverse_of g) r) ∙ three_parts g u (run (inverse_of g) r))
    ∙ (run-inverse_left (inverse_of g) (run u (run g (run (inverse_of g) r)))
    ∙ ap (run u) (run-inverse_right g r))))

-- Of two lists that are alike each is conjugate to the other.
pub conjugate_of : (n : ℕ) (ms ns : List Move) → AreMovesOfRank n ms → AreMovesOfRank n ns → AlikeOn n (kinds ns) (kinds ms) → IsConjugate n ms ns
conjugate_of n ms ns hm hn a = record {
  by = flat_map (keeps n) (inverse_of a.by);
  of_rank = kept_of_rank n (inverse_of a.by);
  at = λ x l r.
      ap (λ w. run w r) (substituted ms (x ∷ []))
      ∙ (conjugate_of_rank n (substitute_kinds (kinds ms) (x ∷ [])) (substitute_kinds (kinds ns) (x ∷ [])) (inverse_of a.by)
      (substitute_kinds-of_rank n (kinds ms) (x ∷ []) (are_kinds n ms hm) (one_letter n x l)) (substitute_kinds-of_rank n (kinds ns) (x ∷ []) (are_kinds n ns hn) (one_letter n x l))
      (conjugate_back (substitute_kinds (kinds ms) (x ∷ [])) (substitute_kinds (kinds ns) (x ∷ [])) a.by (a.at x l)) r
      ∙ ap (λ w. run (inverse_of (flat_map (keeps n) (inverse_of a.by)) ++ (w ++ flat_map (keeps n) (inverse_of a.by))) r) (sym (substituted ns (x ∷ []))));
}
