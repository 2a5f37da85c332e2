-- The length law: what a cut adds to a tuple and takes from it, counted in its pass.
use Rattle.std.proofs.Common.{◌≡◌, ℕ, ◌+◌, ◌-◌, ◌≤◌, ◌==◌, Bool, true, false, not, ◌&&◌, ◌||◌, cond, List, [], ◌∷◌, ◌++◌, length, get_or, map, refl, sym, subst, arith, length-append, count_by}
use Rattle.std.specs.List.{All, sum_by, flat_map}
use Rattle.std.proofs.lemmas.List.Sums.{sum_by-cons, count_by-le-length}
use Rattle.std.proofs.lemmas.List.Elements.{All-head, All-tail}
use Rattle.wh_words.specs.Letters.{inverse_letter}
use Rattle.wh_words.specs.LetterSets.{in_set}
use Rattle.wh_words.specs.CyclicWords.{cyclic_word}
use Rattle.wh_words.specs.Tuples.{TupleData, IsTuple, tuple_length}
use Rattle.wh_words.specs.Moves.{Move, Kind, IsMove, IsKind, IsCut}
use Rattle.wh_words.specs.Moves.Kind.{swap, invert, cut}
use Rattle.wh_words.specs.Action.{substitute, act}
use Rattle.wh_words.specs.Edges.{edges_after, word_edges, edges, ends_at, crosses, cap, deg}
use Rattle.wh_words.specs.Passes.{junction, junction_of, kept, pass}
use Rattle.wh_words.proofs.CutImages.{own_reduced, cut_image_length}
use Rattle.wh_moves.proofs.ActedWords.{swap_length, invert_length}
use Rattle.wh_graph.specs.Laws.{is_of, LengthLaw, CutsShortenBelowTheDegree, SwapsKeepTheLength, InversionsKeepTheLength}
use Rattle.wh_graph.proofs.EdgeCounts.{one, split, count-cons, count-append, edges_length}
use Rattle.wh_graph.proofs.Degrees.{word_degree}

module _ (a : ℕ) (has : ℕ → Bool) where
  junction_count : (b c : Bool) → length (junction_of a has b c) ≡ one (split b c)
  junction_count true true = refl
  junction_count true false = refl
  junction_count false true = refl
  junction_count false false = refl

  kept_count : (b c : Bool) (x : ℕ) → length (cond (not b && not c) (x ∷ []) []) + one (b || c) ≡ 1
  kept_count true c x = refl
  kept_count false true x = refl
  kept_count false false x = refl

  -- The pass has a letter for each edge that crosses, and none for the letters of the multiplier.
  pub pass_count : (p : ℕ) (w : List ℕ) → length (pass a has p w) + count_by (is_of a) w ≡ length w + count_by (crosses has) (edges_after p w)
  pass_count p [] = omega arith
  pass_count p (x ∷ w) =
      omega (
        arith,
        length-append (junction a has p x) (kept a has x ++ pass a has x w),
        length-append (kept a has x) (pass a has x w),
        junction_count (has p) (has (inverse_letter x)),
        kept_count (x == a) (x == inverse_letter a) x,
        pass_count x w,
        count-cons (is_of a) x w,
        count-cons (crosses has) (p, inverse_letter x) (edges_after x w),
      )

module _ (n a set : ℕ) (valid : IsCut n a set) where
  word_law : (w : List ℕ) → cyclic_word w ≡ w →
      length (cyclic_word (substitute (cut a set) w)) + count_by (ends_at a) (word_edges w) ≡ length w + count_by (crosses (in_set set)) (word_edges w)
  word_law w own =
      omega (
        arith,
        cut_image_length a set w valid.holds valid.omits own,
        word_degree a w (own_reduced w own),
        pass_count a (in_set set) (get_or w (length w - 1) 0) w,
      )

  words_law : (ws : List (List ℕ)) → All (λ w. cyclic_word w ≡ w) ws →
      sum_by length (map (λ w. cyclic_word (substitute (cut a set) w)) ws) + count_by (ends_at a) (flat_map word_edges ws)
      ≡ sum_by length ws + count_by (crosses (in_set set)) (flat_map word_edges ws)
  words_law [] c = refl
  words_law (w ∷ ws) c =
      omega (
        arith,
        word_law w (All-head (λ v. cyclic_word v ≡ v) w ws c),
        words_law ws (All-tail (λ v. cyclic_word v ≡ v) w ws c),
        sum_by-cons length (cyclic_word (substitute (cut a set) w)) (map (λ v. cyclic_word (substitute (cut a set) v)) ws),
        sum_by-cons length w ws,
        count-append (ends_at a) (word_edges w) (flat_map word_edges ws),
        count-append (crosses (in_set set)) (word_edges w) (flat_map word_edges ws),
      )

pub length_law : LengthLaw
length_law t a set is valid = words_law t.rank a set valid t.words is.cyclic

pub cuts_shorten : CutsShortenBelowTheDegree
cuts_shorten t a set is valid = (λ h. omega (arith, h, length_law t a set is valid), λ h. omega (arith, h, length_law t a set is valid))

same_sum : (f : List ℕ → List ℕ) → ((w : List ℕ) → cyclic_word w ≡ w → length w ≡ length (f w)) → (ws : List (List ℕ)) → All (λ w. cyclic_word w ≡ w) ws → sum_by length (map f ws) ≡ sum_by length ws
same_sum f h [] c = refl
same_sum f h (w ∷ ws) c =
    omega (
      arith,
      sum_by-cons length (f w) (map f ws),
      sum_by-cons length w ws,
      h w (All-head (λ v. cyclic_word v ≡ v) w ws c),
      same_sum f h ws (All-tail (λ v. cyclic_word v ≡ v) w ws c),
    )

pub swaps_keep_words : (t : TupleData) (k n : ℕ) → All (λ w. cyclic_word w ≡ w) t.words → IsKind n (swap k) → tuple_length (act t (record { rank = n; kind = swap k })) ≡ tuple_length t
swaps_keep_words t k n cyclic valid = same_sum (λ w. cyclic_word (substitute (swap k) w)) (λ w own. swap_length k w valid.0 own) t.words cyclic

pub inversions_keep_words : (t : TupleData) (k n : ℕ) → All (λ w. cyclic_word w ≡ w) t.words → tuple_length (act t (record { rank = n; kind = invert k })) ≡ tuple_length t
inversions_keep_words t k n cyclic = same_sum (λ w. cyclic_word (substitute (invert k) w)) (λ w own. invert_length k w own) t.words cyclic

pub swaps_keep : SwapsKeepTheLength
swaps_keep t k n is valid = swaps_keep_words t k n is.cyclic valid

pub inversions_keep : InversionsKeepTheLength
inversions_keep t k n is valid = inversions_keep_words t k n is.cyclic

-- ---- what the program computes
pub swap_same : (t : TupleData) (m : Move) (k : ℕ) → IsTuple t → IsMove m → swap k ≡ m.kind → tuple_length t ≡ tuple_length (act t m)
swap_same t m k is valid e =
    sym (subst (λ (kind : Kind). tuple_length (act t (record { rank = m.rank; kind = kind })) ≡ tuple_length t) e (swaps_keep t k m.rank is (subst (IsKind m.rank) (sym e) valid.kind)))

pub invert_same : (t : TupleData) (m : Move) (k : ℕ) → IsTuple t → IsMove m → invert k ≡ m.kind → tuple_length t ≡ tuple_length (act t m)
invert_same t m k is valid e =
    sym (subst (λ (kind : Kind). tuple_length (act t (record { rank = m.rank; kind = kind })) ≡ tuple_length t) e (inversions_keep t k m.rank is (subst (IsKind m.rank) (sym e) valid.kind)))

pub cut_changes : (t : TupleData) (m : Move) (a set : ℕ) → IsTuple t → IsMove m → t.rank ≡ m.rank → cut a set ≡ m.kind →
    tuple_length (act t m) + deg a t ≡ tuple_length t + cap (in_set set) t
cut_changes t m a set is valid r e =
    let kind : IsCut m.rank a set = subst (IsKind m.rank) (sym e) valid.kind in
    subst (λ (k : Kind). tuple_length (act t (record { rank = m.rank; kind = k })) + deg a t ≡ tuple_length t + cap (in_set set) t) e
    (length_law t a set is (subst (λ (n : ℕ). IsCut n a set) (sym r) kind))

-- A capacity is at most the number of letters.
pub cap_few : (has : ℕ → Bool) (t : TupleData) → cap has t ≤ tuple_length t
cap_few has t = omega (arith, count_by-le-length (crosses has) (edges t), edges_length t)
