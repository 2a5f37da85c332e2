-- The images of letters, words and tuples under a move: how long they are, and that they are of the rank.
use Rattle.std.proofs.Common.{◌≡◌, ℕ, ◌*◌, ◌/◌, ◌^◌, ◌<◌, ◌≤◌, ◌==◌, Bool, true, false, cond, List, [], ◌∷◌, ◌++◌, length, get_or, map, sym, subst, arith, length-append}
use Rattle.std.proofs.lemmas.Bool.{cond_both}
use Rattle.std.proofs.lemmas.List.{length-map}
use Rattle.std.proofs.lemmas.List.Elements.{All-nil, All-cons, All-head, All-tail, All-append, All-map}
use Rattle.std.proofs.lemmas.List.Sums.{sum_by-cons}
use Rattle.std.specs.List.{All, sum_by}
use Rattle.wh_words.specs.Letters.{inverse_letter}
use Rattle.wh_words.specs.CyclicWords.{cyclic_word}
use Rattle.wh_words.specs.Tuples.{TupleData, IsTuple, tuple_length}
use Rattle.wh_words.specs.Words.{IsOfRank}
use Rattle.wh_words.specs.Moves as spec
use Rattle.wh_words.specs.Moves.{Move, IsMove, IsKind}
use Rattle.wh_words.specs.LetterSets.{in_set}
use Rattle.wh_words.specs.Images.{swap_letter, invert_letter, image}
use Rattle.wh_words.specs.Action.{substitute, act}
use Rattle.wh_words.specs.Moves.Kind.{swap, invert, cut}
use Rattle.wh_words.proofs.LetterMaps.{inverse_below, swap_below, invert_below}
use Rattle.wh_words.proofs.Rotations.{cyclic_word-same}
use Rattle.wh_words.proofs.StoredWords.{cyclic_word-length, cyclic_word-of_rank}

-- a letter with one before it and one after it, or not
abbrev around : Bool → Bool → ℕ → ℕ → ℕ → List ℕ
around b c p q x = cond b (p ∷ []) [] ++ x ∷ cond c (q ∷ []) []

around_length : (b c : Bool) (p q x : ℕ) → length (around b c p q x) ≤ 3
around_length true true p q x = omega arith
around_length true false p q x = omega arith
around_length false true p q x = omega arith
around_length false false p q x = omega arith

around_below : (n : ℕ) (b c : Bool) (p q x : ℕ) → p < n → q < n → x < n → All (λ y. y < n) (around b c p q x)
around_below n true true p q x h k l = All-cons (λ y. y < n) p (x ∷ q ∷ []) h (All-cons (λ y. y < n) x (q ∷ []) l (All-cons (λ y. y < n) q [] k (All-nil (λ y. y < n))))
around_below n true false p q x h k l = All-cons (λ y. y < n) p (x ∷ []) h (All-cons (λ y. y < n) x [] l (All-nil (λ y. y < n)))
around_below n false true p q x h k l = All-cons (λ y. y < n) x (q ∷ []) l (All-cons (λ y. y < n) q [] k (All-nil (λ y. y < n)))
around_below n false false p q x h k l = All-cons (λ y. y < n) x [] l (All-nil (λ y. y < n))

pub image_length : (k : spec.Kind) (x : ℕ) → length (image k x) ≤ 3
image_length (swap k) x = omega arith
image_length (invert k) x = omega arith
image_length (cut a set) x =
    cond_both (x / 2 == a / 2) (x ∷ []) (around (in_set set (inverse_letter x)) (in_set set x) (inverse_letter a) a x) (λ v. length v ≤ 3)
    (λ e. omega arith) (λ e. around_length (in_set set (inverse_letter x)) (in_set set x) (inverse_letter a) a x)

pub substitute_length : (k : spec.Kind) (w : List ℕ) → length (substitute k w) ≤ 3 * length w
substitute_length k [] = omega arith
substitute_length k (x ∷ w) = omega (arith, length-append (image k x) (substitute k w), image_length k x, substitute_length k w)

pub image_of_rank : (n : ℕ) (k : spec.Kind) (x : ℕ) → IsKind n k → x < 2 * n → IsOfRank n (image k x)
image_of_rank n (swap k) x v h = All-cons (λ y. y < 2 * n) (swap_letter k x) [] (swap_below n k x v.1 h) (All-nil (λ y. y < 2 * n))
image_of_rank n (invert k) x v h = All-cons (λ y. y < 2 * n) (invert_letter k x) [] (invert_below n k x h) (All-nil (λ y. y < 2 * n))
image_of_rank n (cut a set) x v h =
    cond_both (x / 2 == a / 2) (x ∷ []) (around (in_set set (inverse_letter x)) (in_set set x) (inverse_letter a) a x) (IsOfRank n)
    (λ e. All-cons (λ y. y < 2 * n) x [] h (All-nil (λ y. y < 2 * n)))
    (λ e. around_below (2 * n) (in_set set (inverse_letter x)) (in_set set x) (inverse_letter a) a x (inverse_below n a v.of_rank) v.of_rank h)

pub substitute_of_rank : (n : ℕ) (k : spec.Kind) (w : List ℕ) → IsKind n k → IsOfRank n w → IsOfRank n (substitute k w)
substitute_of_rank n k [] v r = r
substitute_of_rank n k (x ∷ w) v r =
    All-append (λ y. y < 2 * n) (image k x) (substitute k w) (image_of_rank n k x v (All-head (λ y. y < 2 * n) x w r)) (substitute_of_rank n k w v (All-tail (λ y. y < 2 * n) x w r))

pub image_sum : (k : spec.Kind) (ws : List (List ℕ)) → sum_by length (map (λ w. cyclic_word (substitute k w)) ws) ≤ 3 * sum_by length ws
image_sum k [] = omega arith
image_sum k (w ∷ ws) =
    omega (
      arith,
      sum_by-cons length (cyclic_word (substitute k w)) (map (λ w. cyclic_word (substitute k w)) ws),
      sum_by-cons length w ws,
      cyclic_word-length (substitute k w),
      substitute_length k w,
      image_sum k ws,
    )

pub act_length : (t : TupleData) (m : Move) → IsTuple t → tuple_length (act t m) < 2 ^ 32
act_length t m is = omega (arith, image_sum m.kind t.words, is.short)

pub acted_tuple : (t : TupleData) (m : Move) → IsTuple t → IsKind m.rank m.kind → t.rank ≡ m.rank → tuple_length (act t m) ≤ 4096 → IsTuple (act t m)
acted_tuple t m is v e short = record {
  cyclic = All-map (λ w. cyclic_word w ≡ w) (λ w. cyclic_word (substitute m.kind w)) t.words (λ k d h. cyclic_word-same (substitute m.kind (get_or t.words k d)));
  of_rank = All-map (IsOfRank t.rank) (λ w. cyclic_word (substitute m.kind w)) t.words
      (λ k d h. cyclic_word-of_rank t.rank (substitute m.kind (get_or t.words k d))
      (subst (λ (n : ℕ). IsOfRank n (substitute m.kind (get_or t.words k d))) (sym e)
      (substitute_of_rank m.rank m.kind (get_or t.words k d) v (subst (λ (n : ℕ). IsOfRank n (get_or t.words k d)) e (is.of_rank k d h)))));
  few = omega (arith, length-map t.words (λ w. cyclic_word (substitute m.kind w)), is.few);
  short = short;
}

pub act_tuple : (t : TupleData) (m : Move) → IsTuple t → IsMove m → t.rank ≡ m.rank → tuple_length (act t m) ≤ 4096 → IsTuple (act t m)
act_tuple t m is v e short = acted_tuple t m is v.kind e short
