-- Counts over the edges of a tuple: how many there are, where they end, and the capacities of complements, intersections and unions.
use Rattle.std.proofs.Common.{◌≡◌, ℕ, ◌+◌, ◌-◌, ◌*◌, ◌<◌, ◌≤◌, Bool, true, false, not, ◌&&◌, ◌||◌, cond, List, [], ◌∷◌, ◌++◌, length, get_or, refl, sym, ap, ap₂, ◌∙◌, subst, arith, length-append, count_by}
use Rattle.std.specs.List.{All, sum_by, flat_map}
use Rattle.std.proofs.lemmas.List.Sums.{sum_by-cons, sum_by-append}
use Rattle.std.proofs.lemmas.List.Elements.{All-nil, All-cons, All-head, All-tail, All-append, All-get_or}
use Rattle.wh_words.specs.Letters.{inverse_letter}
use Rattle.wh_words.specs.Words.{IsOfRank, IsReduced}
use Rattle.wh_words.specs.CyclicWords.{cyclic_word, IsCyclicallyReduced}
use Rattle.wh_words.specs.Tuples.{TupleData, IsTuple}
use Rattle.wh_words.specs.Edges.{edges, edges_after, word_edges, crosses, cap}
use Rattle.wh_words.proofs.FreeReduction.{inverse-inverse}
use Rattle.wh_words.proofs.CutImages.{own_reduced, last_is, follows}
use Rattle.wh_words.proofs.LetterMaps.{inverse_below}
use Rattle.wh_graph.specs.Laws.{JoinsTwo, AsManyEdgesAsLetters, EdgesJoinTwoLetters, ComplementsHaveOneCapacity, CapacitiesAreSubmodular}

-- ---- counts of any list
abbrev pub one : Bool → ℕ
one b = cond b 1 0

pub count-cons : {X : Type 0} (p : X → Bool) (x : X) (xs : List X) → count_by p (x ∷ xs) ≡ one (p x) + count_by p xs
count-cons p x xs = sum_by-cons (λ y. cond (p y) 1 0) x xs

pub count-append : {X : Type 0} (p : X → Bool) (xs ys : List X) → count_by p (xs ++ ys) ≡ count_by p xs + count_by p ys
count-append p xs ys = sum_by-append (λ y. cond (p y) 1 0) xs ys

pub count_two : {X : Type 0} (p q r s : X → Bool) → ((x : X) → one (p x) + one (q x) ≤ one (r x) + one (s x)) → (xs : List X) →
    count_by p xs + count_by q xs ≤ count_by r xs + count_by s xs
count_two p q r s h [] = omega arith
count_two p q r s h (x ∷ xs) = omega (arith, h x, count_two p q r s h xs, count-cons p x xs, count-cons q x xs, count-cons r x xs, count-cons s x xs)

pub count_same : {X : Type 0} (p q : X → Bool) (xs : List X) → All (λ x. p x ≡ q x) xs → count_by p xs ≡ count_by q xs
count_same p q [] h = refl
count_same p q (x ∷ xs) h =
    omega (arith, ap one (All-head (λ y. p y ≡ q y) x xs h), count_same p q xs (All-tail (λ y. p y ≡ q y) x xs h), count-cons p x xs, count-cons q x xs)

-- ---- how many edges there are
pub edges_after_length : (p : ℕ) (w : List ℕ) → length (edges_after p w) ≡ length w
edges_after_length p [] = refl
edges_after_length p (x ∷ w) = omega (arith, edges_after_length x w)

pub edges_length : AsManyEdgesAsLetters
edges_length t = go t.words
  where
    go : (ws : List (List ℕ)) → length (flat_map word_edges ws) ≡ sum_by length ws
    go [] = refl
    go (w ∷ ws) = omega (arith, length-append (word_edges w) (flat_map word_edges ws), edges_after_length (get_or w (length w - 1) 0) w, sum_by-cons length w ws, go ws)

-- ---- where edges end
-- A cyclically reduced word may follow its own last letter.
pub round_reduced : (w : List ℕ) → IsCyclicallyReduced w → IsReduced (get_or w (length w - 1) 0 ∷ w)
round_reduced [] r = (tt, tt)
round_reduced (x ∷ w) r = subst (λ (p : ℕ). IsReduced (p ∷ x ∷ w)) (sym (last_is 0 (λ _. false) x w)) (follows 0 (λ _. false) x w r)

edges_after_join : (n p : ℕ) (w : List ℕ) → p < 2 * n → IsOfRank n w → IsReduced (p ∷ w) → All (JoinsTwo n) (edges_after p w)
edges_after_join n p [] h o r = All-nil (JoinsTwo n)
edges_after_join n p (x ∷ w) h o r =
    let l : x < 2 * n = All-head (λ y. y < 2 * n) x w o in
    All-cons (JoinsTwo n) (p, inverse_letter x) (edges_after x w)
    (h, inverse_below n x l, λ e. r.0 (sym (inverse-inverse x) ∙ ap inverse_letter (sym e)))
    (edges_after_join n x w l (All-tail (λ y. y < 2 * n) x w o) r.1)

pub word_edges_join : (n : ℕ) (w : List ℕ) → IsOfRank n w → IsCyclicallyReduced w → All (JoinsTwo n) (word_edges w)
word_edges_join n [] o r = All-nil (JoinsTwo n)
word_edges_join n (x ∷ w) o r =
    edges_after_join n (get_or (x ∷ w) (length (x ∷ w) - 1) 0) (x ∷ w) (All-get_or (λ y. y < 2 * n) (x ∷ w) (length (x ∷ w) - 1) 0 (omega arith) o) o (round_reduced (x ∷ w) r)

pub edges_join : EdgesJoinTwoLetters
edges_join t is = go t.words is.of_rank is.cyclic
  where
    go : (ws : List (List ℕ)) → All (IsOfRank t.rank) ws → All (λ w. cyclic_word w ≡ w) ws → All (JoinsTwo t.rank) (flat_map word_edges ws)
    go [] o c = All-nil (JoinsTwo t.rank)
    go (w ∷ ws) o c =
        All-append (JoinsTwo t.rank) (word_edges w) (flat_map word_edges ws)
        (word_edges_join t.rank w (All-head (IsOfRank t.rank) w ws o) (own_reduced w (All-head (λ v. cyclic_word v ≡ v) w ws c)))
        (go ws (All-tail (IsOfRank t.rank) w ws o) (All-tail (λ v. cyclic_word v ≡ v) w ws c))

-- ---- capacities
abbrev pub split : Bool → Bool → Bool
split b c = (b && not c) || (c && not b)

-- A capacity depends on the letters of the rank alone.
pub cap_same : (t : TupleData) (A B : ℕ → Bool) → IsTuple t → ((x : ℕ) → x < 2 * t.rank → A x ≡ B x) → cap A t ≡ cap B t
cap_same t A B is h =
    let joined : All (JoinsTwo t.rank) (edges t) = edges_join t is in
    count_same (crosses A) (crosses B) (edges t)
    (λ k d l. let j : JoinsTwo t.rank (get_or (edges t) k d) = joined k d l in ap₂ split (h (get_or (edges t) k d).0 j.0) (h (get_or (edges t) k d).1 j.1))

pub split_not : (b c : Bool) → split (not b) (not c) ≡ split b c
split_not true true = refl
split_not true false = refl
split_not false true = refl
split_not false false = refl

pub complement_cap : ComplementsHaveOneCapacity
complement_cap t A B is h =
    cap_same t B (λ x. not (A x)) is h
    ∙ count_same (crosses (λ x. not (A x))) (crosses A) (edges t) (λ k d l. split_not (A (get_or (edges t) k d).0) (A (get_or (edges t) k d).1))

split_two : (p q r s : Bool) → one (split (p && q) (r && s)) + one (split (p || q) (r || s)) ≤ one (split p r) + one (split q s)
split_two true q true s = omega arith
split_two false q false s = omega arith
split_two true true false true = omega arith
split_two true true false false = omega arith
split_two true false false true = omega arith
split_two true false false false = omega arith
split_two false true true true = omega arith
split_two false true true false = omega arith
split_two false false true true = omega arith
split_two false false true false = omega arith

pub submodular : CapacitiesAreSubmodular
submodular t A B =
    count_two (crosses (λ x. A x && B x)) (crosses (λ x. A x || B x)) (crosses A) (crosses B) (λ e. split_two (A e.0) (B e.0) (A e.1) (B e.1)) (edges t)
