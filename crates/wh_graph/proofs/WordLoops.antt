-- What the loops over the letters of a word and over the words of a tuple count.
use Rattle.std.proofs.Common.{◌≡◌, ℕ, zero, suc, ◌+◌, ◌-◌, ◌<◌, ◌≤◌, Bool, cond, List, [], ◌∷◌, length, get_or, take, refl, sym, ap, ap₂, ◌∙◌, subst, arith, count_by}
use Rattle.std.specs.List.{sum_by, flat_map}
use Rattle.std.proofs.lemmas.List.{take_all, get_or_default}
use Rattle.std.proofs.lemmas.List.Sums.{sum_by-cons, sum_by_more, sum_by-le-sum_by, sum_by_more_le_part, count_by-le-length}
use Rattle.wh_words.specs.Letters.{inverse_letter}
use Rattle.wh_words.specs.Words.{IsOfRank}
use Rattle.wh_words.specs.CyclicWords.{IsCyclicallyReduced}
use Rattle.wh_words.specs.Tuples.{TupleData, IsTuple}
use Rattle.wh_words.specs.Edges.{edges_after, word_edges}
use Rattle.wh_words.proofs.CutImages.{own_reduced}
use Rattle.wh_graph.specs.Laws.{JoinsTwo}
use Rattle.wh_graph.proofs.EdgeCounts.{one, count-append, edges_after_length, word_edges_join}

-- The letter before a letter of a cyclic word.
abbrev pub letter_before : List ℕ → ℕ → ℕ
letter_before w i = get_or (get_or w (length w - 1) 0 ∷ w) i 0

edge_after_at : (p : ℕ) (w : List ℕ) (i : ℕ) → i < length w → get_or (edges_after p w) i (0, 0) ≡ (get_or (p ∷ w) i 0, inverse_letter (get_or w i 0))
edge_after_at p [] i l = absurd (omega arith)
edge_after_at p (x ∷ w) zero l = refl
edge_after_at p (x ∷ w) (suc i) l = edge_after_at x w i (omega arith)

pub edge_at : (w : List ℕ) (i : ℕ) → i < length w → get_or (word_edges w) i (0, 0) ≡ (letter_before w i, inverse_letter (get_or w i 0))
edge_at w i l = edge_after_at (get_or w (length w - 1) 0) w i l

edge_is : (w : List ℕ) (i before x : ℕ) → i < length w → before ≡ letter_before w i → x ≡ get_or w i x → get_or (word_edges w) i (0, 0) ≡ (before, inverse_letter x)
edge_is w i before x l e f = edge_at w i l ∙ ap₂ (λ u v. (u, inverse_letter v)) (sym e) (get_or_default w i 0 x l ∙ sym f)

word_edges_length : (w : List ℕ) → length (word_edges w) ≡ length w
word_edges_length w = edges_after_length (get_or w (length w - 1) 0) w

-- ---- the letters of a word
pub before_more : (w : List ℕ) (i x : ℕ) → i < length w → x ≡ get_or w i x → x ≡ letter_before w (i + 1)
before_more w i x l f =
    f ∙ get_or_default w i x 0 l ∙ (let next : suc i ≡ i + 1 = omega arith in ap (λ k. get_or (get_or w (length w - 1) 0 ∷ w) k 0) next)

-- One more edge is counted.
pub edge_more : (p : ℕ × ℕ → Bool) (w : List ℕ) (i before x : ℕ) → i < length w → before ≡ letter_before w i → x ≡ get_or w i x →
    count_by p (take (i + 1) (word_edges w)) ≡ count_by p (take i (word_edges w)) + one (p (before, inverse_letter x))
edge_more p w i before x l e f =
    sum_by_more (λ y. cond (p y) 1 0) (word_edges w) i (0, 0) (omega (arith, l, word_edges_length w))
    ∙ ap (λ d. count_by p (take i (word_edges w)) + one (p d)) (edge_is w i before x l e f)

pub edges_whole : (p : ℕ × ℕ → Bool) (w : List ℕ) (i : ℕ) → length w ≤ i → count_by p (take i (word_edges w)) ≡ count_by p (word_edges w)
edges_whole p w i l = ap (count_by p) (take_all i (word_edges w) (omega (arith, l, word_edges_length w)))

pub edges_none : (p : ℕ × ℕ → Bool) (w : List ℕ) → length w ≡ 0 → count_by p (word_edges w) ≡ 0
edges_none p [] e = refl
edges_none p (x ∷ w) e = absurd (omega (arith, e))

pub edge_joins : (n : ℕ) (w : List ℕ) (i before x : ℕ) → IsOfRank n w → IsCyclicallyReduced w → i < length w → before ≡ letter_before w i → x ≡ get_or w i x →
    JoinsTwo n (before, inverse_letter x)
edge_joins n w i before x o r l e f = subst (JoinsTwo n) (edge_is w i before x l e f) (word_edges_join n w o r i (0, 0) (omega (arith, l, word_edges_length w)))

-- ---- the words of a tuple
-- How many edges of some words pass a test.
abbrev pub words_count : (ℕ × ℕ → Bool) → List (List ℕ) → ℕ
words_count p ws = sum_by (λ w. count_by p (word_edges w)) ws

pub count_words : (p : ℕ × ℕ → Bool) (ws : List (List ℕ)) → words_count p ws ≡ count_by p (flat_map word_edges ws)
count_words p [] = refl
count_words p (w ∷ ws) =
    omega (arith, sum_by-cons (λ v. count_by p (word_edges v)) w ws, count-append p (word_edges w) (flat_map word_edges ws), count_words p ws)

-- The count of all words so far and the next one is at most the number of letters.
pub counts_fit : (p : ℕ × ℕ → Bool) (t : TupleData) (i : ℕ) (w : List ℕ) → IsTuple t → i < length t.words → w ≡ get_or t.words i [] →
    words_count p (take i t.words) + count_by p (word_edges w) ≤ 4096
counts_fit p t i w is l e =
    omega (
      arith,
      is.short,
      ap (λ v. count_by p (word_edges v)) e,
      sum_by_more_le_part (λ v. count_by p (word_edges v)) (λ v. count_by p (word_edges v)) t.words i [] l (λ v. omega arith),
      sum_by-le-sum_by (λ v. count_by p (word_edges v)) length t.words (λ v. omega (arith, count_by-le-length p (word_edges v), word_edges_length v)),
    )

pub letters_fit : (p : ℕ → Bool) (t : TupleData) (i : ℕ) (w : List ℕ) → IsTuple t → i < length t.words → w ≡ get_or t.words i [] →
    sum_by (count_by p) (take i t.words) + count_by p w ≤ 4096
letters_fit p t i w is l e =
    omega (
      arith,
      is.short,
      ap (count_by p) e,
      sum_by_more_le_part (count_by p) (count_by p) t.words i [] l (λ v. omega arith),
      sum_by-le-sum_by (count_by p) length t.words (λ v. count_by-le-length p v),
    )

pub word_is : (t : TupleData) (i : ℕ) (w : List ℕ) → IsTuple t → i < length t.words → w ≡ get_or t.words i [] → IsCyclicallyReduced w × IsOfRank t.rank w
word_is t i w is l e = (subst IsCyclicallyReduced (sym e) (own_reduced (get_or t.words i []) (is.cyclic i [] l)), subst (IsOfRank t.rank) (sym e) (is.of_rank i [] l))
