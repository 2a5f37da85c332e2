-- The degree of a letter is how often it and its inverse stand in a tuple of cyclically reduced words.
use Rattle.std.proofs.Common.{◌≡◌, ◌≢◌, ℕ, ◌+◌, ◌-◌, ◌==◌, Bool, true, false, ◌||◌, List, [], ◌∷◌, length, get_or, refl, sym, ap, ◌∙◌, inl, inr, arith, count_by}
use Rattle.std.specs.List.{All, sum_by, flat_map}
use Rattle.std.proofs.lemmas.Bool.{cases_eq, eq-eqb, ne_eqb, eqb-true}
use Rattle.std.proofs.lemmas.List.Sums.{sum_by-cons}
use Rattle.std.proofs.lemmas.List.Elements.{All-head, All-tail}
use Rattle.std.proofs.Math.Bool.{or_comm}
use Rattle.wh_words.specs.Letters.{inverse_letter}
use Rattle.wh_words.specs.Words.{IsReduced}
use Rattle.wh_words.specs.CyclicWords.{cyclic_word, IsCyclicallyReduced}
use Rattle.wh_words.specs.Edges.{edges_after, word_edges, edges, ends_at, crosses}
use Rattle.wh_words.specs.Passes.{last_or}
use Rattle.wh_words.proofs.FreeReduction.{inverse-inverse, inverse-other, turned}
use Rattle.wh_words.proofs.CutImages.{own_reduced, last_is}
use Rattle.wh_graph.specs.Laws.{is_of, JoinsTwo, DegreeCountsLetters, InversesHaveOneDegree, SingletonHasTheDegree}
use Rattle.wh_graph.proofs.EdgeCounts.{one, split, count-cons, count-append, count_same, round_reduced, edges_join}

turned_test : (a x : ℕ) → (inverse_letter x == a) ≡ (x == inverse_letter a)
turned_test a x = elim (cases_eq x (inverse_letter a)) [
  | inl e ↦ eq-eqb (inverse_letter x) a (ap inverse_letter e ∙ inverse-inverse a) ∙ sym (eq-eqb x (inverse_letter a) e)
  | inr n ↦ ne_eqb (inverse_letter x) a (λ e. n (turned a x (sym e))) ∙ sym (ne_eqb x (inverse_letter a) n)
]

-- the tests p == a, x == a and x == a' of an edge from p to the inverse of x
abbrev EdgeEnds : Bool → Bool → Bool → Type 0
EdgeEnds p x y = one (p || y) + one x ≡ one p + one (x || y)

edge_ends : (a p x : ℕ) → x ≢ inverse_letter p → EdgeEnds (p == a) (x == a) (x == inverse_letter a)
edge_ends a p x n = elim (cases_eq x (inverse_letter a)) [
  | inl e ↦
      let f : (p == a) ≡ false = ne_eqb p a (λ g. n (e ∙ ap inverse_letter (sym g))) in
      let g : (x == a) ≡ false = ne_eqb x a (λ h. inverse-other a (sym e ∙ h)) in
      rw (f, g, eq-eqb x (inverse_letter a) e) refl
  | inr m ↦ rw (ne_eqb x (inverse_letter a) m) (other (p == a) (x == a))
]
  where
    other : (b c : Bool) → EdgeEnds b c false
    other true true = refl
    other true false = refl
    other false true = refl
    other false false = refl

module _ (a : ℕ) where
  abbrev last : ℕ → List ℕ → ℕ
  last p w = last_or 0 (λ _. false) p w

  ends_after : (p : ℕ) (w : List ℕ) → IsReduced (p ∷ w) → count_by (ends_at a) (edges_after p w) + one (last p w == a) ≡ one (p == a) + count_by (is_of a) w
  ends_after p [] r = omega arith
  ends_after p (x ∷ w) r =
      omega (
        arith,
        edge_ends a p x r.0,
        ap (λ b. one ((p == a) || b)) (turned_test a x),
        ends_after x w r.1,
        count-cons (ends_at a) (p, inverse_letter x) (edges_after x w),
        count-cons (is_of a) x w,
      )

  pub word_degree : (w : List ℕ) → IsCyclicallyReduced w → count_by (ends_at a) (word_edges w) ≡ count_by (is_of a) w
  word_degree [] r = refl
  word_degree (x ∷ w) r =
      let p : ℕ = get_or (x ∷ w) (length (x ∷ w) - 1) 0 in
      omega (arith, ends_after p (x ∷ w) (round_reduced (x ∷ w) r), ap (λ z. one (z == a)) (last_is 0 (λ _. false) x w))

pub degree_counts : DegreeCountsLetters
degree_counts t a is = go t.words is.cyclic
  where
    go : (ws : List (List ℕ)) → All (λ w. cyclic_word w ≡ w) ws → count_by (ends_at a) (flat_map word_edges ws) ≡ sum_by (count_by (is_of a)) ws
    go [] c = refl
    go (w ∷ ws) c =
        omega (
          arith,
          count-append (ends_at a) (word_edges w) (flat_map word_edges ws),
          sum_by-cons (count_by (is_of a)) w ws,
          word_degree a w (own_reduced w (All-head (λ v. cyclic_word v ≡ v) w ws c)),
          go ws (All-tail (λ v. cyclic_word v ≡ v) w ws c),
        )

pub of_inverse : (a x : ℕ) → is_of (inverse_letter a) x ≡ is_of a x
of_inverse a x = ap (λ z. (x == inverse_letter a) || (x == z)) (inverse-inverse a) ∙ or_comm (x == inverse_letter a) (x == a)

pub inverse_degree : InversesHaveOneDegree
inverse_degree t a is = degree_counts t (inverse_letter a) is ∙ go t.words ∙ sym (degree_counts t a is)
  where
    count : (w : List ℕ) → count_by (is_of (inverse_letter a)) w ≡ count_by (is_of a) w
    count [] = refl
    count (x ∷ w) = omega (arith, count-cons (is_of (inverse_letter a)) x w, count-cons (is_of a) x w, ap one (of_inverse a x), count w)

    go : (ws : List (List ℕ)) → sum_by (count_by (is_of (inverse_letter a))) ws ≡ sum_by (count_by (is_of a)) ws
    go [] = refl
    go (w ∷ ws) = omega (arith, sum_by-cons (count_by (is_of (inverse_letter a))) w ws, sum_by-cons (count_by (is_of a)) w ws, count w, go ws)

-- ---- the set of one letter
not_both : (b c : Bool) → (b ≡ true → c ≡ true → ⊥) → split b c ≡ (b || c)
not_both true true h = absurd (h refl refl)
not_both true false h = refl
not_both false true h = refl
not_both false false h = refl

pub singleton_degree : SingletonHasTheDegree
singleton_degree t a is =
    let joined : All (JoinsTwo t.rank) (edges t) = edges_join t is in
    count_same (crosses (λ x. x == a)) (ends_at a) (edges t) (λ k d l.
    let e : ℕ × ℕ = get_or (edges t) k d in
    let j : JoinsTwo t.rank e = joined k d l in
    not_both (e.0 == a) (e.1 == a) (λ f g. j.2 (eqb-true e.0 a f ∙ sym (eqb-true e.1 a g))))
