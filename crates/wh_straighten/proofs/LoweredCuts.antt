-- Round a peak of two cuts, by way of the cut of a quadrant.
use Rattle.std.proofs.Common.{◌≡◌, ℕ, ◌+◌, ◌*◌, ◌^◌, ◌<◌, ◌≤◌, List, [], ◌∷◌, ◌++◌, refl, sym, ap, ap₂, subst, inl, inr, ◌∙◌, arith, bit_and}
use Rattle.std.proofs.lemmas.Bool.{cases_lt, cases_Bool, false≢true}
use Rattle.std.proofs.lemmas.Nat.Bits.{bit_at_above}
use Rattle.std.specs.Prelude.{Bool, true, false, cond, not, ◌&&◌, ◌⊎◌, ◌↔◌, IsTrue}
use Rattle.std.specs.Int.{bit_at}
use Rattle.wh_words.specs.Letters.{inverse_letter}
use Rattle.wh_words.proofs.FreeReduction.{inverse-inverse}
use Rattle.wh_words.specs.LetterSets.{in_set}
use Rattle.wh_words.specs.Tuples.{TupleData, IsTuple, tuple_length}
use Rattle.wh_words.specs.Moves.{Move, IsCut, cut_move}
use Rattle.wh_words.specs.Moves.Kind.{cut}
use Rattle.wh_words.specs.Action.{act}
use Rattle.wh_words.proofs.LetterMaps.{inverse_below}
use Rattle.wh_graph.proofs.NetworkCuts.{omits_back}
use Rattle.wh_graph.proofs.SetNumbers.{mask, mask_lt, mask_has, holds, omits, holds_back}
use Rattle.wh_peak.specs.Equivalence.{IsMoveOfRank, AreMovesOfRank}
use Rattle.wh_peak.specs.Straightness.{IsLowered, IsPeak}
use Rattle.wh_peak.specs.Relations.{HasLetters, AreDisjoint}
use Rattle.wh_straighten.specs.Lowering.{agree, IsQuadrant, Serves}
use Rattle.wh_peak.proofs.CutForms.{IsCut as IsTest}
use Rattle.wh_peak.proofs.CutSubstitutions.{cutting}
use Rattle.wh_peak.proofs.Actions.{act1}
use Rattle.wh_peak.proofs.Lengths.{len, len-is, cap, deg, deg-inverse, length_law, opposite_quadrants, other_quadrants}
use Rattle.wh_peak.proofs.Quadrants.{serves}
use Rattle.wh_peak.proofs.Steps.Step.{cuts}
use Rattle.wh_peak.proofs.LoweredPeaks.{side, between_sides}
use Rattle.wh_peak.proofs.ExpandedSteps.{expand_one-acts}
use Rattle.wh_peak.proofs.MovesOfRank.{move_of_rank, none_of_rank, more_of_rank, cyclic_words, words_of_rank}
use Rattle.wh_peak.proofs.SameComposites.{agree-refl}
use Rattle.wh_peak.proofs.ConjugatingWords.{IsConjugate}
use Rattle.wh_peak.proofs.AlikeMoves.{conjugate-same, conjugate-sym, conjugate-alike, alike_act_alike}
use Rattle.wh_straighten.proofs.LoweredMoves.{lowered_by_way, lowered_from, lowered_to, complement-conjugate}
use Rattle.wh_straighten.proofs.LoweredRows.{and_has, mask-is, cut_law}

-- ---- the side of a cut
-- (B, b) is (A, a) where this cut omits c, and else the cut of the complement at the inverse of a.
pub record IsSideWithout (n c a A b B : ℕ) : Type 0 where
  pub cut : IsCut n b B
  pub same : in_set A c ≡ false → (b ≡ a) × (B ≡ A)
  pub turned : in_set A c ≡ true → (b ≡ inverse_letter a) × HasLetters n B (λ x. not (in_set A x))

side-conjugate : (n c a A b B : ℕ) → IsCut n a A → IsSideWithout n c a A b B → IsConjugate n (cut_move n a A ∷ []) (cut_move n b B ∷ [])
side-conjugate n c a A b B u s = elim (cases_Bool (in_set A c)) [
  | inl e ↦ (let q : IsCut n (inverse_letter a) B = subst (λ (z : ℕ). IsCut n z B) (s.turned e).0 s.cut in
      subst (λ (z : ℕ). IsConjugate n (cut_move n a A ∷ []) (cut_move n z B ∷ [])) (sym (s.turned e).0) (complement-conjugate n a A B u q (s.turned e).1))
  | inr e ↦ subst (λ (z : ℕ). IsConjugate n (cut_move n a A ∷ []) (cut_move n z B ∷ [])) (sym (s.same e).0)
      (subst (λ (z : ℕ). IsConjugate n (cut_move n a A ∷ []) (cut_move n a z ∷ [])) (sym (s.same e).1) (conjugate-same n (cut_move n a A ∷ []) (cut_move n a A ∷ []) (agree-refl n (cut_move n a A ∷ []))))
]

pub side-acts : (t : TupleData) → IsTuple t → t.rank ≤ 26 → (c a A b B : ℕ) → IsCut t.rank a A → IsSideWithout t.rank c a A b B → act t (cut_move t.rank a A) ≡ act t (cut_move t.rank b B)
side-acts t is low c a A b B u s =
    alike_act_alike t (cut_move t.rank a A ∷ []) (cut_move t.rank b B ∷ []) is (one t.rank a A low u) (one t.rank b B low s.cut)
    (conjugate-alike t.rank (cut_move t.rank a A ∷ []) (cut_move t.rank b B ∷ []) (side-conjugate t.rank c a A b B u s))
  where
    one : (n x X : ℕ) → n ≤ 26 → IsCut n x X → AreMovesOfRank n (cut_move n x X ∷ [])
    one n x X low u = more_of_rank n (cut_move n x X) [] (move_of_rank n (cut x X) low u) (none_of_rank n)

quadrant-side : (p q r : Bool) → (not q && (agree true q && r)) ≡ false
quadrant-side p true r = refl
quadrant-side p false r = refl

quadrant-same : (q r : Bool) → (q && (agree false q && r)) ≡ false
quadrant-same true r = refl
quadrant-same false r = refl

and-none : (p : Bool) → (p && false) ≡ false
and-none true = refl
and-none false = refl

-- A side that omits the letter of a quadrant is disjoint from the quadrant.
side-apart : (n c a A b B Q : ℕ) (rest : ℕ → Bool) → IsSideWithout n c a A b B → Q < 2 ^ (2 * n) → HasLetters n Q (λ x. agree (in_set A c) (in_set A x) && rest x) → AreDisjoint B Q
side-apart n c a A b B Q rest s w h x = elim (cases_lt x (2 * n)) [
  | inr g ↦ ap (λ z. in_set B x && z) (omits Q x (bit_at_above Q (2 * n) x w (omega (arith, g)))) ∙ and-none (in_set B x)
  | inl l ↦ elim (cases_Bool (in_set A c)) [
    | inl e ↦ ap₂ (λ y z. y && z) ((s.turned e).1 x l) (h x l ∙ ap (λ z. agree z (in_set A x) && rest x) e) ∙ quadrant-side true (in_set A x) (rest x)
    | inr e ↦ ap₂ (λ y z. y && z) (ap (λ (z : ℕ). in_set z x) (s.same e).1) (h x l ∙ ap (λ z. agree z (in_set A x) && rest x) e) ∙ quadrant-same (in_set A x) (rest x)
  ]
]

and-turn : (p q : Bool) → (p && q) ≡ (q && p)
and-turn true true = refl
and-turn true false = refl
and-turn false true = refl
and-turn false false = refl

module _ (t : TupleData) (is : IsTuple t) (low : t.rank ≤ 26) (a b A B : ℕ) (u : IsCut t.rank a A) (v : IsCut t.rank b B) (peak : IsPeak t (cut_move t.rank a A) (cut_move t.rank b B))
    (c Q : ℕ) (s : Serves t A B c Q) where
  pub near_apart : (a2 A2 : ℕ) → IsSideWithout t.rank c a A a2 A2 → AreDisjoint A2 Q
  near_apart a2 A2 h = side-apart t.rank c a A a2 A2 Q (λ x. agree (in_set B c) (in_set B x)) h s.quadrant.within s.quadrant.letters

  pub far_apart : (b2 B2 : ℕ) → IsSideWithout t.rank c b B b2 B2 → AreDisjoint Q B2
  far_apart b2 B2 h x =
      and-turn (in_set Q x) (in_set B2 x)
      ∙ side-apart t.rank c b B b2 B2 Q (λ y. agree (in_set A c) (in_set A y)) h s.quadrant.within
      (λ y l. s.quadrant.letters y l ∙ and-turn (agree (in_set A c) (in_set A y)) (agree (in_set B c) (in_set B y))) x

  pub near_peak : (a2 A2 : ℕ) → IsSideWithout t.rank c a A a2 A2 → IsPeak t (cut_move t.rank a2 A2) (cut_move t.rank c Q)
  near_peak a2 A2 h =
      let e : tuple_length (act t (cut_move t.rank a A)) ≡ tuple_length (act t (cut_move t.rank a2 A2)) = ap tuple_length (side-acts t is low c a A a2 A2 u h) in
      record { left = omega (arith, e, peak.left); right = omega (arith, s.shortens); falls = omega (arith, e, peak.left, s.shortens) }

  pub far_peak : (b2 B2 : ℕ) → IsSideWithout t.rank c b B b2 B2 → IsPeak t (cut_move t.rank c Q) (cut_move t.rank b2 B2)
  far_peak b2 B2 h =
      let e : tuple_length (act t (cut_move t.rank b B)) ≡ tuple_length (act t (cut_move t.rank b2 B2)) = ap tuple_length (side-acts t is low c b B b2 B2 v h) in
      record { left = omega (arith, s.shortens); right = omega (arith, e, peak.right); falls = omega (arith, e, peak.right, s.shortens) }

  pub lowered_by_quadrant : (a2 A2 b2 B2 : ℕ) → IsSideWithout t.rank c a A a2 A2 → IsSideWithout t.rank c b B b2 B2 → (ms ns : List Move) →
      IsLowered t (cut_move t.rank a2 A2) (cut_move t.rank c Q) ms → IsLowered t (cut_move t.rank c Q) (cut_move t.rank b2 B2) ns → (way : List Move) → way ≡ ms ++ ns →
      IsLowered t (cut_move t.rank a A) (cut_move t.rank b B) way
  lowered_by_quadrant a2 A2 b2 B2 near far ms ns p q way e =
      let ha : IsMoveOfRank t.rank (cut_move t.rank a A) = move_of_rank t.rank (cut a A) low u in
      let hb : IsMoveOfRank t.rank (cut_move t.rank b B) = move_of_rank t.rank (cut b B) low v in
      let ha2 : IsMoveOfRank t.rank (cut_move t.rank a2 A2) = move_of_rank t.rank (cut a2 A2) low near.cut in
      let hb2 : IsMoveOfRank t.rank (cut_move t.rank b2 B2) = move_of_rank t.rank (cut b2 B2) low far.cut in
      let hc : IsMoveOfRank t.rank (cut_move t.rank c Q) = move_of_rank t.rank (cut c Q) low s.cut in
      subst (IsLowered t (cut_move t.rank a A) (cut_move t.rank b B)) (sym e)
      (lowered_from t (cut_move t.rank a A) (cut_move t.rank a2 A2) (cut_move t.rank b B) (ms ++ ns) is ha ha2 hb (side-conjugate t.rank c a A a2 A2 u near)
      (lowered_to t (cut_move t.rank a2 A2) (cut_move t.rank b B) (cut_move t.rank b2 B2) (ms ++ ns) is ha2 hb hb2
      (conjugate-sym t.rank (cut_move t.rank b B ∷ []) (cut_move t.rank b2 B2 ∷ []) (side-conjugate t.rank c b B b2 B2 v far))
      (lowered_by_way t (cut_move t.rank a2 A2) (cut_move t.rank c Q) (cut_move t.rank b2 B2) ms ns ha2 hc hb2 p q s.shortens)))

-- ---- sides that are disjoint
pub apart_from_bits : (A B : ℕ) → bit_and A B ≡ 0 → AreDisjoint A B
apart_from_bits A B e x = sym (and_has A B x) ∙ (ap (λ (z : ℕ). in_set z x) e ∙ omits 0 x (bit_at_above 0 0 x (omega arith) (omega arith)))

module _ (t : TupleData) (is : IsTuple t) (low : t.rank ≤ 26) (a b A B : ℕ) (u : IsCut t.rank a A) (v : IsCut t.rank b B) (peak : IsPeak t (cut_move t.rank a A) (cut_move t.rank b B))
    (c a2 A2 b2 B2 : ℕ) (near : IsSideWithout t.rank c a A a2 A2) (far : IsSideWithout t.rank c b B b2 B2) where
  pub sides_peak : IsPeak t (cut_move t.rank a2 A2) (cut_move t.rank b2 B2)
  sides_peak =
      let e : tuple_length (act t (cut_move t.rank a A)) ≡ tuple_length (act t (cut_move t.rank a2 A2)) = ap tuple_length (side-acts t is low c a A a2 A2 u near) in
      let f : tuple_length (act t (cut_move t.rank b B)) ≡ tuple_length (act t (cut_move t.rank b2 B2)) = ap tuple_length (side-acts t is low c b B b2 B2 v far) in
      record { left = omega (arith, e, peak.left); right = omega (arith, f, peak.right); falls = omega (arith, e, f, peak.falls) }

  pub lowered_by_sides : (way : List Move) → IsLowered t (cut_move t.rank a2 A2) (cut_move t.rank b2 B2) way → IsLowered t (cut_move t.rank a A) (cut_move t.rank b B) way
  lowered_by_sides way p =
      let ha : IsMoveOfRank t.rank (cut_move t.rank a A) = move_of_rank t.rank (cut a A) low u in
      let hb : IsMoveOfRank t.rank (cut_move t.rank b B) = move_of_rank t.rank (cut b B) low v in
      let ha2 : IsMoveOfRank t.rank (cut_move t.rank a2 A2) = move_of_rank t.rank (cut a2 A2) low near.cut in
      let hb2 : IsMoveOfRank t.rank (cut_move t.rank b2 B2) = move_of_rank t.rank (cut b2 B2) low far.cut in
      lowered_from t (cut_move t.rank a A) (cut_move t.rank a2 A2) (cut_move t.rank b B) way is ha ha2 hb (side-conjugate t.rank c a A a2 A2 u near)
      (lowered_to t (cut_move t.rank a2 A2) (cut_move t.rank b B) (cut_move t.rank b2 B2) way is ha2 hb hb2
      (conjugate-sym t.rank (cut_move t.rank b B ∷ []) (cut_move t.rank b2 B2 ∷ []) (side-conjugate t.rank c b B b2 B2 v far)) p)

-- The side as the program makes it.
pub side_made : (r n c a A b B : ℕ) → r ≡ n → IsCut n a A → (in_set A c ≡ false → b ≡ a) → (in_set A c ≡ true → b ≡ inverse_letter a) → (in_set A c ≡ false → B ≡ A) →
    (in_set A c ≡ true → HasLetters r B (λ x. not (in_set A x))) → B < 2 ^ (2 * r) → IsSideWithout n c a A b B
side_made r n c a A b B e u kept turned same other w = record {
  cut = elim (cases_Bool (in_set A c)) [
    | inl q ↦ subst (λ (z : ℕ). IsCut n z B) (sym (turned q)) (complement_cut n a A B u (letters q) (subst (λ (z : ℕ). B < 2 ^ (2 * z)) e w))
    | inr q ↦ subst (λ (z : ℕ). IsCut n z B) (sym (kept q)) (subst (λ (z : ℕ). IsCut n a z) (sym (same q)) u)
  ];
  same = λ q. (kept q, same q);
  turned = λ q. (turned q, letters q);
}
  where
    letters : in_set A c ≡ true → HasLetters n B (λ x. not (in_set A x))
    letters q = subst (λ (z : ℕ). HasLetters z B (λ x. not (in_set A x))) e (other q)

    complement_cut : (n a A B : ℕ) → IsCut n a A → HasLetters n B (λ x. not (in_set A x)) → B < 2 ^ (2 * n) → IsCut n (inverse_letter a) B
    complement_cut n a A B u h w = record {
      of_rank = inverse_below n a u.of_rank;
      within = w;
      holds = holds_back B (inverse_letter a) (h (inverse_letter a) (inverse_below n a u.of_rank) ∙ ap not (omits A (inverse_letter a) u.omits));
      omits = ap (bit_at B) (inverse-inverse a) ∙ omits_back B a (h a u.of_rank ∙ ap not (holds A a u.holds));
    }

-- ---- which quadrant serves
agree-self : (p : Bool) → agree p p ≡ true
agree-self true = refl
agree-self false = refl

agree-not : (p : Bool) → agree p (not p) ≡ false
agree-not true = refl
agree-not false = refl

-- The quadrant of a letter that it doesn't share with its inverse is a cut.
pub quadrant_cut : (n A B c Q : ℕ) → c < 2 * n → IsQuadrant n A B c Q → (in_set A (inverse_letter c) ≡ not (in_set A c)) ⊎ (in_set B (inverse_letter c) ≡ not (in_set B c)) → IsCut n c Q
quadrant_cut n A B c Q l q h = record {
  of_rank = l;
  within = q.within;
  holds = holds_back Q c (q.letters c l ∙ ap₂ (λ y z. y && z) (agree-self (in_set A c)) (agree-self (in_set B c)));
  omits = omits_back Q (inverse_letter c) (q.letters (inverse_letter c) (inverse_below n c l) ∙ out h);
}
  where
    out : (in_set A (inverse_letter c) ≡ not (in_set A c)) ⊎ (in_set B (inverse_letter c) ≡ not (in_set B c)) →
        (agree (in_set A c) (in_set A (inverse_letter c)) && agree (in_set B c) (in_set B (inverse_letter c))) ≡ false
    out (inl e) = ap (λ z. agree (in_set A c) z && agree (in_set B c) (in_set B (inverse_letter c))) e ∙ ap (λ z. z && agree (in_set B c) (in_set B (inverse_letter c))) (agree-not (in_set A c))
    out (inr e) = ap (λ z. agree (in_set A c) (in_set A (inverse_letter c)) && agree (in_set B c) z) e ∙ (ap (λ z. agree (in_set A c) (in_set A (inverse_letter c)) && z) (agree-not (in_set B c)) ∙ and-none (agree (in_set A c) (in_set A (inverse_letter c))))

agree-side : (i p : Bool) → agree i p ≡ not (side i (λ _. p) 0)
agree-side true true = refl
agree-side true false = refl
agree-side false p = refl

module _ (t : TupleData) (is : IsTuple t) (A B : ℕ) where
  abbrev test : Bool → Bool → ℕ → Bool
  test i j = between_sides (side i (in_set A)) (side j (in_set B))

  quadrant-test : (c Q : ℕ) → IsQuadrant t.rank A B c Q → (i j : Bool) → in_set A c ≡ i → in_set B c ≡ j → HasLetters t.rank Q (test i j)
  quadrant-test c Q q i j ei ej x l =
      q.letters x l ∙ (ap₂ (λ y z. agree y (in_set A x) && agree z (in_set B x)) ei ej ∙ sides i j)
    where
      sides : (i j : Bool) → (agree i (in_set A x) && agree j (in_set B x)) ≡ test i j x
      sides true true = ap₂ (λ y z. y && z) (agree-side true (in_set A x)) (agree-side true (in_set B x))
      sides true false = ap₂ (λ y z. y && z) (agree-side true (in_set A x)) (agree-side false (in_set B x))
      sides false true = ap₂ (λ y z. y && z) (agree-side false (in_set A x)) (agree-side true (in_set B x))
      sides false false = ap₂ (λ y z. y && z) (agree-side false (in_set A x)) (agree-side false (in_set B x))

  -- The length law for a quadrant.
  quadrant_law : (c Q : ℕ) → IsCut t.rank c Q → IsQuadrant t.rank A B c Q → (i j : Bool) → in_set A c ≡ i → in_set B c ≡ j →
      tuple_length (act t (cut_move t.rank c Q)) + deg c t.words ≡ tuple_length t + cap (test i j) t.words
  quadrant_law c Q u q i j ei ej =
      let h : HasLetters t.rank Q (test i j) = quadrant-test c Q q i j ei ej in
      let k : IsTest c (test i j) = record { has = sym (h c u.of_rank) ∙ holds Q c u.holds; lacks = sym (h (inverse_letter c) (inverse_below t.rank c u.of_rank)) ∙ omits Q (inverse_letter c) u.omits } in
      let same : (act t (cut_move t.rank c Q)).words ≡ act1 (cutting c (test i j)) t.words =
      ap (λ (z : ℕ). (act t (cut_move t.rank c z)).words) (mask-is (2 * t.rank) Q (test i j) u.within h) ∙ expand_one-acts t.rank (cuts c (test i j) k) u.of_rank t.words (cyclic_words t is) (words_of_rank t is) in
      omega (arith, length_law c (test i j) k t.words (cyclic_words t is), len-is t.words, len-is (act t (cut_move t.rank c Q)).words, ap len same)

  cond-left : (p : Bool) → cond p (cap (test true true) t.words) (cap (test true false) t.words) ≡ cap (test true p) t.words
  cond-left true = refl
  cond-left false = refl

  cond-right : (p : Bool) → cond p (cap (test false true) t.words) (cap (test false false) t.words) ≡ cap (test false p) t.words
  cond-right true = refl
  cond-right false = refl

  cond-upper : (p : Bool) → cond p (cap (test true true) t.words) (cap (test false true) t.words) ≡ cap (test p true) t.words
  cond-upper true = refl
  cond-upper false = refl

  cond-lower : (p : Bool) → cond p (cap (test true false) t.words) (cap (test false false) t.words) ≡ cap (test p false) t.words
  cond-lower true = refl
  cond-lower false = refl

  -- Where the quadrants of three of the letters don't shorten, that of the fourth does.
  pub last_serves : (a b Q1 Q2 Q3 Q4 : ℕ) → IsCut t.rank a A → IsCut t.rank b B → IsPeak t (cut_move t.rank a A) (cut_move t.rank b B) →
      IsCut t.rank a Q1 → IsQuadrant t.rank A B a Q1 → IsCut t.rank (inverse_letter a) Q2 → IsQuadrant t.rank A B (inverse_letter a) Q2 → IsCut t.rank b Q3 → IsQuadrant t.rank A B b Q3 →
      IsCut t.rank (inverse_letter b) Q4 → IsQuadrant t.rank A B (inverse_letter b) Q4 →
      tuple_length t ≤ tuple_length (act t (cut_move t.rank a Q1)) → tuple_length t ≤ tuple_length (act t (cut_move t.rank (inverse_letter a) Q2)) → tuple_length t ≤ tuple_length (act t (cut_move t.rank b Q3)) →
      tuple_length (act t (cut_move t.rank (inverse_letter b) Q4)) < tuple_length t
  last_serves a b Q1 Q2 Q3 Q4 u v peak u1 q1 u2 q2 u3 q3 u4 q4 l1 l2 l3 =
      let lawA : tuple_length (act t (cut_move t.rank a A)) + deg a t.words ≡ tuple_length t + cap (in_set A) t.words = cut_law t is a A u in
      let lawB : tuple_length (act t (cut_move t.rank b B)) + deg b t.words ≡ tuple_length t + cap (in_set B) t.words = cut_law t is b B v in
      let law1 : tuple_length (act t (cut_move t.rank a Q1)) + deg a t.words ≡ tuple_length t + cap (test true (in_set B a)) t.words =
      quadrant_law a Q1 u1 q1 true (in_set B a) (holds A a u.holds) refl in
      let law2 : tuple_length (act t (cut_move t.rank (inverse_letter a) Q2)) + deg (inverse_letter a) t.words ≡ tuple_length t + cap (test false (in_set B (inverse_letter a))) t.words =
      quadrant_law (inverse_letter a) Q2 u2 q2 false (in_set B (inverse_letter a)) (omits A (inverse_letter a) u.omits) refl in
      let law3 : tuple_length (act t (cut_move t.rank b Q3)) + deg b t.words ≡ tuple_length t + cap (test (in_set A b) true) t.words =
      quadrant_law b Q3 u3 q3 (in_set A b) true refl (holds B b v.holds) in
      let law4 : tuple_length (act t (cut_move t.rank (inverse_letter b) Q4)) + deg (inverse_letter b) t.words ≡ tuple_length t + cap (test (in_set A (inverse_letter b)) false) t.words =
      quadrant_law (inverse_letter b) Q4 u4 q4 (in_set A (inverse_letter b)) false refl (omits B (inverse_letter b) v.omits) in
      elim (serves (cap (test true true) t.words) (cap (test true false) t.words) (cap (test false true) t.words) (cap (test false false) t.words)
      (cap (in_set A) t.words) (cap (in_set B) t.words) (deg a t.words) (deg b t.words) (in_set B a) (in_set B (inverse_letter a)) (in_set A b) (in_set A (inverse_letter b))
      (opposite_quadrants (in_set A) (in_set B) t.words) (other_quadrants (in_set A) (in_set B) t.words) (omega (arith, peak.falls, lawA, lawB))) [
        | inl e ↦ absurd (omega (arith, e, law1, l1, cond-left (in_set B a)))
        | inr (inl e) ↦ absurd (omega (arith, e, law2, l2, cond-right (in_set B (inverse_letter a)), deg-inverse a t.words))
        | inr (inr (inl e)) ↦ absurd (omega (arith, e, law3, l3, cond-upper (in_set A b)))
        | inr (inr (inr e)) ↦ omega (arith, e, law4, cond-lower (in_set A (inverse_letter b)), deg-inverse b t.words)
      ]

-- ---- as the program finds it
-- A letter has one quadrant.
quadrant_one : (n A B c Q R : ℕ) → IsQuadrant n A B c Q → IsQuadrant n A B c R → Q ≡ R
quadrant_one n A B c Q R q r = mask-is (2 * n) Q (λ x. agree (in_set A c) (in_set A x) && agree (in_set B c) (in_set B x)) q.within q.letters
    ∙ sym (mask-is (2 * n) R (λ x. agree (in_set A c) (in_set A x) && agree (in_set B c) (in_set B x)) r.within r.letters)

quadrant_there : (n A B c : ℕ) → IsQuadrant n A B c (mask (2 * n) (λ x. agree (in_set A c) (in_set A x) && agree (in_set B c) (in_set B x)))
quadrant_there n A B c = record {
  within = mask_lt (2 * n) (λ x. agree (in_set A c) (in_set A x) && agree (in_set B c) (in_set B x));
  letters = λ x l. mask_has (2 * n) (λ y. agree (in_set A c) (in_set A y) && agree (in_set B c) (in_set B y)) x l;
}

pub shortens_any : (t : TupleData) (A B c Q : ℕ) (result : Bool) → IsQuadrant t.rank A B c Q → IsTrue result ↔ (tuple_length (act t (cut_move t.rank c Q)) < tuple_length t) →
    (R : ℕ) → IsQuadrant t.rank A B c R → IsTrue result ↔ (tuple_length (act t (cut_move t.rank c R)) < tuple_length t)
shortens_any t A B c Q result q h R r = subst (λ (z : ℕ). IsTrue result ↔ (tuple_length (act t (cut_move t.rank c z)) < tuple_length t)) (quadrant_one t.rank A B c Q R q r) h

pub split_at : (n a A : ℕ) → IsCut n a A → in_set A (inverse_letter a) ≡ not (in_set A a)
split_at n a A u = omits A (inverse_letter a) u.omits ∙ ap not (sym (holds A a u.holds))

pub split_back : (n a A : ℕ) → IsCut n a A → in_set A (inverse_letter (inverse_letter a)) ≡ not (in_set A (inverse_letter a))
split_back n a A u = ap (in_set A) (inverse-inverse a) ∙ (holds A a u.holds ∙ ap not (sym (omits A (inverse_letter a) u.omits)))

-- What a test of the quadrant of a letter tells.
abbrev pub Tells : TupleData → ℕ → ℕ → ℕ → Bool → Type 0
Tells t A B c result = (Q : ℕ) → IsQuadrant t.rank A B c Q → IsTrue result ↔ (tuple_length (act t (cut_move t.rank c Q)) < tuple_length t)

not_shorter : (t : TupleData) (A B c : ℕ) (result : Bool) → Tells t A B c result → result ≡ false → (Q : ℕ) → IsQuadrant t.rank A B c Q → tuple_length t ≤ tuple_length (act t (cut_move t.rank c Q))
not_shorter t A B c result h e Q q = elim (cases_lt (tuple_length (act t (cut_move t.rank c Q))) (tuple_length t)) [
  | inl l ↦ absurd (false≢true (sym e ∙ (h Q q).1 l))
  | inr g ↦ omega (arith, g)
]

-- Where three letters don't serve, the fourth does.
pub last_letter : (t : TupleData) (is : IsTuple t) (A B a b : ℕ) (r1 r2 r3 : Bool) → IsCut t.rank a A → IsCut t.rank b B → IsPeak t (cut_move t.rank a A) (cut_move t.rank b B) →
    Tells t A B a r1 → r1 ≡ false → Tells t A B (inverse_letter a) r2 → r2 ≡ false → Tells t A B b r3 → r3 ≡ false →
    (Q : ℕ) → IsQuadrant t.rank A B (inverse_letter b) Q → tuple_length (act t (cut_move t.rank (inverse_letter b) Q)) < tuple_length t
last_letter t is A B a b r1 r2 r3 u v peak t1 e1 t2 e2 t3 e3 Q q =
    let q1 : IsQuadrant t.rank A B a (mask (2 * t.rank) (λ x. agree (in_set A a) (in_set A x) && agree (in_set B a) (in_set B x))) = quadrant_there t.rank A B a in
    let q2 : IsQuadrant t.rank A B (inverse_letter a) (mask (2 * t.rank) (λ x. agree (in_set A (inverse_letter a)) (in_set A x) && agree (in_set B (inverse_letter a)) (in_set B x))) = quadrant_there t.rank A B (inverse_letter a) in
    let q3 : IsQuadrant t.rank A B b (mask (2 * t.rank) (λ x. agree (in_set A b) (in_set A x) && agree (in_set B b) (in_set B x))) = quadrant_there t.rank A B b in
    let la' : inverse_letter a < 2 * t.rank = inverse_below t.rank a u.of_rank in
    let lb' : inverse_letter b < 2 * t.rank = inverse_below t.rank b v.of_rank in
    last_serves t is A B a b _ _ _ Q u v peak
    (quadrant_cut t.rank A B a _ u.of_rank q1 (inl (split_at t.rank a A u))) q1 (quadrant_cut t.rank A B (inverse_letter a) _ la' q2 (inl (split_back t.rank a A u))) q2
    (quadrant_cut t.rank A B b _ v.of_rank q3 (inr (split_at t.rank b B v))) q3 (quadrant_cut t.rank A B (inverse_letter b) Q lb' q (inr (split_back t.rank b B v))) q
    (not_shorter t A B a r1 t1 e1 _ q1) (not_shorter t A B (inverse_letter a) r2 t2 e2 _ q2) (not_shorter t A B b r3 t3 e3 _ q3)

-- ---- what serves, as the program finds it
pub split_turned : (n a A x : ℕ) → x ≡ inverse_letter a → IsCut n a A → in_set A (inverse_letter x) ≡ not (in_set A x)
split_turned n a A x e u = subst (λ (z : ℕ). in_set A (inverse_letter z) ≡ not (in_set A z)) (sym e) (split_back n a A u)

pub serves_at : (t : TupleData) (A B c : ℕ) → c < 2 * t.rank → (in_set A (inverse_letter c) ≡ not (in_set A c)) ⊎ (in_set B (inverse_letter c) ≡ not (in_set B c)) → Tells t A B c true →
    (Q : ℕ) → IsQuadrant t.rank A B c Q → Serves t A B c Q
serves_at t A B c l h tells Q q = record { cut = quadrant_cut t.rank A B c Q l q h; quadrant = q; shortens = (tells Q q).0 refl }

pub last_at : (t : TupleData) → IsTuple t → (A B a b x y : ℕ) → IsCut t.rank a A → IsCut t.rank b B → IsPeak t (cut_move t.rank a A) (cut_move t.rank b B) → x ≡ inverse_letter a → y ≡ inverse_letter b →
    Tells t A B a false → Tells t A B x false → Tells t A B b false → (Q : ℕ) → IsQuadrant t.rank A B y Q → Serves t A B y Q
last_at t is A B a b x y u v peak ex ey t1 t2 t3 Q q =
    let own : IsQuadrant t.rank A B (inverse_letter b) Q = subst (λ (z : ℕ). IsQuadrant t.rank A B z Q) ey q in
    let second : Tells t A B (inverse_letter a) false = subst (λ (z : ℕ). Tells t A B z false) ex t2 in
    subst (λ (z : ℕ). Serves t A B z Q) (sym ey) (record {
      cut = quadrant_cut t.rank A B (inverse_letter b) Q (inverse_below t.rank b v.of_rank) own (inr (split_back t.rank b B v));
      quadrant = own;
      shortens = last_letter t is A B a b false false false u v peak t1 refl second refl t3 refl Q own;
    })
