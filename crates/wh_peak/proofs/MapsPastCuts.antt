-- Round a peak of a cut and a map of letters, by a shorter tuple.
use Rattle.wh_words.proofs.LetterMaps.{inverse_below}
use Rattle.std.specs.List.{flat_map}
use Rattle.std.proofs.Common.{◌≡◌, ℕ, ◌*◌, ◌≤◌, ◌<◌, List, [], ◌∷◌, refl, sym, ap, ap₂, subst, inl, inr, append-nil, ◌∙◌, arith, ne_eqb, length}
use Rattle.std.specs.Prelude.{Bool, true, false, ◌++◌}
use Rattle.wh_words.specs.Letters.{inverse_letter}
use Rattle.wh_peak.proofs.FreeWords.{power, Same-of}
use Rattle.wh_peak.proofs.Substitutions.{Substitution}
use Rattle.wh_peak.proofs.EqualComposites.{Agree, Agree-sym, move_left, move_right}
use Rattle.wh_peak.proofs.AlikeLists.{Alike, Alike-agree, Alike-sym}
use Rattle.wh_peak.proofs.CutForms.{cut_letter, IsCut, is-cases, turned}
use Rattle.wh_peak.proofs.ConjugatedCuts.{is-self, is-other}
use Rattle.wh_peak.proofs.CutSubstitutions.{Agree-two_two, cut_letter-at, cut_letter-off, cutting, letters}
use Rattle.wh_peak.proofs.CutsOfOneGenerator.{turned-cut, undo, undo-inverse}
use Rattle.wh_peak.proofs.CarriedLetters.{letters-inverse}
use Rattle.wh_peak.proofs.Actions.{act1, acts, AreCyclic, act1-cyclic, alike_acts, agreeing_acts, inverse_acts}
use Rattle.wh_peak.proofs.Lengths.{len, cap, deg, length_law}
use Rattle.wh_peak.proofs.Steps.{Step, substitution, back, step-inverse, substitutions}
use Rattle.wh_peak.proofs.CarryWords.{Word}
use Rattle.wh_peak.proofs.RankedSteps.{AreRanked, word_below, NotLone}
use Rattle.wh_peak.proofs.DisjointWays.{Between, maps_length}
use Rattle.wh_graph.specs.Laws.{is_of}
use Rattle.wh_peak.proofs.Steps.Step.{cuts, maps}

-- A list leads from the tuple after one step to the tuple after another, round the peak.
pub record LoweredSteps (N : ℕ) (u : List (List ℕ)) (l r : Step) : Type 0 where
  pub list : List Step
  pub few : length list ≤ 6
  pub ranked : AreRanked N list
  pub joint : NotLone list
  pub alike : Alike (substitutions list) (substitution (back l) ∷ substitution r ∷ [])
  pub between : Between (len u) (substitutions list) (act1 (substitution l) u)

-- It leads to the tuple after the second step.
pub LoweredSteps-leads : (N : ℕ) (u : List (List ℕ)) (l r : Step) → AreCyclic u → (w : LoweredSteps N u l r) → acts (substitutions w.list) (act1 (substitution l) u) ≡ act1 (substitution r) u
unfolding acts
LoweredSteps-leads N u l r h w =
    alike_acts (substitutions w.list) (substitution (back l) ∷ substitution r ∷ []) w.alike (act1 (substitution l) u) (act1-cyclic (substitution l) u)
    ∙ ap (act1 (substitution r)) (inverse_acts (substitution l ∷ []) (substitution (back l) ∷ []) (step-inverse l) u h)

-- ---- a map of letters and a cut
-- A cut and then a map of letters is the map and then the cut of the mapped letters.
module _ (p q : ℕ → ℕ) (hp : (y : ℕ) → p (inverse_letter y) ≡ inverse_letter (p y)) (hq : (y : ℕ) → q (inverse_letter y) ≡ inverse_letter (q y))
    (qp : (y : ℕ) → q (p y) ≡ y) (pq : (y : ℕ) → p (q y) ≡ y) (a : ℕ) (A : ℕ → Bool) (c : IsCut a A) where
  abbrev pub moved : ℕ → Bool
  moved x = A (q x)

  pub moved-cut : IsCut (p a) moved
  moved-cut = record { has = ap A (qp a) ∙ c.has; lacks = ap A (hq (p a) ∙ ap inverse_letter (qp a)) ∙ c.lacks }

  pub is-moved : (x : ℕ) → is_of (p a) (p x) ≡ is_of a x
  is-moved x = elim (is_of a x) as (λ t. is_of a x ≡ t → is_of (p a) (p x) ≡ t) [
    | true ↦ λ e. elim (is-cases a x e) [
      | inl s ↦ rw s (is-self (p a))
      | inr s ↦ rw (s, hp a) (is-other (p a))
    ]
    | false ↦ λ e. simp (
      ne_eqb (p x) (p a) (λ s. no_left x e (sym (qp x) ∙ (ap q s ∙ qp a))),
      ne_eqb (p x) (inverse_letter (p a)) (λ s. no_right x e (sym (qp x) ∙ (ap q (s ∙ sym (hp a)) ∙ qp (inverse_letter a)))),
    )
  ] refl
    where
      no_left : (x : ℕ) → is_of a x ≡ false → x ≡ a → ⊥
      no_left x e s = let w : is_of a a ≡ false = subst (λ t. is_of a t ≡ false) s e in let v : is_of a a ≡ true = is-self a in grind (arith, w, v)

      no_right : (x : ℕ) → is_of a x ≡ false → x ≡ inverse_letter a → ⊥
      no_right x e s = let w : is_of a (inverse_letter a) ≡ false = subst (λ t. is_of a t ≡ false) s e in let v : is_of a (inverse_letter a) ≡ true = is-other a in grind (arith, w, v)

  mapped : (u v : Bool) (x : ℕ) → flat_map (λ y. p y ∷ []) (power v (inverse_letter a) ++ (x ∷ power u a)) ≡ power v (inverse_letter (p a)) ++ (p x ∷ power u (p a))
  mapped true true x = rw (hp a) refl
  mapped true false x = refl
  mapped false true x = rw (hp a) refl
  mapped false false x = refl

  moved_letter : (x : ℕ) → flat_map (λ y. p y ∷ []) (cut_letter a A x) ≡ cut_letter (p a) moved (p x)
  moved_letter x = elim (is_of a x) as (λ t. is_of a x ≡ t → flat_map (λ y. p y ∷ []) (cut_letter a A x) ≡ cut_letter (p a) moved (p x)) [
    | true ↦ λ e. ap (flat_map (λ y. p y ∷ [])) (cut_letter-at a A x e) ∙ sym (cut_letter-at (p a) moved (p x) (is-moved x ∙ e))
    | false ↦ λ e. ap (flat_map (λ y. p y ∷ [])) (cut_letter-off a A x e) ∙ (mapped (A x) (A (inverse_letter x)) x
        ∙ sym (cut_letter-off (p a) moved (p x) (is-moved x ∙ e)
        ∙ ap₂ (λ s t. power s (inverse_letter (p a)) ++ (p x ∷ power t (p a))) (ap A (hq (p x) ∙ ap inverse_letter (qp x))) (ap A (qp x))))
  ] refl

  pub past : Agree (cutting a A ∷ letters p hp ∷ []) (letters p hp ∷ cutting (p a) moved ∷ [])
  past = Agree-two_two (cutting a A) (letters p hp) (letters p hp) (cutting (p a) moved)
      (λ x. Same-of _ _ (moved_letter x ∙ sym (append-nil (cut_letter (p a) moved (p x)))))

  abbrev pub T : Step
  T = maps p q hp hq qp pq

  module _ (N : ℕ) (wp : Word N p) (wq : Word N q) (la : a < 2 * N) (u : List (List ℕ)) (h : AreCyclic u) (less : cap A u < deg a u) where
    pub after_length : len (act1 (letters p hp) (act1 (cutting a A) u)) < len u
    after_length = omega (arith, maps_length p q hp hq qp pq (act1 (cutting a A) u) (act1-cyclic (cutting a A) u), length_law a A c u h)

    -- From the tuple after the map to that after the cut.
    unfoldable pub lower_left : LoweredSteps N u T (cuts a A c)
    unfolding acts
    lower_left =
        let α' : Substitution = cutting (p a) moved in
        let e : Agree (α' ∷ []) (letters q hq ∷ cutting a A ∷ letters p hp ∷ []) =
        move_left (letters p hp ∷ []) (letters q hq ∷ []) (α' ∷ []) (cutting a A ∷ letters p hp ∷ []) (letters-inverse p q hp hq qp pq)
        (Agree-sym (cutting a A ∷ letters p hp ∷ []) (letters p hp ∷ α' ∷ []) past) in
        let f : Agree (letters q hq ∷ cutting a A ∷ []) (α' ∷ letters q hq ∷ []) =
        move_right (letters p hp ∷ []) (letters q hq ∷ []) (letters q hq ∷ cutting a A ∷ []) (α' ∷ []) (letters-inverse p q hp hq qp pq)
        (Agree-sym (α' ∷ []) (letters q hq ∷ cutting a A ∷ letters p hp ∷ []) e) in
        let t : act1 (letters p hp) (act1 (cutting a A) u) ≡ act1 α' (act1 (letters p hp) u) =
        agreeing_acts (cutting a A ∷ letters p hp ∷ []) (letters p hp ∷ α' ∷ []) past u h in
        record {
          list = cuts (p a) moved moved-cut ∷ maps q p hq hp pq qp ∷ [];
          few = omega arith;
          joint = tt;
          ranked = (word_below N p wp a la, ((wq, wp), tt));
          alike = Alike-sym (letters q hq ∷ cutting a A ∷ []) (α' ∷ letters q hq ∷ []) (Alike-agree (letters q hq ∷ cutting a A ∷ []) (α' ∷ letters q hq ∷ []) f);
          between = (omega (arith, ap len t, after_length), tt);
        }

    -- From the tuple after the cut to that after the map.
    unfoldable pub lower_right : LoweredSteps N u (cuts a A c) T
    lower_right =
        let α' : Substitution = cutting (p a) moved in
        let e : Agree (letters p hp ∷ []) (undo a A ∷ letters p hp ∷ α' ∷ []) =
        move_left (cutting a A ∷ []) (undo a A ∷ []) (letters p hp ∷ []) (letters p hp ∷ α' ∷ []) (undo-inverse a A) past in
        let f : Agree (undo a A ∷ letters p hp ∷ []) (letters p hp ∷ undo (p a) moved ∷ []) =
        move_right (α' ∷ []) (undo (p a) moved ∷ []) (undo a A ∷ letters p hp ∷ []) (letters p hp ∷ []) (undo-inverse (p a) moved)
        (Agree-sym (letters p hp ∷ []) (undo a A ∷ letters p hp ∷ α' ∷ []) e) in
        record {
          list = maps p q hp hq qp pq ∷ cuts (inverse_letter (p a)) (turned (p a) moved) (turned-cut (p a) moved) ∷ [];
          few = omega arith;
          joint = tt;
          ranked = ((wp, wq), (inverse_below N (p a) (word_below N p wp a la), tt));
          alike = Alike-sym (undo a A ∷ letters p hp ∷ []) (letters p hp ∷ undo (p a) moved ∷ []) (Alike-agree (undo a A ∷ letters p hp ∷ []) (letters p hp ∷ undo (p a) moved ∷ []) f);
          between = (after_length, tt);
        }
