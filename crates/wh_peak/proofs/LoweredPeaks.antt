-- Round a peak of two cuts: by way of a cut of one of the quadrants of their sets, which is disjoint from both up to complements.
use Rattle.wh_words.proofs.LetterMaps.{inverse_below}
use Rattle.std.proofs.Common.{◌≡◌, ℕ, ◌+◌, ◌*◌, ◌≤◌, ◌<◌, List, [], ◌∷◌, refl, sym, ap, subst, inl, inr, arith, length-append}
use Rattle.std.specs.Prelude.{Bool, true, false, cond, not, ◌&&◌, ◌++◌}
use Rattle.wh_words.specs.Letters.{inverse_letter}
use Rattle.wh_words.proofs.FreeReduction.{inverse-inverse}
use Rattle.wh_peak.proofs.Substitutions.{Substitution}
use Rattle.wh_peak.proofs.EqualComposites.{Agree, Agree-refl, Agree-sym}
use Rattle.wh_peak.proofs.AlikeLists.{Alike, Alike-agree, Alike-sym, Alike-then, Alike-inverse, Alike-append}
use Rattle.wh_peak.proofs.CutForms.{IsCut}
use Rattle.wh_peak.proofs.CutSubstitutions.{cutting}
use Rattle.wh_peak.proofs.CutsOfOneGenerator.{undo, undo-inverse}
use Rattle.wh_peak.proofs.InnerCuts.{others, flip}
use Rattle.wh_peak.proofs.Actions.{act1, acts, AreCyclic, alike_acts}
use Rattle.wh_peak.proofs.DisjointCuts.{through}
use Rattle.wh_peak.proofs.Lengths.{len, cap, deg, length_law, deg-inverse, cap-others, opposite_quadrants, other_quadrants}
use Rattle.wh_peak.proofs.Quadrants.{serves}
use Rattle.wh_peak.proofs.Steps.{Step, substitution, substitutions, substitutions-append}
use Rattle.wh_peak.proofs.RankedSteps.{Ranked, AreRanked-append, NotLone-append}
use Rattle.wh_peak.proofs.DisjointWays.{Between, Between-append, maps_length, lands, DisjointWay, disjoint_way}
use Rattle.wh_peak.proofs.MapsPastCuts.{LoweredSteps, lower_left, lower_right}
use Rattle.wh_peak.proofs.Steps.Step.{cuts, maps}

-- ---- a cut or that of the complement
abbrev pub side : Bool → (ℕ → Bool) → ℕ → Bool
side true A = others A
side false A = A

abbrev pub side_letter : Bool → ℕ → ℕ
side_letter true a = inverse_letter a
side_letter false a = a

pub side-cut : (i : Bool) (a : ℕ) (A : ℕ → Bool) → IsCut a A → IsCut (side_letter i a) (side i A)
side-cut true a A c = record { has = simp c.lacks; lacks = rw (inverse-inverse, c.has) refl }
side-cut false a A c = c

pub side-cap : (i : Bool) (A : ℕ → Bool) (u : List (List ℕ)) → cap (side i A) u ≡ cap A u
side-cap true A u = cap-others A u
side-cap false A u = refl

pub side_below : (N : ℕ) (i : Bool) (a : ℕ) → a < 2 * N → side_letter i a < 2 * N
side_below N true a l = inverse_below N a l
side_below N false a l = l

pub side-deg : (i : Bool) (a : ℕ) (u : List (List ℕ)) → deg (side_letter i a) u ≡ deg a u
side-deg true a u = deg-inverse a u
side-deg false a u = refl

pub side-alike : (i : Bool) (a : ℕ) (A : ℕ → Bool) → Alike (cutting a A ∷ []) (cutting (side_letter i a) (side i A) ∷ [])
side-alike true a A = flip a A
side-alike false a A = Alike-agree (cutting a A ∷ []) (cutting a A ∷ []) (Agree-refl (cutting a A ∷ []))

-- The letters in neither set.
abbrev pub between_sides : (ℕ → Bool) → (ℕ → Bool) → ℕ → Bool
between_sides A B y = not (A y) && not (B y)

pub first_apart : (p q : Bool) → (p && (not p && not q)) ≡ false
first_apart true q = refl
first_apart false q = refl

pub second_apart : (p q : Bool) → ((not p && not q) && q) ≡ false
second_apart true q = refl
second_apart false true = refl
second_apart false false = refl

module _ (N : ℕ) (u : List (List ℕ)) (h : AreCyclic u) (a b : ℕ) (la : a < 2 * N) (lb : b < 2 * N) (A B : ℕ → Bool) (c : IsCut a A) (d : IsCut b B)
    (lessA : cap A u ≤ deg a u) (lessB : cap B u ≤ deg b u) where
  -- By way of a cut of a quadrant.
  unfoldable pub via : (i j : Bool) (z : ℕ) → z < 2 * N → IsCut z (between_sides (side i A) (side j B)) → cap (between_sides (side i A) (side j B)) u < deg z u → LoweredSteps N u (cuts a A c) (cuts b B d)
  unfolding acts
  via i j z lz is_cut less =
      let one : DisjointWay N u (side_letter i a) (side i A) z (between_sides (side i A) (side j B)) =
      disjoint_way N u h (side_letter i a) z (side_below N i a la) lz (side i A) (between_sides (side i A) (side j B)) (side-cut i a A c) is_cut (λ v. first_apart (side i A v) (side j B v))
      (omega (arith, side-cap i A u, side-deg i a u)) (omega arith) (omega (arith, side-cap i A u, side-deg i a u)) in
      let two : DisjointWay N u z (between_sides (side i A) (side j B)) (side_letter j b) (side j B) =
      disjoint_way N u h z (side_letter j b) lz (side_below N j b lb) (between_sides (side i A) (side j B)) (side j B) is_cut (side-cut j b B d) (λ v. second_apart (side i A v) (side j B v))
      (omega arith) (omega (arith, side-cap j B u, side-deg j b u)) (omega (arith, side-cap j B u, side-deg j b u)) in
      let γ : Substitution = cutting z (between_sides (side i A) (side j B)) in
      let α : Substitution = cutting (side_letter i a) (side i A) in
      let β : Substitution = cutting (side_letter j b) (side j B) in
      let whole : Agree (undo (side_letter i a) (side i A) ∷ β ∷ []) (substitutions one.list ++ substitutions two.list) =
      through (α ∷ []) (undo (side_letter i a) (side i A) ∷ []) (γ ∷ []) (undo z (between_sides (side i A) (side j B)) ∷ []) (β ∷ []) (substitutions one.list) (substitutions two.list)
      (undo-inverse z (between_sides (side i A) (side j B)))
      (Agree-sym (substitutions one.list) (undo (side_letter i a) (side i A) ∷ γ ∷ []) one.same)
      (Agree-sym (substitutions two.list) (undo z (between_sides (side i A) (side j B)) ∷ β ∷ []) two.same) in
      let swapped : Alike (undo a A ∷ cutting b B ∷ []) (undo (side_letter i a) (side i A) ∷ β ∷ []) =
      Alike-append (undo a A ∷ []) (undo (side_letter i a) (side i A) ∷ []) (cutting b B ∷ []) (β ∷ [])
      (Alike-inverse (cutting a A ∷ []) (undo a A ∷ []) (α ∷ []) (undo (side_letter i a) (side i A) ∷ []) (undo-inverse a A) (undo-inverse (side_letter i a) (side i A)) (side-alike i a A))
      (side-alike j b B) in
      let start : act1 (cutting a A) u ≡ act1 α u = start_same i in
      let meets : acts (substitutions one.list) (act1 α u) ≡ act1 γ u = middle i γ (substitutions one.list) one.same in
      let short : len (act1 γ u) < len u = omega (arith, length_law z (between_sides (side i A) (side j B)) is_cut u h) in
      record {
        list = one.list ++ two.list;
        few = omega (arith, length-append one.list two.list, one.few, two.few);
        ranked = AreRanked-append N one.list two.list one.ranked two.ranked;
        joint = NotLone-append one.list two.list one.joint two.joint;
        alike = subst (λ (v : List Substitution). Alike v (undo a A ∷ cutting b B ∷ [])) (sym (substitutions-append one.list two.list))
            (Alike-sym (undo a A ∷ cutting b B ∷ []) (substitutions one.list ++ substitutions two.list)
            (Alike-then (undo a A ∷ cutting b B ∷ []) (undo (side_letter i a) (side i A) ∷ β ∷ []) (substitutions one.list ++ substitutions two.list) swapped
            (Alike-agree (undo (side_letter i a) (side i A) ∷ β ∷ []) (substitutions one.list ++ substitutions two.list) whole)));
        between = subst (λ (v : List (List ℕ)). Between (len u) (substitutions (one.list ++ two.list)) v) (sym start)
            (subst (λ (v : List Substitution). Between (len u) v (act1 α u)) (sym (substitutions-append one.list two.list))
            (Between-append (len u) (substitutions one.list) (substitutions two.list) (act1 α u) one.between (omega (arith, ap len meets, short))
            (subst (Between (len u) (substitutions two.list)) (sym meets) two.between)));
      }
    where
      start_same : (i : Bool) → act1 (cutting a A) u ≡ act1 (cutting (side_letter i a) (side i A)) u
      start_same i = alike_acts (cutting a A ∷ []) (cutting (side_letter i a) (side i A) ∷ []) (side-alike i a A) u h

      middle : (i : Bool) (γ : Substitution) (m : List Substitution) → Agree m (undo (side_letter i a) (side i A) ∷ γ ∷ []) → acts m (act1 (cutting (side_letter i a) (side i A)) u) ≡ act1 γ u
      middle i γ m e = lands (cutting (side_letter i a) (side i A)) (undo (side_letter i a) (side i A)) γ m (undo-inverse (side_letter i a) (side i A))
          (Agree-sym m (undo (side_letter i a) (side i A) ∷ γ ∷ []) e) u h

  -- ---- which quadrant a letter is in

  both_off : (p q : Bool) → p ≡ false → q ≡ false → (not p && not q) ≡ true
  both_off p q e f = rw (e, f) refl

  left_on : (p q : Bool) → p ≡ true → (not p && not q) ≡ false
  left_on p q e = rw e refl

  right_on : (p q : Bool) → q ≡ true → (not p && not q) ≡ false
  right_on true q e = refl
  right_on false q e = rw e refl

  not-true : (p : Bool) → p ≡ true → not p ≡ false
  not-true p e = rw e refl

  not-false : (p : Bool) → p ≡ false → not p ≡ true
  not-false p e = rw e refl

  -- Round a peak of two cuts.
  pub lower_cuts : cap A u + cap B u < deg a u + deg b u → LoweredSteps N u (cuts a A c) (cuts b B d)
  lower_cuts less = elim (serves
      (cap (between_sides (side true A) (side true B)) u) (cap (between_sides (side true A) (side false B)) u)
      (cap (between_sides (side false A) (side true B)) u) (cap (between_sides (side false A) (side false B)) u)
      (cap A u) (cap B u) (deg a u) (deg b u) (B a) (B (inverse_letter a)) (A b) (A (inverse_letter b))
      (opposite_quadrants A B u) (other_quadrants A B u) less) [
        | inl e ↦ at_a (B a) refl e
        | inr (inl e) ↦ at_a' (B (inverse_letter a)) refl e
        | inr (inr (inl e)) ↦ at_b (A b) refl e
        | inr (inr (inr e)) ↦ at_b' (A (inverse_letter b)) refl e
      ]
    where
      at_a : (p : Bool) → B a ≡ p → cond p (cap (between_sides (side true A) (side true B)) u) (cap (between_sides (side true A) (side false B)) u) < deg a u → LoweredSteps N u (cuts a A c) (cuts b B d)
      at_a true e l = via true true a la (record {
        has = both_off (others A a) (others B a) (not-true (A a) c.has) (not-true (B a) e);
        lacks = left_on (others A (inverse_letter a)) (others B (inverse_letter a)) (not-false (A (inverse_letter a)) c.lacks);
      }) l
      at_a false e l = via true false a la (record {
        has = both_off (others A a) (B a) (not-true (A a) c.has) e;
        lacks = left_on (others A (inverse_letter a)) (B (inverse_letter a)) (not-false (A (inverse_letter a)) c.lacks);
      }) l

      at_a' : (q : Bool) → B (inverse_letter a) ≡ q → cond q (cap (between_sides (side false A) (side true B)) u) (cap (between_sides (side false A) (side false B)) u) < deg a u → LoweredSteps N u (cuts a A c) (cuts b B d)
      at_a' true e l = via false true (inverse_letter a) (inverse_below N a la) (record {
        has = both_off (A (inverse_letter a)) (others B (inverse_letter a)) c.lacks (not-true (B (inverse_letter a)) e);
        lacks = rw inverse-inverse (left_on (A a) (others B a) c.has);
      }) (omega (arith, deg-inverse a u))
      at_a' false e l = via false false (inverse_letter a) (inverse_below N a la) (record {
        has = both_off (A (inverse_letter a)) (B (inverse_letter a)) c.lacks e;
        lacks = rw inverse-inverse (left_on (A a) (B a) c.has);
      }) (omega (arith, deg-inverse a u))

      at_b : (r : Bool) → A b ≡ r → cond r (cap (between_sides (side true A) (side true B)) u) (cap (between_sides (side false A) (side true B)) u) < deg b u → LoweredSteps N u (cuts a A c) (cuts b B d)
      at_b true e l = via true true b lb (record {
        has = both_off (others A b) (others B b) (not-true (A b) e) (not-true (B b) d.has);
        lacks = right_on (others A (inverse_letter b)) (others B (inverse_letter b)) (not-false (B (inverse_letter b)) d.lacks);
      }) l
      at_b false e l = via false true b lb (record {
        has = both_off (A b) (others B b) e (not-true (B b) d.has);
        lacks = right_on (A (inverse_letter b)) (others B (inverse_letter b)) (not-false (B (inverse_letter b)) d.lacks);
      }) l

      at_b' : (s : Bool) → A (inverse_letter b) ≡ s → cond s (cap (between_sides (side true A) (side false B)) u) (cap (between_sides (side false A) (side false B)) u) < deg b u → LoweredSteps N u (cuts a A c) (cuts b B d)
      at_b' true e l = via true false (inverse_letter b) (inverse_below N b lb) (record {
        has = both_off (others A (inverse_letter b)) (B (inverse_letter b)) (not-true (A (inverse_letter b)) e) d.lacks;
        lacks = rw inverse-inverse (right_on (others A b) (B b) d.has);
      }) (omega (arith, deg-inverse b u))
      at_b' false e l = via false false (inverse_letter b) (inverse_below N b lb) (record {
        has = both_off (A (inverse_letter b)) (B (inverse_letter b)) e d.lacks;
        lacks = rw inverse-inverse (right_on (A b) (B b) d.has);
      }) (omega (arith, deg-inverse b u))

-- ---- round any peak
pub lower_steps : (N : ℕ) (u : List (List ℕ)) → AreCyclic u → (l r : Step) → Ranked N l → Ranked N r → len (act1 (substitution l) u) ≤ len u → len (act1 (substitution r) u) ≤ len u
    → len (act1 (substitution l) u) + len (act1 (substitution r) u) < len u + len u → LoweredSteps N u l r
lower_steps N u h (cuts a A c) (cuts b B d) rl rr ml mr m =
    lower_cuts N u h a b rl rr A B c d (omega (arith, length_law a A c u h)) (omega (arith, length_law b B d u h)) (omega (arith, length_law a A c u h, length_law b B d u h))
lower_steps N u h (cuts a A c) (maps p q hp hq qp pq) rl rr ml mr m =
    lower_right p q hp hq qp pq a A c N rr.0 rr.1 rl u h (omega (arith, length_law a A c u h, maps_length p q hp hq qp pq u h))
lower_steps N u h (maps p q hp hq qp pq) (cuts a A c) rl rr ml mr m =
    lower_left p q hp hq qp pq a A c N rl.0 rl.1 rr u h (omega (arith, length_law a A c u h, maps_length p q hp hq qp pq u h))
lower_steps N u h (maps p q hp hq qp pq) (maps p1 q1 hp1 hq1 qp1 pq1) rl rr ml mr m =
    absurd (omega (arith, maps_length p q hp hq qp pq u h, maps_length p1 q1 hp1 hq1 qp1 pq1 u h))
