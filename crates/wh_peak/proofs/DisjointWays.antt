-- From the tuple after one cut to the tuple after another with a disjoint set, by shorter tuples.
use Rattle.wh_composites.specs.SignedPerms.{carry}
use Rattle.wh_words.proofs.LetterMaps.{inverse_below}
use Rattle.std.specs.List.{flat_map}
use Rattle.std.proofs.Common.{◌≡◌, ℕ, ◌+◌, ◌*◌, ◌≤◌, ◌<◌, List, [], ◌∷◌, refl, sym, ap, inl, inr, ◌∙◌, arith, length}
use Rattle.std.proofs.lemmas.Bool.{cases_eq, cases_Bool, cases_lt}
use Rattle.std.specs.Prelude.{Bool, true, false, ◌++◌}
use Rattle.wh_words.specs.Letters.{inverse_letter}
use Rattle.wh_peak.proofs.Substitutions.{Substitution}
use Rattle.wh_peak.proofs.EqualComposites.{Agree, Agree-sym, Inverse}
use Rattle.wh_peak.proofs.CutForms.{IsCut, Apart, union_without, turned}
use Rattle.wh_peak.proofs.CutSubstitutions.{cutting, letters}
use Rattle.wh_peak.proofs.CutsOfOneGenerator.{turned-cut, undo, undo-inverse}
use Rattle.wh_peak.proofs.CarriedLetters.{is-back, carry-turn, carry-undone, carrying, letters-inverse}
use Rattle.wh_peak.proofs.ActionFacts.{normal-length}
use Rattle.wh_peak.proofs.Actions.{act1, acts, AreCyclic, act1-cyclic, agreeing_acts, inverse_acts}
use Rattle.wh_peak.proofs.DisjointCuts.{apart-right, apart-left, Apart-turn, not-at, one_cut, one, two_apart, two_joined, three_cut, three_conjugate, three, four-at, four-back, four-γ, four-γ', four_first, four_a, four_third, four_b, four_a_first, four_a_last, four_b_first}
use Rattle.wh_peak.proofs.Lengths.{len, cap, deg, length_law, deg-inverse}
use Rattle.wh_peak.proofs.PairLengths.{pair_law}
use Rattle.wh_peak.proofs.Steps.{Step, substitutions}
use Rattle.wh_peak.proofs.RankedSteps.{AreRanked, carry_ranked, NotLone}
use Rattle.wh_graph.specs.Laws.{is_of}
use Rattle.wh_peak.proofs.Steps.Step.{cuts, maps}

-- ---- lengths on the way, strictly between the ends
abbrev pub Between : ℕ → List Substitution → List (List ℕ) → Type 0
Between L [] u = Unit {0}
Between L (m ∷ []) u = Unit {0}
Between L (m ∷ n ∷ ms) u = (len (act1 m u) < L) × Between L (n ∷ ms) (act1 m u)

pub Between-append : (L : ℕ) (p q : List Substitution) (u : List (List ℕ)) → Between L p u → len (acts p u) < L → Between L q (acts p u) → Between L (p ++ q) u
unfolding acts
Between-append L [] q u b l c = c
Between-append L (m ∷ []) [] u b l c = tt
Between-append L (m ∷ []) (n ∷ q) u b l c = (l, c)
Between-append L (m ∷ n ∷ p) q u b l c = (b.0, Between-append L (n ∷ p) q (act1 m u) b.1 l c)

-- ---- maps of letters keep the length
flat_map-length : (p : ℕ → ℕ) (w : List ℕ) → length (flat_map (λ x. p x ∷ []) w) ≡ length w
flat_map-length p [] = refl
flat_map-length p (x ∷ w) = omega (arith, flat_map-length p w)

maps_short : (p : ℕ → ℕ) (h : (y : ℕ) → p (inverse_letter y) ≡ inverse_letter (p y)) (u : List (List ℕ)) → len (act1 (letters p h) u) ≤ len u
unfolding len
maps_short p h [] = omega arith
maps_short p h (w ∷ u) = omega (arith, normal-length (flat_map (λ x. p x ∷ []) w), flat_map-length p w, maps_short p h u)

pub maps_length : (p q : ℕ → ℕ) (h : (y : ℕ) → p (inverse_letter y) ≡ inverse_letter (p y)) (k : (y : ℕ) → q (inverse_letter y) ≡ inverse_letter (q y))
    → ((y : ℕ) → q (p y) ≡ y) → ((y : ℕ) → p (q y) ≡ y) → (u : List (List ℕ)) → AreCyclic u → len (act1 (letters p h) u) ≡ len u
unfolding acts
maps_length p q h k e f u c =
    let t : act1 (letters q k) (act1 (letters p h) u) ≡ u = inverse_acts (letters p h ∷ []) (letters q k ∷ []) (letters-inverse p q h k e f) u c in
    omega (arith, maps_short p h u, maps_short q k (act1 (letters p h) u), ap len t)

pub carry_length : (a b : ℕ) (ab : is_of a b ≡ false) (u : List (List ℕ)) → AreCyclic u → len (act1 (carrying a b ab) u) ≡ len u
carry_length a b ab u c = maps_length (carry a b) (carry b a) (carry-turn a b ab) (carry-turn b a (is-back a b ab)) (carry-undone a b ab) (carry-undone b a (is-back a b ab)) u c

abbrev pub carry_step : (a b : ℕ) → is_of a b ≡ false → Step
carry_step a b ab = maps (carry a b) (carry b a) (carry-turn a b ab) (carry-turn b a (is-back a b ab)) (carry-undone a b ab) (carry-undone b a (is-back a b ab))

-- A list with the composite of going back over one cut and on by another leads from the tuple after the one to the tuple after the other.
pub lands : (α α' γ : Substitution) (m : List Substitution) → Inverse (α ∷ []) (α' ∷ []) → Agree (α' ∷ γ ∷ []) m → (u : List (List ℕ)) → AreCyclic u → acts m (act1 α u) ≡ act1 γ u
unfolding acts
lands α α' γ m i h u c =
    sym (agreeing_acts (α' ∷ γ ∷ []) m h (act1 α u) (act1-cyclic α u)) ∙ ap (act1 γ) (inverse_acts (α ∷ []) (α' ∷ []) i u c)

-- ---- between two cuts with disjoint sets
pub record DisjointWay (N : ℕ) (u : List (List ℕ)) (a : ℕ) (A : ℕ → Bool) (b : ℕ) (B : ℕ → Bool) : Type 0 where
  pub list : List Step
  pub few : length list ≤ 3
  pub ranked : AreRanked N list
  pub joint : NotLone list
  pub same : Agree (substitutions list) (undo a A ∷ cutting b B ∷ [])
  pub between : Between (len u) (substitutions list) (act1 (cutting a A) u)

module _ (N : ℕ) (u : List (List ℕ)) (h : AreCyclic u) (a b : ℕ) (la : a < 2 * N) (lb : b < 2 * N) (A B : ℕ → Bool) (c : IsCut a A) (d : IsCut b B) (n : Apart A B)
    (lessA : cap A u ≤ deg a u) (lessB : cap B u ≤ deg b u) (less : cap A u + cap B u < deg a u + deg b u) where
  abbrev pub Goal : List Substitution → Type 0
  Goal m = Agree m (undo a A ∷ cutting b B ∷ [])

  pub pair_short : B (inverse_letter a) ≡ false → is_of a b ≡ false → len (acts (cutting a A ∷ cutting b B ∷ []) u) < len u
  pair_short k ab = omega (arith, pair_law a b A B c d n (apart-right A B n a c.has) k ab u h)

  pub back_short : A (inverse_letter b) ≡ false → is_of a b ≡ false → len (acts (cutting b B ∷ cutting a A ∷ []) u) < len u
  back_short k ab = omega (arith, pair_law b a B A d c (Apart-turn A B n) (apart-left A B n b d.has) k (is-back a b ab) u h)

  unfoldable pub way_one : b ≡ inverse_letter a → DisjointWay N u a A b B
  way_one e = record {
    list = cuts (inverse_letter a) (union_without A B a) (one_cut a b A B c d n e) ∷ [];
    few = omega arith;
    joint = tt;
    ranked = (inverse_below N a la, tt);
    same = Agree-sym (undo a A ∷ cutting b B ∷ []) (cutting (inverse_letter a) (union_without A B a) ∷ []) (one a b A B c d n e);
    between = tt;
  }

  unfoldable pub way_two_joined : (b ≡ inverse_letter a → ⊥) → B (inverse_letter a) ≡ false → A (inverse_letter b) ≡ true → DisjointWay N u a A b B
  unfolding acts
  way_two_joined e k t = record {
    list = cuts b B d ∷ cuts (inverse_letter a) (turned a (union_without A B b)) (turned-cut a (union_without A B b)) ∷ [];
    few = omega arith;
    joint = tt;
    ranked = (lb, (inverse_below N a la, tt));
    same = Agree-sym (undo a A ∷ cutting b B ∷ []) (cutting b B ∷ undo a (union_without A B b) ∷ []) (two_joined a b A B c d n e k t);
    between = (pair_short k (not-at a b A B c d n e), tt);
  }

  unfoldable pub way_two_apart : (b ≡ inverse_letter a → ⊥) → B (inverse_letter a) ≡ false → A (inverse_letter b) ≡ false → DisjointWay N u a A b B
  unfolding acts
  way_two_apart e k t = record {
    list = cuts b B d ∷ cuts (inverse_letter a) (turned a A) (turned-cut a A) ∷ [];
    few = omega arith;
    joint = tt;
    ranked = (lb, (inverse_below N a la, tt));
    same = Agree-sym (undo a A ∷ cutting b B ∷ []) (cutting b B ∷ undo a A ∷ []) (two_apart a b A B c d n e k t);
    between = (pair_short k (not-at a b A B c d n e), tt);
  }

  unfoldable pub way_three : (b ≡ inverse_letter a → ⊥) → B (inverse_letter a) ≡ true → A (inverse_letter b) ≡ false → DisjointWay N u a A b B
  unfolding acts
  way_three e k t = record {
    list = cuts b (union_without B A a) (three_cut a b A B c d n e t) ∷ cuts (inverse_letter a) (turned a A) (turned-cut a A) ∷ [];
    few = omega arith;
    joint = tt;
    ranked = (lb, (inverse_below N a la, tt));
    same = Agree-sym (undo a A ∷ cutting b B ∷ []) (cutting b (union_without B A a) ∷ undo a A ∷ []) (three a b A B c d n e k t);
    between = (
      (let q : act1 (cutting a A) (act1 (cutting b B) u) ≡ act1 (cutting b (union_without B A a)) (act1 (cutting a A) u) =
          agreeing_acts (cutting b B ∷ cutting a A ∷ []) (cutting a A ∷ cutting b (union_without B A a) ∷ []) (three_conjugate a b A B c d n e k t) u h in
          omega (arith, ap len q, back_short t (not-at a b A B c d n e))),
      tt,
    );
  }

  -- Each set has the inverse of the other multiplier, and the first set has a capacity below the degree of b.
  unfoldable pub way_four_a : (e : b ≡ inverse_letter a → ⊥) (k : B (inverse_letter a) ≡ true) (t : A (inverse_letter b) ≡ true) → cap A u < deg b u → DisjointWay N u a A b B
  unfolding acts
  way_four_a e k t l =
      let first : Substitution = cutting (inverse_letter b) (turned a A) in
      let ab : is_of a (inverse_letter b) ≡ false = four-at a b A B c d n e k t in
      let v : List (List ℕ) = act1 (cutting a A) u in
      let q : act1 (carrying a (inverse_letter b) ab) (act1 first v) ≡ act1 (cutting (inverse_letter b) A) u =
      lands (cutting a A) (undo a A) (cutting (inverse_letter b) A) (first ∷ carrying a (inverse_letter b) ab ∷ []) (undo-inverse a A) (four_first a b A B c d n e k t) u h in
      let end : len (act1 (carrying a (inverse_letter b) ab) (act1 first v)) < len u =
      omega (arith, ap len q, length_law (inverse_letter b) A (four-γ a b A B c d n e k t) u h, deg-inverse b u) in
      record {
        list = cuts (inverse_letter b) (turned a A) (four_a_first a b A B c d n e k t) ∷ carry_step a (inverse_letter b) ab
            ∷ cuts b (union_without A B (inverse_letter b)) (four_a_last a b A B c d n e k t) ∷ [];
        few = omega arith;
        joint = tt;
        ranked = (inverse_below N b lb, (carry_ranked N a (inverse_letter b) la (inverse_below N b lb) ab, (lb, tt)));
        same = Agree-sym (undo a A ∷ cutting b B ∷ []) (first ∷ carrying a (inverse_letter b) ab ∷ cutting b (union_without A B (inverse_letter b)) ∷ []) (four_a a b A B c d n e k t);
        between = (omega (arith, end, carry_length a (inverse_letter b) ab (act1 first v) (act1-cyclic first v)), (end, tt));
      }

  -- Each set has the inverse of the other multiplier, and the second set has a capacity below the degree of a.
  unfoldable pub way_four_b : (e : b ≡ inverse_letter a → ⊥) (k : B (inverse_letter a) ≡ true) (t : A (inverse_letter b) ≡ true) → cap B u < deg a u → DisjointWay N u a A b B
  unfolding acts
  way_four_b e k t l =
      let first : Substitution = cutting (inverse_letter a) (union_without A B a) in
      let ba : is_of b (inverse_letter a) ≡ false = four-back a b A B c d n e k t in
      let ab : is_of (inverse_letter a) b ≡ false = is-back b (inverse_letter a) ba in
      let v : List (List ℕ) = act1 (cutting a A) u in
      let q : act1 first v ≡ act1 (cutting (inverse_letter a) B) u =
      lands (cutting a A) (undo a A) (cutting (inverse_letter a) B) (first ∷ []) (undo-inverse a A) (four_third a b A B c d n e k t) u h in
      let one : len (act1 first v) < len u =
      omega (arith, ap len q, length_law (inverse_letter a) B (four-γ' a b A B c d n e k t) u h, deg-inverse a u) in
      record {
        list = cuts (inverse_letter a) (union_without A B a) (four_b_first a b A B c d n e k t) ∷ carry_step (inverse_letter a) b ab
            ∷ cuts (inverse_letter (inverse_letter a)) (turned (inverse_letter a) (turned b B)) (turned-cut (inverse_letter a) (turned b B)) ∷ [];
        few = omega arith;
        joint = tt;
        ranked = (inverse_below N a la, (carry_ranked N (inverse_letter a) b (inverse_below N a la) lb ab, (inverse_below N (inverse_letter a) (inverse_below N a la), tt)));
        same = Agree-sym (undo a A ∷ cutting b B ∷ []) (first ∷ carrying (inverse_letter a) b ab ∷ undo (inverse_letter a) (turned b B) ∷ []) (four_b a b A B c d n e k t);
        between = (one, (omega (arith, one, carry_length (inverse_letter a) b ab (act1 first v) (act1-cyclic first v)), tt));
      }

  unfoldable pub disjoint_way : DisjointWay N u a A b B
  disjoint_way = elim (cases_eq b (inverse_letter a)) [
    | inl e ↦ way_one e
    | inr e ↦ elim (cases_Bool (B (inverse_letter a))) [
      | inr k ↦ elim (cases_Bool (A (inverse_letter b))) [ inl t ↦ way_two_joined e k t | inr t ↦ way_two_apart e k t ]
      | inl k ↦ elim (cases_Bool (A (inverse_letter b))) [
        | inr t ↦ way_three e k t
        | inl t ↦ elim (cases_lt (cap A u) (deg b u)) [
          | inl l ↦ way_four_a e k t l
          | inr g ↦ way_four_b e k t (omega arith)
        ]
      ]
    ]
  ]
