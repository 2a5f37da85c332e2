-- The lists of the nine families are relations.
use Rattle.std.proofs.Common.{◌≡◌, ◌≢◌, ℕ, ◌+◌, ◌-◌, ◌*◌, ◌^◌, ◌<◌, ◌≤◌, ◌==◌, Bool, true, false, not, List, [], ◌∷◌, sym, ap, ap₂, subst, inl, inr, ◌∙◌, arith, eq-eqb, ne_eqb, map}
use Rattle.std.proofs.lemmas.Bool.{cases_lt, cases_Bool, eqb-true, true≢false}
use Rattle.std.proofs.lemmas.List.Elements.{All-nil, All-cons, All-head, All-tail, All-append, All-map, All-filter, filter_passes}
use Rattle.std.specs.Prelude.{ltb, cond, ◌&&◌, ◌||◌, ◌++◌}
use Rattle.std.specs.List.{All, filter, range_with_len}
use Rattle.wh_words.specs.Letters.{inverse_letter}
use Rattle.wh_words.specs.LetterSets.{in_set}
use Rattle.wh_words.specs.Moves.{Kind, Move, IsKind, IsCut, IsIdentityCut, cut_move, turned_set, inverse_kind}
use Rattle.wh_words.specs.Moves.Kind.{swap, invert, cut}
use Rattle.wh_words.specs.Images.{swap_letter, invert_letter}
use Rattle.wh_words.proofs.FreeReduction.{inverse-inverse}
use Rattle.wh_words.proofs.LetterMaps.{inverse_below, swap_back, swap_below, invert_back, invert_below}
use Rattle.wh_words.proofs.Mapped.{swap_turns, invert_turns}
use Rattle.wh_moves.proofs.InverseMoves.{inverse_is_kind}
use Rattle.wh_graph.specs.SetMasks.{mask}
use Rattle.wh_graph.specs.Laws.{is_of}
use Rattle.wh_graph.proofs.SetNumbers.{mask_has, mask_cut, holds, omits, holds_back}
use Rattle.wh_peak.specs.Equivalence.{IsMoveOfRank, AreMovesOfRank}
use Rattle.wh_peak.specs.Relations.{IsTrivial, swap_move, invert_move, cut_back}
use Rattle.wh_peak.proofs.DisjointCuts.{is-neither}
use Rattle.wh_peak.proofs.MovesOfRank.{move_of_rank, none_of_rank, more_of_rank, both_of_rank}
use Rattle.wh_peak.proofs.CutRelations.{cuts_cancel, cuts_unite, cuts_commute, cuts_conjugate, cuts_exchange, cuts_complement, inner_is_kept, inner_is_moved, swaps_take_cuts, inversions_take_cuts, turned_cut}
use Rattle.wh_peak.proofs.SwapRelations.{swaps_cancel, inversions_cancel, neighbouring_swaps, distant_swaps, inversions_commute, swaps_take_inversions, swaps_pass_inversions}
use Rattle.wh_relators.specs.Cuts.{Cut, letters, generators, swapped, cuts, does, undoes, union, union_less, all_but, mapped, mapped_cut, inner}
use Rattle.wh_relators.specs.Families.{cancel, unite, can_unite, meet_in, are_apart, commute, can_commute, conjugate, can_conjugate, carry_word, change_mult, is_other_mult, swap_cut, invert_cut, always, swap_twice, invert_twice, braid, swap_both, invert_both, swap_inversion, pass_inversion, of_permutations, complement_cut, conjugate_inner, can_conjugate_inner}
use Rattle.wh_relators.specs.Instances.{is_identity, is_proper, families, relations}
use Rattle.wh_relators.specs.Laws.{IsRelation, FamiliesAreRelations}
use Rattle.wh_relators.proofs.Carrying.{carry-of_rank, carry-maps}
use Rattle.wh_relators.proofs.Lists.{and_first, and_second, All-both, All-range, All-for_each}
use Rattle.wh_relators.proofs.Sets.{past_rank, mask-same, mask-empty, Cuts, cuts-are, letters-are, inner-cut, from_not, omits_back}

pub holds-of : {n : ℕ} {a set : ℕ} → IsCut n a set → in_set set a ≡ true
holds-of {n} {a} {set} v = holds set a v.holds

pub omits-of : {n : ℕ} {a set : ℕ} → IsCut n a set → in_set set (inverse_letter a) ≡ false
omits-of {n} {a} {set} v = omits set (inverse_letter a) v.omits

-- ---- what the tests say
pub apart-all : (n A B : ℕ) → A < 2 ^ (2 * n) → are_apart n A B ≡ true → (x : ℕ) → (in_set A x && in_set B x) ≡ false
apart-all n A B below h x = elim (cases_lt x (2 * n)) [
  | inl l ↦ mask-empty n (λ y. in_set A y && in_set B y) (eqb-true (mask (2 * n) (λ y. in_set A y && in_set B y)) 0 h) x l
  | inr g ↦ ap (λ t. t && in_set B x) (past_rank n A x below g)
]

pub meet-all : (n a A B : ℕ) → a < 2 * n → A < 2 ^ (2 * n) → meet_in n a A B ≡ true → (x : ℕ) → (in_set A x && in_set B x) ≡ (x == a)
meet-all n a A B la below h x = elim (cases_lt x (2 * n)) [
  | inl l ↦ mask-same n (λ y. in_set A y && in_set B y) (λ y. y == a) (eqb-true (mask (2 * n) (λ y. in_set A y && in_set B y)) (mask (2 * n) (λ y. y == a)) h) x l
  | inr g ↦ ap (λ t. t && in_set B x) (past_rank n A x below g) ∙ sym (ne_eqb x a (λ e. omega (arith, e, g, la)))
]

-- ---- cuts of other sets
pub union-cut : (n a A B : ℕ) → IsCut n a A → IsCut n a B → IsCut n a (union n A B)
union-cut n a A B u v = mask_cut n a (λ x. in_set A x || in_set B x) u.of_rank (ap (λ t. t || in_set B a) (holds-of u)) (ap₂ (λ s t. s || t) (omits-of u) (omits-of v))

pub other_letter : (A a b : ℕ) → in_set A a ≡ true → in_set A b ≡ false → a ≢ b
other_letter A a b h k e = true≢false (sym h ∙ (ap (in_set A) e ∙ k))

pub apart-left : (A B b : ℕ) → ((x : ℕ) → (in_set A x && in_set B x) ≡ false) → in_set B b ≡ true → in_set A b ≡ false
apart-left A B b apart h = elim (cases_Bool (in_set A b)) [
  | inl e ↦ absurd (true≢false (sym (ap₂ (λ s t. s && t) e h) ∙ apart b))
  | inr e ↦ e
]

pub union_less-cut : (n a b A B : ℕ) → IsCut n a A → IsCut n b B → ((x : ℕ) → (in_set A x && in_set B x) ≡ false) → in_set B (inverse_letter a) ≡ false → IsCut n a (union_less n A B b)
union_less-cut n a b A B u v apart k =
    mask_cut n a (λ x. (in_set A x || in_set B x) && not (x == b)) u.of_rank
    (ap₂ (λ s t. (s || in_set B a) && not t) (holds-of u) (ne_eqb a b (other_letter A a b (holds-of u) (apart-left A B b apart (holds-of v)))))
    (ap₂ (λ s t. (s || t) && not (inverse_letter a == b)) (omits-of u) k)

pub others-cut : (n a A : ℕ) → IsCut n a A → IsCut n (inverse_letter a) (mask (2 * n) (λ x. not (in_set A x)))
others-cut n a A u = mask_cut n (inverse_letter a) (λ x. not (in_set A x)) (inverse_below n a u.of_rank) (ap not (omits-of u)) (ap (λ y. not (in_set A y)) (inverse-inverse a) ∙ ap not (holds-of u))

pub other-cut : (n a b A : ℕ) → IsCut n a A → b < 2 * n → in_set A b ≡ true → in_set A (inverse_letter b) ≡ false → IsCut n b A
other-cut n a b A u l h k = record { of_rank = l; within = u.within; holds = holds_back A b h; omits = omits_back A (inverse_letter b) k }

-- A map of letters that is its own inverse and goes with inverses.
module _ (n : ℕ) (p : ℕ → ℕ) (turns : (x : ℕ) → p (inverse_letter x) ≡ inverse_letter (p x)) (twice : (x : ℕ) → p (p x) ≡ x) (below : (x : ℕ) → x < 2 * n → p x < 2 * n) where
  pub mapped-cut : (a A : ℕ) → IsCut n a A → IsCut n (p a) (mapped n p A)
  mapped-cut a A u = mask_cut n (p a) (λ x. in_set A (p x)) (below a u.of_rank) (ap (in_set A) (twice a) ∙ holds-of u)
      (ap (in_set A) (turns (p a) ∙ ap inverse_letter (twice a)) ∙ omits-of u)

-- ---- moves of the rank
module _ (n : ℕ) (few : n ≤ 26) where
  pub cut_ok : {a A : ℕ} → IsCut n a A → IsMoveOfRank n (cut_move n a A)
  cut_ok {a} {A} v = move_of_rank n (cut a A) few v

  pub back_ok : {a A : ℕ} → IsCut n a A → IsMoveOfRank n (cut_back n a A)
  back_ok {a} {A} v = move_of_rank n (inverse_kind (cut a A)) few (inverse_is_kind n (cut a A) v)

  pub swap_ok : {k : ℕ} → IsKind n (swap k) → IsMoveOfRank n (swap_move n k)
  swap_ok {k} v = move_of_rank n (swap k) few v

  pub invert_ok : {k : ℕ} → IsKind n (invert k) → IsMoveOfRank n (invert_move n k)
  invert_ok {k} v = move_of_rank n (invert k) few v

  pub one : {m : Move} → IsMoveOfRank n m → AreMovesOfRank n (m ∷ [])
  one {m} h = more_of_rank n m [] h (none_of_rank n)

  pub two : {m k : Move} → IsMoveOfRank n m → IsMoveOfRank n k → AreMovesOfRank n (m ∷ k ∷ [])
  two {m} {k} h i = more_of_rank n m (k ∷ []) h (one i)

  pub three : {m k l : Move} → IsMoveOfRank n m → IsMoveOfRank n k → IsMoveOfRank n l → AreMovesOfRank n (m ∷ k ∷ l ∷ [])
  three {m} {k} {l} h i j = more_of_rank n m (k ∷ l ∷ []) h (two i j)

  pub four : {m k l o : Move} → IsMoveOfRank n m → IsMoveOfRank n k → IsMoveOfRank n l → IsMoveOfRank n o → AreMovesOfRank n (m ∷ k ∷ l ∷ o ∷ [])
  four {m} {k} {l} {o} h i j p = more_of_rank n m (k ∷ l ∷ o ∷ []) h (three i j p)

  -- A list of moves of the rank, with a move, whose composite is the identity.
  pub record Good (ms : List Move) : Type 0 where
    pub trivial : IsTrivial n ms
    pub of_rank : AreMovesOfRank n ms
    pub some : ms ≢ []

  some_there : {m : Move} {ms : List Move} → m ∷ ms ≢ []
  some_there {m} {ms} e = grind (arith, e)

  good : {m : Move} {ms : List Move} → IsTrivial n (m ∷ ms) → AreMovesOfRank n (m ∷ ms) → Good (m ∷ ms)
  good {m} {ms} t r = record { trivial = t; of_rank = r; some = some_there {m = m} {ms = ms} }

  pub cancel-good : (x : Cut) → Cuts n x → Good (cancel n x)
  cancel-good x u = good (cuts_cancel n x.mult x.set u) (two (cut_ok u) (back_ok u))

  pub unite-good : (x y : Cut) → Cuts n x → Cuts n y → can_unite n x y ≡ true → Good (unite n x y)
  unite-good x y u v h =
      let e : y.mult ≡ x.mult = sym (eqb-true x.mult y.mult (and_first (x.mult == y.mult) (meet_in n x.mult x.set y.set) h)) in
      let w : IsCut n x.mult y.set = subst (λ (a : ℕ). IsCut n a y.set) e v in
      let c : IsCut n x.mult (union n x.set y.set) = union-cut n x.mult x.set y.set u w in
      good (subst (λ (a : ℕ). IsTrivial n (cut_move n x.mult x.set ∷ cut_move n a y.set ∷ cut_back n x.mult (union n x.set y.set) ∷ [])) (sym e)
      (cuts_unite n x.mult x.set y.set (union n x.set y.set) u w c (meet-all n x.mult x.set y.set u.of_rank u.within (and_second (x.mult == y.mult) (meet_in n x.mult x.set y.set) h))
      (λ z l. mask_has (2 * n) (λ q. in_set x.set q || in_set y.set q) z l)))
      (three (cut_ok u) (cut_ok v) (back_ok c))

  pub commute-good : (x y : Cut) → Cuts n x → Cuts n y → can_commute n x y ≡ true → Good (commute n x y)
  commute-good x y u v h =
      let p : (not (in_set y.set (inverse_letter x.mult)) && not (in_set x.set (inverse_letter y.mult))) ≡ true = and_second (are_apart n x.set y.set) (not (in_set y.set (inverse_letter x.mult)) && not (in_set x.set (inverse_letter y.mult))) h in
      good (cuts_commute n x.mult y.mult x.set y.set u v (apart-all n x.set y.set u.within (and_first (are_apart n x.set y.set) (not (in_set y.set (inverse_letter x.mult)) && not (in_set x.set (inverse_letter y.mult))) h))
      (from_not (in_set y.set (inverse_letter x.mult)) (and_first (not (in_set y.set (inverse_letter x.mult))) (not (in_set x.set (inverse_letter y.mult))) p))
      (from_not (in_set x.set (inverse_letter y.mult)) (and_second (not (in_set y.set (inverse_letter x.mult))) (not (in_set x.set (inverse_letter y.mult))) p)))
      (four (cut_ok u) (cut_ok v) (back_ok u) (back_ok v))

  -- What the test of the fourth family says.
  pub record Conjugates (x y : Cut) : Type 0 where
    pub apart : (z : ℕ) → (in_set x.set z && in_set y.set z) ≡ false
    pub lacks : in_set y.set (inverse_letter x.mult) ≡ false
    pub has : in_set x.set (inverse_letter y.mult) ≡ true
    pub other : inverse_letter y.mult ≢ x.mult

  pub conjugates : (x y : Cut) → Cuts n x → can_conjugate n x y ≡ true → Conjugates x y
  conjugates x y u h =
      let i : Bool = are_apart n x.set y.set in
      let j : Bool = not (in_set y.set (inverse_letter x.mult)) in
      let k : Bool = in_set x.set (inverse_letter y.mult) in
      let l : Bool = not (inverse_letter y.mult == x.mult) in
      let p : (j && (k && l)) ≡ true = and_second i (j && (k && l)) h in
      let q : (k && l) ≡ true = and_second j (k && l) p in
      record {
        apart = apart-all n x.set y.set u.within (and_first i (j && (k && l)) h);
        lacks = from_not (in_set y.set (inverse_letter x.mult)) (and_first j (k && l) p);
        has = and_first k l q;
        other = λ e. true≢false (sym (eq-eqb (inverse_letter y.mult) x.mult e) ∙ from_not (inverse_letter y.mult == x.mult) (and_second k l q));
      }

  pub conjugate-good : (x y : Cut) → Cuts n x → Cuts n y → can_conjugate n x y ≡ true → Good (conjugate n x y)
  conjugate-good x y u v h =
      let c : Conjugates x y = conjugates x y u h in
      let w : IsCut n x.mult (union_less n x.set y.set y.mult) = union_less-cut n x.mult y.mult x.set y.set u v c.apart c.lacks in
      good (cuts_conjugate n x.mult y.mult x.set y.set (union_less n x.set y.set y.mult) u v w c.apart c.lacks c.has
      (λ z l. mask_has (2 * n) (λ q. (in_set x.set q || in_set y.set q) && not (q == y.mult)) z l))
      (four (back_ok v) (cut_ok u) (cut_ok v) (back_ok w))

  -- What the test of the fifth family says.
  pub record Exchanges (x : Cut) (b : ℕ) : Type 0 where
    pub cut : IsCut n b x.set
    pub other : b ≢ x.mult
    pub off : is_of x.mult b ≡ false

  pub exchanges : (x : Cut) (b : ℕ) → Cuts n x → b < 2 * n → is_other_mult x b ≡ true → Exchanges x b
  exchanges x b u l h =
      let i : Bool = in_set x.set b in
      let j : Bool = not (in_set x.set (inverse_letter b)) in
      let k : Bool = not (b == x.mult) in
      let p : (j && k) ≡ true = and_second i (j && k) h in
      let ne : b ≢ x.mult = λ e. true≢false (sym (eq-eqb b x.mult e) ∙ from_not (b == x.mult) (and_second j k p)) in
      record {
        cut = other-cut n x.mult b x.set u l (and_first i (j && k) h) (from_not (in_set x.set (inverse_letter b)) (and_first j k p));
        other = ne;
        off = is-neither x.mult b ne (other_letter x.set b (inverse_letter x.mult) (and_first i (j && k) h) (omits-of u));
      }

  pub change-good : (x : Cut) (b : ℕ) → Cuts n x → b < 2 * n → is_other_mult x b ≡ true → Good (change_mult n x b)
  change-good x b u l h =
      let e : Exchanges x b = exchanges x b u l h in
      good (cuts_exchange n x.mult b x.set (carry_word n x.mult b) few u e.cut e.other (carry-of_rank n x.mult b few u.of_rank l e.off) (carry-maps n x.mult b u.of_rank l e.off))
      (more_of_rank n (cut_move n x.mult x.set) (cut_move n b (turned_set x.mult x.set) ∷ (carry_word n x.mult b ++ cut_back n b x.set ∷ [])) (cut_ok u)
      (more_of_rank n (cut_move n b (turned_set x.mult x.set)) (carry_word n x.mult b ++ cut_back n b x.set ∷ []) (cut_ok (turned_cut n x.mult b x.set u e.cut e.other))
      (both_of_rank n (carry_word n x.mult b) (cut_back n b x.set ∷ []) (carry-of_rank n x.mult b few u.of_rank l e.off) (one (back_ok e.cut)))))

  pub swapped_cut : (k : ℕ) → IsKind n (swap k) → (x : Cut) → Cuts n x → Cuts n (mapped_cut n (swap_letter k) x)
  swapped_cut k s x u = mapped-cut n (swap_letter k) (swap_turns k s.0) (swap_back k s.0) (λ y l. swap_below n k y s.1 l) x.mult x.set u

  pub inverted_cut : (k : ℕ) → IsKind n (invert k) → (x : Cut) → Cuts n x → Cuts n (mapped_cut n (invert_letter k) x)
  inverted_cut k s x u = mapped-cut n (invert_letter k) (invert_turns k) (invert_back k) (invert_below n k) x.mult x.set u

  pub swap_cut-good : (k : ℕ) (x : Cut) → IsKind n (swap k) → Cuts n x → Good (swap_cut n k x)
  swap_cut-good k x s u =
      good (swaps_take_cuts n k x.mult x.set (mapped n (swap_letter k) x.set) s u (swapped_cut k s x u) (λ z l. mask_has (2 * n) (λ q. in_set x.set (swap_letter k q)) z l))
      (four (swap_ok s) (cut_ok u) (swap_ok s) (back_ok (swapped_cut k s x u)))

  pub invert_cut-good : (k : ℕ) (x : Cut) → IsKind n (invert k) → Cuts n x → Good (invert_cut n k x)
  invert_cut-good k x s u =
      good (inversions_take_cuts n k x.mult x.set (mapped n (invert_letter k) x.set) s u (inverted_cut k s x u) (λ z l. mask_has (2 * n) (λ q. in_set x.set (invert_letter k q)) z l))
      (four (invert_ok s) (cut_ok u) (invert_ok s) (back_ok (inverted_cut k s x u)))

  pub complement-good : (x : Cut) → Cuts n x → Good (complement_cut n x)
  complement-good x u =
      good (cuts_complement n x.mult x.set (mask (2 * n) (λ y. not (in_set x.set y))) (all_but n (inverse_letter x.mult)) u (others-cut n x.mult x.set u) (inner-cut n x.mult u.of_rank)
      (λ z l. mask_has (2 * n) (λ q. not (in_set x.set q)) z l) (λ z l. mask_has (2 * n) (λ q. not (q == inverse_letter x.mult)) z l))
      (three (cut_ok (inner-cut n x.mult u.of_rank)) (cut_ok (others-cut n x.mult x.set u)) (back_ok u))

  pub inner-good : (x : Cut) (b : ℕ) → Cuts n x → b < 2 * n → can_conjugate_inner x b ≡ true → Good (conjugate_inner n x b)
  inner-good x b u l h =
      let j : Bool = not (in_set x.set (inverse_letter b)) in
      let k : Bool = not (b == x.mult) in
      let lacks : in_set x.set (inverse_letter b) ≡ false = from_not (in_set x.set (inverse_letter b)) (and_first j k h) in
      let ne : b ≢ x.mult = λ e. true≢false (sym (eq-eqb b x.mult e) ∙ from_not (b == x.mult) (and_second j k h)) in
      let v : IsCut n b (all_but n (inverse_letter b)) = inner-cut n b l in
      let w : IsCut n x.mult (all_but n (inverse_letter x.mult)) = inner-cut n x.mult u.of_rank in
      elim (cases_Bool (in_set x.set b)) [
        | inl e ↦ subst (λ (t : Bool). Good (undoes n x ∷ does n (inner n b) ∷ does n x ∷ cond t (undoes n (inner n x.mult) ∷ undoes n (inner n b) ∷ []) (undoes n (inner n b) ∷ []))) (sym e)
            (good (inner_is_moved n x.mult b x.set (all_but n (inverse_letter x.mult)) (all_but n (inverse_letter b)) u w v
            (λ z r. mask_has (2 * n) (λ q. not (q == inverse_letter x.mult)) z r) (λ z r. mask_has (2 * n) (λ q. not (q == inverse_letter b)) z r) ne e lacks)
            (more_of_rank n (undoes n x) (does n (inner n b) ∷ does n x ∷ undoes n (inner n x.mult) ∷ undoes n (inner n b) ∷ []) (back_ok u) (four (cut_ok v) (cut_ok u) (back_ok w) (back_ok v))))
        | inr e ↦ subst (λ (t : Bool). Good (undoes n x ∷ does n (inner n b) ∷ does n x ∷ cond t (undoes n (inner n x.mult) ∷ undoes n (inner n b) ∷ []) (undoes n (inner n b) ∷ []))) (sym e)
            (good (inner_is_kept n x.mult b x.set (all_but n (inverse_letter b)) u v (λ z r. mask_has (2 * n) (λ q. not (q == inverse_letter b)) z r) e lacks)
            (four (back_ok u) (cut_ok v) (cut_ok u) (back_ok v)))
      ]

  -- ---- swaps and inversions
  pub swapped-are : All (λ k. IsKind n (swap k)) (swapped n)
  swapped-are = All-range (λ k. IsKind n (swap k)) 1 (n - 1) (λ k h l. (omega (arith, h), omega (arith, l, h)))

  pub generators-are : All (λ k. IsKind n (invert k)) (generators n)
  generators-are = All-range (λ k. IsKind n (invert k)) 1 n (λ k h l. (omega (arith, h), omega (arith, l)))

  -- Generators that are swapped with the next, the next of which is too.
  abbrev pub Braided : ℕ → Type 0
  Braided k = IsKind n (swap k) × IsKind n (swap (k + 1))

  pub braided-are : All Braided (range_with_len 1 (n - 2))
  braided-are = All-range Braided 1 (n - 2) (λ k h l. ((omega (arith, h), omega (arith, l, h)), (omega arith, omega (arith, l, h))))

  pub swap_twice-good : (k : ℕ) → IsKind n (swap k) → Good (swap_twice n k)
  swap_twice-good k s = good (swaps_cancel n k s) (two (swap_ok s) (swap_ok s))

  pub invert_twice-good : (k : ℕ) → IsKind n (invert k) → Good (invert_twice n k)
  invert_twice-good k s = good (inversions_cancel n k s) (two (invert_ok s) (invert_ok s))

  pub braid-good : (k : ℕ) → Braided k → Good (braid n k)
  braid-good k s =
      good (neighbouring_swaps n k s.0 s.1)
      (more_of_rank n (swap_move n k) (swap_move n (k + 1) ∷ swap_move n k ∷ swap_move n (k + 1) ∷ swap_move n k ∷ swap_move n (k + 1) ∷ []) (swap_ok s.0)
      (more_of_rank n (swap_move n (k + 1)) (swap_move n k ∷ swap_move n (k + 1) ∷ swap_move n k ∷ swap_move n (k + 1) ∷ []) (swap_ok s.1)
      (four (swap_ok s.0) (swap_ok s.1) (swap_ok s.0) (swap_ok s.1))))

  less : (j k : ℕ) → ltb j k ≡ true → j < k
  less j k h = search arith

  pub swap_both-good : (j k : ℕ) → IsKind n (swap j) → IsKind n (swap k) → ltb (j + 1) k ≡ true → Good (swap_both n j k)
  swap_both-good j k s r h = good (distant_swaps n j k s r (less (j + 1) k h)) (four (swap_ok s) (swap_ok r) (swap_ok s) (swap_ok r))

  pub invert_both-good : (j k : ℕ) → IsKind n (invert j) → IsKind n (invert k) → ltb j k ≡ true → Good (invert_both n j k)
  invert_both-good j k s r h = good (inversions_commute n j k s r) (four (invert_ok s) (invert_ok r) (invert_ok s) (invert_ok r))

  pub next_inversion : (k : ℕ) → IsKind n (swap k) → IsKind n (invert (k + 1))
  next_inversion k s = (omega arith, omega (arith, s.1))

  pub own_inversion : (k : ℕ) → IsKind n (swap k) → IsKind n (invert k)
  own_inversion k s = (s.0, omega (arith, s.1))

  pub swap_inversion-good : (k : ℕ) → IsKind n (swap k) → Good (swap_inversion n k)
  swap_inversion-good k s = good (swaps_take_inversions n k s) (four (swap_ok s) (invert_ok (own_inversion k s)) (swap_ok s) (invert_ok (next_inversion k s)))

  unlike : (j k : ℕ) → not (j == k) ≡ true → j ≢ k
  unlike j k h e = true≢false (sym (eq-eqb j k e) ∙ from_not (j == k) h)

  pub pass_inversion-good : (k j : ℕ) → IsKind n (swap k) → IsKind n (invert j) → (not (j == k) && not (j == k + 1)) ≡ true → Good (pass_inversion n k j)
  pass_inversion-good k j s r h =
      good (swaps_pass_inversions n j k s r (unlike j k (and_first (not (j == k)) (not (j == k + 1)) h)) (unlike j (k + 1) (and_second (not (j == k)) (not (j == k + 1)) h)))
      (four (swap_ok s) (invert_ok r) (swap_ok s) (invert_ok r))

  -- ---- the families
  each : {X : Type 0} (V : X → Type 0) (xs : List X) (word : X → List Move) → All V xs → ((x : X) → V x → Good (word x)) → All Good (map word xs)
  each {X = X} V xs word h f = All-map Good word xs (weaker xs h)
    where
      weaker : (ys : List X) → All V ys → All (λ x. Good (word x)) ys
      weaker [] k = All-nil (λ x. Good (word x))
      weaker (y ∷ ys) k = All-cons (λ x. Good (word x)) y ys (f y (All-head V y ys k)) (weaker ys (All-tail V y ys k))

  joined : (p q : List (List Move)) → All Good p → All Good q → All Good (p ++ q)
  joined p q h k = All-append Good p q h k

  of_permutations-good : All Good (of_permutations n)
  of_permutations-good =
      joined _ _ (each (λ k. IsKind n (swap k)) (swapped n) (swap_twice n) swapped-are swap_twice-good)
      (joined _ _ (each (λ k. IsKind n (invert k)) (generators n) (invert_twice n) generators-are invert_twice-good)
      (joined _ _ (each Braided (range_with_len 1 (n - 2)) (braid n) braided-are braid-good)
      (joined _ _ (All-for_each Good (λ k. IsKind n (swap k)) (λ k. IsKind n (swap k)) (swapped n) (swapped n) (λ j k. ltb (j + 1) k) (swap_both n) swapped-are swapped-are swap_both-good)
      (joined _ _ (All-for_each Good (λ k. IsKind n (invert k)) (λ k. IsKind n (invert k)) (generators n) (generators n) ltb (invert_both n) generators-are generators-are invert_both-good)
      (joined _ _ (each (λ k. IsKind n (swap k)) (swapped n) (swap_inversion n) swapped-are swap_inversion-good)
      (All-for_each Good (λ k. IsKind n (swap k)) (λ k. IsKind n (invert k)) (swapped n) (generators n) (λ k j. not (j == k) && not (j == k + 1)) (pass_inversion n) swapped-are generators-are pass_inversion-good))))))

  families-good : All Good (families n)
  families-good =
      joined _ _ (each (Cuts n) (cuts n) (cancel n) (cuts-are n) cancel-good)
      (joined _ _ (All-for_each Good (Cuts n) (Cuts n) (cuts n) (cuts n) (can_unite n) (unite n) (cuts-are n) (cuts-are n) unite-good)
      (joined _ _ (All-for_each Good (Cuts n) (Cuts n) (cuts n) (cuts n) (can_commute n) (commute n) (cuts-are n) (cuts-are n) commute-good)
      (joined _ _ (All-for_each Good (Cuts n) (Cuts n) (cuts n) (cuts n) (can_conjugate n) (conjugate n) (cuts-are n) (cuts-are n) conjugate-good)
      (joined _ _ (All-for_each Good (Cuts n) (λ b. b < 2 * n) (cuts n) (letters n) is_other_mult (change_mult n) (cuts-are n) (letters-are n) change-good)
      (joined _ _ (joined _ _
      (All-for_each Good (λ k. IsKind n (swap k)) (Cuts n) (swapped n) (cuts n) always (swap_cut n) swapped-are (cuts-are n) (λ k x s u e. swap_cut-good k x s u))
      (All-for_each Good (λ k. IsKind n (invert k)) (Cuts n) (generators n) (cuts n) always (invert_cut n) generators-are (cuts-are n) (λ k x s u e. invert_cut-good k x s u)))
      (joined _ _ of_permutations-good
      (joined _ _ (each (Cuts n) (cuts n) (complement_cut n) (cuts-are n) complement-good)
      (All-for_each Good (Cuts n) (λ b. b < 2 * n) (cuts n) (letters n) can_conjugate_inner (conjugate_inner n) (cuts-are n) (letters-are n) inner-good))))))))

  -- ---- no identity cuts
  moves-by : (k : Kind) → is_identity k ≡ false → ¬ (IsIdentityCut k)
  moves-by (swap j) h e = e
  moves-by (invert j) h e = e
  moves-by (cut a set) h e = true≢false (sym (eq-eqb set (2 ^ a) e) ∙ h)

  proper-moves : (ms : List Move) → is_proper ms ≡ true → All (λ m. ¬ (IsIdentityCut m.kind)) ms
  unfolding is_proper
  proper-moves [] h = All-nil (λ m. ¬ (IsIdentityCut m.kind))
  proper-moves (m ∷ ms) h = All-cons (λ m. ¬ (IsIdentityCut m.kind)) m ms
      (moves-by m.kind (from_not (is_identity m.kind) (and_first (not (is_identity m.kind)) (is_proper ms) h)))
      (proper-moves ms (and_second (not (is_identity m.kind)) (is_proper ms) h))

  pub relations-are : All (IsRelation n) (relations n)
  unfolding relations
  relations-are = All-both Good (λ ms. is_proper ms ≡ true) (IsRelation n)
      (λ ms g p. record { trivial = g.trivial; of_rank = g.of_rank; moves = proper-moves ms p; some = g.some })
      (filter is_proper (families n)) (All-filter is_proper Good (families n) families-good) (filter_passes is_proper (families n))

pub families_are_relations : FamiliesAreRelations
families_are_relations n few = relations-are n few
