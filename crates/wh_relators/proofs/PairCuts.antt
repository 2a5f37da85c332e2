-- The pairs of the families: that their lists are ones of moves of the rank, and that the tables tell which are chosen.
use Rattle.std.proofs.Common.{◌≡◌, ℕ, ◌+◌, ◌-◌, ◌*◌, ◌^◌, ◌<◌, ◌≤◌, ◌==◌, Bool, true, false, List, [], ◌∷◌, length, get_or, nat_eq, refl, sym, ap, ap₂, ◌∙◌, arith, map, subst}
use Rattle.std.proofs.lemmas.Bool.{eqb-true}
use Rattle.std.proofs.lemmas.Nat.{pow_pos}
use Rattle.std.proofs.lemmas.List.{append_assoc, append-nil}
use Rattle.std.proofs.lemmas.List.Elements.{All-map, All-head, All-tail}
use Rattle.std.specs.Prelude.{◌&&◌, ◌++◌}
use Rattle.std.specs.List.{All, range_with_len, flat_map}
use Rattle.wh_words.specs.Tuples.{TupleData}
use Rattle.wh_words.specs.Moves.{Move, IsCut, IsKind}
use Rattle.wh_words.specs.Moves.Kind.{swap, invert}
use Rattle.wh_words.specs.Images.{swap_letter, invert_letter}
use Rattle.wh_relators.specs.declared.capacities.Capacities.{Capacities}
use Rattle.wh_relators.specs.declared.family.Family.{Family}
use Rattle.wh_relators.specs.declared.family.Family.TheVariants.{Cancel, Unite, Commute, Conjugate, Exchange, SwapCut, InvertCut, SwapTwice, InvertTwice, Braid, SwapBoth, InvertBoth, SwapInversion, PassInversion, Complement, Inner}
use Rattle.wh_relators.specs.Cuts.{Cut, letters, generators, swapped, cuts, union, union_less, mapped_cut}
use Rattle.wh_relators.specs.Families.{for_each, meet_in, can_unite, can_conjugate, is_other_mult}
use Rattle.wh_relators.specs.Instances.{instances_at}
use Rattle.wh_relators.specs.Kept.{kept, back}
use Rattle.wh_relators.specs.Choices.{letter_item, generator_item, number, single, firsts, seconds, fits, ends_kept, word_of, chosen, chosen_lists, listed, listed_permutations, all_listed}
use Rattle.wh_relators.specs.Measures.{AreCapacities, told}
use Rattle.wh_relators.specs.Pairs.{IsItem, AreExchanged, IsReady, IsPair, AreRoomy}
use Rattle.wh_peak.proofs.CarryWords.{half_off}
use Rattle.wh_peak.proofs.CutRelations.{turned_cut}
use Rattle.wh_relators.proofs.Lists.{and_first, All-every}
use Rattle.wh_relators.proofs.Sets.{Cuts, cuts-are, letters-are, inner-cut}
use Rattle.wh_relators.proofs.ChosenLists.{filter-same}
use Rattle.wh_relators.proofs.FamilyRelations.{union-cut, Conjugates, conjugates, union_less-cut, Exchanges, exchanges, swapped_cut, inverted_cut, others-cut, swapped-are, generators-are, Braided, braided-are, back_ok}
use Rattle.wh_relators.proofs.Measured.{kept_by}
use Rattle.wh_relators.proofs.Listed.{instances_are_listed}

pairs_of : (P : Cut → Cut → Type 0) (V W : Cut → Type 0) (xs ys : List Cut) → All V xs → All W ys → ((x y : Cut) → V x → W y → P x y) → All (λ x. All (P x) ys) xs
pairs_of P V W xs ys hx hy h = λ i d l j e k. h (get_or xs i d) (get_or ys j e) (hx i d l) (hy j e k)

number_back : (k : ℕ) → 0 < k → number (generator_item k) ≡ k
number_back k h = omega (arith, h)

module _ (n : ℕ) (few : n ≤ 26) where
  item : (x : Cut) → Cuts n x → IsItem n x
  item x u = record { of_rank = u.of_rank; within = u.within }

  generator : (k : ℕ) → 0 < k → k ≤ n → IsItem n (generator_item k)
  generator k h l = record { of_rank = omega (arith, h, l); within = pow_pos (2 * n) }

  record Swaps (x : Cut) : Type 0 where
    pub item : IsItem n x
    pub kind : IsKind n (swap (number x))

  record Inverts (x : Cut) : Type 0 where
    pub item : IsItem n x
    pub kind : IsKind n (invert (number x))

  record Braids (x : Cut) : Type 0 where
    pub item : IsItem n x
    pub kind : IsKind n (swap (number x))
    pub next : IsKind n (swap (number x + 1))

  swaps : (k : ℕ) → IsKind n (swap k) → Swaps (generator_item k)
  swaps k s = record { item = generator k s.0 (omega (arith, s.1)); kind = subst (λ (j : ℕ). IsKind n (swap j)) (sym (number_back k s.0)) s }

  inverts : (k : ℕ) → IsKind n (invert k) → Inverts (generator_item k)
  inverts k s = record { item = generator k s.0 s.1; kind = subst (λ (j : ℕ). IsKind n (invert j)) (sym (number_back k s.0)) s }

  braids : (k : ℕ) → Braided n few k → Braids (generator_item k)
  braids k s = record {
    item = generator k s.0.0 (omega (arith, s.0.1));
    kind = subst (λ (j : ℕ). IsKind n (swap j)) (sym (number_back k s.0.0)) s.0;
    next = subst (λ (j : ℕ). IsKind n (swap (j + 1))) (sym (number_back k s.0.0)) s.1;
  }

  mapped_all : (V : ℕ → Type 0) (P : Cut → Type 0) (f : ℕ → Cut) → ((k : ℕ) → V k → P (f k)) → (ks : List ℕ) → All V ks → All P (map f ks)
  mapped_all V P f h ks v = All-map P f ks (λ i d l. h (get_or ks i d) (v i d l))

  swaps_are : All Swaps (map generator_item (swapped n))
  swaps_are = mapped_all (λ k. IsKind n (swap k)) Swaps generator_item swaps (swapped n) (swapped-are n few)

  inverts_are : All Inverts (map generator_item (generators n))
  inverts_are = mapped_all (λ k. IsKind n (invert k)) Inverts generator_item inverts (generators n) (generators-are n few)

  braids_are : All Braids (map generator_item (range_with_len 1 (n - 2)))
  braids_are = mapped_all (Braided n few) Braids generator_item braids (range_with_len 1 (n - 2)) (braided-are n few)

  Letter : Cut → Type 0
  Letter y = y.mult < 2 * n

  letters_are : All (λ (y : Cut). y.mult < 2 * n) (map letter_item (letters n))
  letters_are = mapped_all (λ k. k < 2 * n) (λ (y : Cut). y.mult < 2 * n) letter_item (λ k l. l) (letters n) (letters-are n)

  any_single : All (λ (y : Cut). Unit {0}) single
  any_single = All-every (λ (y : Cut). Unit {0}) (λ y. tt) single

  united : (x y : Cut) → Cuts n x → Cuts n y → can_unite n x y ≡ true → IsCut n x.mult (union n x.set y.set)
  united x y u v h =
      let e : x.mult ≡ y.mult = eqb-true x.mult y.mult (and_first (x.mult == y.mult) (meet_in n x.mult x.set y.set) h) in
      union-cut n x.mult x.set y.set u (subst (λ (a : ℕ). IsCut n a y.set) (sym e) v)

  conjugated : (x y : Cut) → Cuts n x → Cuts n y → can_conjugate n x y ≡ true → IsCut n x.mult (union_less n x.set y.set y.mult)
  conjugated x y u v h =
      let c : Conjugates n few x y = conjugates n few x y u h in
      union_less-cut n x.mult y.mult x.set y.set u v c.apart c.lacks

  -- All pairs of a family are such that their lists can be made.
  pub pairs_are : (f : Family) → All (λ x. All (IsPair n f x) (seconds n f)) (firsts n f)
  pairs_are Cancel = pairs_of (IsPair n Cancel) (Cuts n) (λ y. Unit {0}) (cuts n) single (cuts-are n) any_single (λ x y u v. record { first = item x u; ready = λ h. u })
  pairs_are Unite = pairs_of (IsPair n Unite) (Cuts n) (Cuts n) (cuts n) (cuts n) (cuts-are n) (cuts-are n) (λ x y u v. record { first = item x u; ready = λ h. (u, (v, united x y u v h)) })
  pairs_are Commute = pairs_of (IsPair n Commute) (Cuts n) (Cuts n) (cuts n) (cuts n) (cuts-are n) (cuts-are n) (λ x y u v. record { first = item x u; ready = λ h. (u, v) })
  pairs_are Conjugate = pairs_of (IsPair n Conjugate) (Cuts n) (Cuts n) (cuts n) (cuts n) (cuts-are n) (cuts-are n) (λ x y u v. record { first = item x u; ready = λ h. (u, (v, conjugated x y u v h)) })
  pairs_are Exchange = pairs_of (IsPair n Exchange) (Cuts n) (λ y. y.mult < 2 * n) (cuts n) (map letter_item (letters n)) (cuts-are n) letters_are (λ x y u l. record { first = item x u; ready = λ h. exchanged x y.mult u l h })
    where
      exchanged : (x : Cut) (b : ℕ) → Cuts n x → b < 2 * n → is_other_mult x b ≡ true → AreExchanged n x b
      exchanged x b u l h = let e : Exchanges n few x b = exchanges n few x b u l h in record { cut = u; other = e.cut; turned = turned_cut n x.mult b x.set u e.cut e.other; generators = λ g. half_off x.mult b e.off (sym g) }
  pairs_are SwapCut = pairs_of (IsPair n SwapCut) Swaps (Cuts n) (map generator_item (swapped n)) (cuts n) swaps_are (cuts-are n) (λ x y s v. record { first = s.item; ready = λ h. (s.kind, (v, swapped_cut n few (number x) s.kind y v)) })
  pairs_are InvertCut = pairs_of (IsPair n InvertCut) Inverts (Cuts n) (map generator_item (generators n)) (cuts n) inverts_are (cuts-are n) (λ x y s v. record { first = s.item; ready = λ h. (s.kind, (v, inverted_cut n few (number x) s.kind y v)) })
  pairs_are SwapTwice = pairs_of (IsPair n SwapTwice) Swaps (λ y. Unit {0}) (map generator_item (swapped n)) single swaps_are any_single (λ x y s v. record { first = s.item; ready = λ h. s.kind })
  pairs_are InvertTwice = pairs_of (IsPair n InvertTwice) Inverts (λ y. Unit {0}) (map generator_item (generators n)) single inverts_are any_single (λ x y s v. record { first = s.item; ready = λ h. s.kind })
  pairs_are Braid = pairs_of (IsPair n Braid) Braids (λ y. Unit {0}) (map generator_item (range_with_len 1 (n - 2))) single braids_are any_single (λ x y s v. record { first = s.item; ready = λ h. (s.kind, s.next) })
  pairs_are SwapBoth = pairs_of (IsPair n SwapBoth) Swaps Swaps (map generator_item (swapped n)) (map generator_item (swapped n)) swaps_are swaps_are (λ x y s r. record { first = s.item; ready = λ h. (s.kind, r.kind) })
  pairs_are InvertBoth = pairs_of (IsPair n InvertBoth) Inverts Inverts (map generator_item (generators n)) (map generator_item (generators n)) inverts_are inverts_are (λ x y s r. record { first = s.item; ready = λ h. (s.kind, r.kind) })
  pairs_are SwapInversion = pairs_of (IsPair n SwapInversion) Swaps (λ y. Unit {0}) (map generator_item (swapped n)) single swaps_are any_single (λ x y s v. record { first = s.item; ready = λ h. s.kind })
  pairs_are PassInversion = pairs_of (IsPair n PassInversion) Swaps Inverts (map generator_item (swapped n)) (map generator_item (generators n)) swaps_are inverts_are (λ x y s r. record { first = s.item; ready = λ h. (s.kind, r.kind) })
  pairs_are Complement = pairs_of (IsPair n Complement) (Cuts n) (λ y. Unit {0}) (cuts n) single (cuts-are n) any_single (λ x y u v. record { first = item x u; ready = λ h. (u, (inner-cut n x.mult u.of_rank, others-cut n x.mult x.set u)) })
  pairs_are Inner = pairs_of (IsPair n Inner) (Cuts n) (λ y. y.mult < 2 * n) (cuts n) (map letter_item (letters n)) (cuts-are n) letters_are (λ x y u l. record { first = item x u; ready = λ h. (u, (inner-cut n x.mult u.of_rank, inner-cut n y.mult l)) })

  module _ (k l : Cut → Bool) (same : (x : Cut) → Cuts n x → k x ≡ l x) where
    backs : (x : Cut) → Cuts n x → k (back x) ≡ l (back x)
    backs x u = same (back x) (back_ok n few u).valid.kind

    ends_same : (f : Family) (x y : Cut) → IsReady n f x y → ends_kept n k f x y ≡ ends_kept n l f x y
    ends_same Cancel x y r = same x r
    ends_same Unite x y r = ap₂ (λ p q. p && q) (same x r.0) (same (record { mult = x.mult; set = union n x.set y.set }) r.1.1)
    ends_same Commute x y r = ap₂ (λ p q. p && q) (same x r.0) (same y r.1)
    ends_same Conjugate x y r = ap₂ (λ p q. p && q) (backs y r.1.0) (same (record { mult = x.mult; set = union_less n x.set y.set y.mult }) r.1.1)
    ends_same Exchange x y r = ap₂ (λ p q. p && q) (same x r.cut) (same (record { mult = y.mult; set = x.set }) r.other)
    ends_same SwapCut x y r = same (mapped_cut n (swap_letter (number x)) y) r.1.1
    ends_same InvertCut x y r = same (mapped_cut n (invert_letter (number x)) y) r.1.1
    ends_same SwapTwice x y r = refl
    ends_same InvertTwice x y r = refl
    ends_same Braid x y r = refl
    ends_same SwapBoth x y r = refl
    ends_same InvertBoth x y r = refl
    ends_same SwapInversion x y r = refl
    ends_same PassInversion x y r = refl
    ends_same Complement x y r = same x r.0
    ends_same Inner x y r = backs x r.0

    guarded : (p a b c : Bool) → (p ≡ true → a ≡ b) → (p && (a && c)) ≡ (p && (b && c))
    guarded true a b c h = ap (λ q. q && c) (h refl)
    guarded false a b c h = refl

    chosen_same : (f : Family) (x y : Cut) → IsPair n f x y → chosen n k f x y ≡ chosen n l f x y
    chosen_same f x y p = guarded (fits n f x y) (ends_kept n k f x y) (ends_kept n l f x y) _ (λ h. ends_same f x y (p.ready h))

    all_same : (f : Family) (xs ys : List Cut) → All (λ x. All (IsPair n f x) ys) xs → for_each xs ys (chosen n k f) (word_of n f) ≡ for_each xs ys (chosen n l f) (word_of n f)
    unfolding for_each
    all_same f [] ys h = refl
    all_same f (x ∷ xs) ys h =
        ap₂ (λ us vs. us ++ vs) (ap (map (word_of n f x)) (filter-same (IsPair n f x) (chosen n k f x) (chosen n l f x) (chosen_same f x) ys (All-head (λ z. All (IsPair n f z) ys) x xs h)))
        (all_same f xs ys (All-tail (λ z. All (IsPair n f z) ys) x xs h))

    pub lists_same : (f : Family) → chosen_lists n k f ≡ chosen_lists n l f
    unfolding chosen_lists
    lists_same f = all_same f (firsts n f) (seconds n f) (pairs_are f)

-- ---- tables
pub told_is : (t : TupleData) (c : Capacities) → AreCapacities t c → (x : Cut) → Cuts t.rank x → told c x ≡ kept t x
told_is t c m x v = ap₂ nat_eq (m.sets.each x.set 0 v.within) (m.degrees.each x.mult 0 v.of_rank) ∙ kept_by t x m.tuple v

pub roomy : (t : TupleData) (c : Capacities) → AreCapacities t c → AreRoomy c
roomy t c m = record {
  few = omega (arith, m.rank, m.few);
  sets = subst (λ (r : ℕ). 2 ^ (2 * r) ≤ length c.sets) (sym m.rank) m.sets.room;
  degrees = omega (arith, m.rank, m.degrees.room);
}

pub listed_is : (t : TupleData) (c : Capacities) → AreCapacities t c → (f : Family) → chosen_lists c.rank (told c) f ≡ listed t f
unfolding chosen_lists listed
listed_is t c m f = ap (λ n. chosen_lists n (told c) f) m.rank ∙ lists_same t.rank (omega (arith, m.few)) (told c) (kept t) (told_is t c m) f

-- ---- all families
abbrev pub all_families : List Family
all_families =
    Cancel ∷ Unite ∷ Commute ∷ Conjugate ∷ Exchange ∷ SwapCut ∷ InvertCut ∷ SwapTwice ∷ InvertTwice ∷ Braid ∷ SwapBoth ∷ InvertBoth ∷ SwapInversion ∷ PassInversion ∷ Complement ∷ Inner ∷ []

flat_map-same : (g h : Family → List (List Move)) → ((f : Family) → g f ≡ h f) → (fs : List Family) → flat_map g fs ≡ flat_map h fs
flat_map-same g h e [] = refl
flat_map-same g h e (f ∷ fs) = ap₂ (λ us vs. us ++ vs) (e f) (flat_map-same g h e fs)

module _ (t : TupleData) where
  step : (p q r s : List (List Move)) → q ++ r ≡ s → (p ++ q) ++ r ≡ p ++ s
  step p q r s e = append_assoc p q r ∙ ap (λ z. p ++ z) e

  abbrev rest : List (List Move) → List (List Move)
  rest r = listed t SwapTwice ++ (listed t InvertTwice ++ (listed t Braid ++ (listed t SwapBoth ++ (listed t InvertBoth ++ (listed t SwapInversion ++ (listed t PassInversion ++ r))))))

  permutations_first : (r : List (List Move)) → listed_permutations t ++ r ≡ rest r
  permutations_first r =
      step (listed t SwapTwice) _ r _ (step (listed t InvertTwice) _ r _ (step (listed t Braid) _ r _ (step (listed t SwapBoth) _ r _ (step (listed t InvertBoth) _ r _ (step (listed t SwapInversion) (listed t PassInversion) r _ refl)))))

  abbrev last : List (List Move)
  last = listed t Complement ++ listed t Inner

  ends_in : rest (listed t Complement ++ (listed t Inner ++ [])) ≡ listed_permutations t ++ last
  ends_in = sym (permutations_first (listed t Complement ++ (listed t Inner ++ []))) ∙ ap (λ z. listed_permutations t ++ (listed t Complement ++ z)) (append-nil (listed t Inner))

  in_order : flat_map (listed t) all_families ≡ all_listed t
  in_order =
      ap (λ z. listed t Cancel ++ (listed t Unite ++ (listed t Commute ++ (listed t Conjugate ++ (listed t Exchange ++ z)))))
      (ap (λ z. listed t SwapCut ++ (listed t InvertCut ++ z)) ends_in ∙ sym (append_assoc (listed t SwapCut) (listed t InvertCut) (listed_permutations t ++ last)))

  pub families_listed : (c : Capacities) → AreCapacities t c → flat_map (chosen_lists c.rank (told c)) all_families ≡ instances_at t
  families_listed c m =
      flat_map-same (chosen_lists c.rank (told c)) (listed t) (listed_is t c m) all_families ∙ (in_order ∙ sym (instances_are_listed t m.tuple (omega (arith, m.few))))
