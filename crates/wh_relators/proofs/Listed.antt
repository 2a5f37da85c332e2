-- The instances are those lists of the families that single cuts tell.
use Rattle.std.proofs.Common.{◌≡◌, ℕ, ◌+◌, ◌-◌, ◌*◌, ◌<◌, ◌≤◌, ◌==◌, Bool, true, not, List, [], ◌∷◌, refl, sym, ap, ap₂, ◌∙◌, arith, map}
use Rattle.std.proofs.lemmas.List.Elements.{filter-append}
use Rattle.std.specs.Prelude.{ltb, ◌&&◌, ◌++◌}
use Rattle.std.specs.List.{All, filter, range_with_len}
use Rattle.wh_words.specs.Tuples.{TupleData, IsTuple}
use Rattle.wh_words.specs.Moves.{Move, IsKind}
use Rattle.wh_words.specs.Moves.Kind.{swap, invert}
use Rattle.wh_words.specs.Images.{swap_letter, invert_letter}
use Rattle.wh_relators.specs.declared.family.Family.{Family}
use Rattle.wh_relators.specs.declared.family.Family.TheVariants.{Cancel, SwapTwice, InvertTwice, Braid, SwapBoth, InvertBoth, SwapInversion, PassInversion, Complement}
use Rattle.wh_relators.specs.Cuts.{Cut, letters, generators, swapped, cuts, union, union_less, mapped_cut}
use Rattle.wh_relators.specs.Families.{for_each, always, cancel, unite, can_unite, commute, can_commute, conjugate, can_conjugate, change_mult, is_other_mult, swap_cut, invert_cut, swap_twice, invert_twice, braid, swap_both, invert_both, swap_inversion, pass_inversion, of_permutations, complement_cut, conjugate_inner, can_conjugate_inner}
use Rattle.wh_relators.specs.Instances.{is_proper, relations, keeps, instances_at}
use Rattle.wh_relators.specs.Kept.{kept, back}
use Rattle.wh_relators.specs.Choices.{letter_item, generator_item, number, single, listed, all_listed}
use Rattle.wh_relators.proofs.Lists.{All-every}
use Rattle.wh_relators.proofs.Sets.{Cuts, cuts-are, letters-are}
use Rattle.wh_relators.proofs.ChosenLists.{for_each-first, for_each-second, for_each-one, family_is, told_by}
use Rattle.wh_relators.proofs.FamilyRelations.{swapped-are, generators-are, Braided, braided-are, own_inversion, next_inversion}
use Rattle.wh_relators.proofs.KeptFamilies.{turns_always, cancel_keeps, unite_keeps, commute_keeps, conjugate_keeps, change_keeps, swap_cut_keeps, invert_cut_keeps, complement_keeps, inner_keeps}

number-back : (k : ℕ) → 0 < k → number (generator_item k) ≡ k
number-back k h = omega (arith, h)

module _ (t : TupleData) (is : IsTuple t) (few : t.rank ≤ 26) where
  abbrev found : List (List Move) → List (List Move)
  found wss = filter (keeps t) (filter is_proper wss)

  abbrev Any : {X : Type 0} → X → Type 0
  Any x = Unit {0}

  any-single : All (λ (y : Cut). Unit {0}) single
  any-single = All-every (λ (y : Cut). Unit {0}) (λ y. tt) single

  -- Families of cuts alone.
  of_single : (f : Family) (word : Cut → List Move) (ends : Cut → Bool) → ((x : Cut) → Cuts t.rank x → keeps t (word x) ≡ ends x) →
      found (map word (cuts t.rank)) ≡ for_each (cuts t.rank) single (λ x y. true && (ends x && is_proper (word x))) (λ x y. word x)
  of_single f word ends h =
      ap found (for_each-one (letter_item 0) (cuts t.rank) word)
      ∙ family_is (keeps t) is_proper (Cuts t.rank) (λ y. Unit {0}) (cuts t.rank) single always (λ x y. true && (ends x && is_proper (word x))) (λ x y. word x) (λ x y. word x) (cuts-are t.rank) any-single
      (λ x y u w. told_by true (is_proper (word x)) (keeps t (word x)) (ends x) (λ _. h x u)) (λ x y u w. refl)

  -- Families of two cuts.
  of_pairs : (test ends : Cut → Cut → Bool) (word : Cut → Cut → List Move) → ((x y : Cut) → Cuts t.rank x → Cuts t.rank y → test x y ≡ true → keeps t (word x y) ≡ ends x y) →
      found (for_each (cuts t.rank) (cuts t.rank) test word) ≡ for_each (cuts t.rank) (cuts t.rank) (λ x y. test x y && (ends x y && is_proper (word x y))) word
  of_pairs test ends word h =
      family_is (keeps t) is_proper (Cuts t.rank) (Cuts t.rank) (cuts t.rank) (cuts t.rank) test (λ x y. test x y && (ends x y && is_proper (word x y))) word word (cuts-are t.rank) (cuts-are t.rank)
      (λ x y u v. told_by (test x y) (is_proper (word x y)) (keeps t (word x y)) (ends x y) (h x y u v)) (λ x y u v. refl)

  -- Families of a cut and a letter.
  of_letters : (test ends : Cut → ℕ → Bool) (word : Cut → ℕ → List Move) → ((x : Cut) (b : ℕ) → Cuts t.rank x → b < 2 * t.rank → test x b ≡ true → keeps t (word x b) ≡ ends x b) →
      found (for_each (cuts t.rank) (letters t.rank) test word) ≡ for_each (cuts t.rank) (map letter_item (letters t.rank)) (λ x y. test x y.mult && (ends x y.mult && is_proper (word x y.mult))) (λ x y. word x y.mult)
  of_letters test ends word h =
      family_is (keeps t) is_proper (Cuts t.rank) (λ b. b < 2 * t.rank) (cuts t.rank) (letters t.rank) test (λ x b. test x b && (ends x b && is_proper (word x b))) word word (cuts-are t.rank) (letters-are t.rank)
      (λ x b u l. told_by (test x b) (is_proper (word x b)) (keeps t (word x b)) (ends x b) (h x b u l)) (λ x b u l. refl)
      ∙ sym (for_each-second letter_item (cuts t.rank) (letters t.rank) (λ x y. test x y.mult && (ends x y.mult && is_proper (word x y.mult))) (λ x y. word x y.mult))

  -- Families of a generator and a cut.
  of_generators : (V : ℕ → Type 0) (ks : List ℕ) → All V ks → ((k : ℕ) → V k → 0 < k) → (ends : ℕ → Cut → Bool) (word : ℕ → Cut → List Move) → ((k : ℕ) (x : Cut) → V k → Cuts t.rank x → keeps t (word k x) ≡ ends k x) →
      found (for_each ks (cuts t.rank) always word) ≡ for_each (map generator_item ks) (cuts t.rank) (λ x y. true && (ends (number x) y && is_proper (word (number x) y))) (λ x y. word (number x) y)
  of_generators V ks are some ends word h =
      family_is (keeps t) is_proper V (Cuts t.rank) ks (cuts t.rank) always (λ k y. true && (ends (number (generator_item k)) y && is_proper (word (number (generator_item k)) y))) word (λ k y. word (number (generator_item k)) y) are (cuts-are t.rank)
      (λ k y v u. told_by true (is_proper (word k y)) (keeps t (word k y)) (ends k y) (λ _. h k y v u) ∙ ap (λ j. true && (ends j y && is_proper (word j y))) (sym (number-back k (some k v))))
      (λ k y v u. ap (λ j. word j y) (sym (number-back k (some k v))))
      ∙ sym (for_each-first generator_item ks (cuts t.rank) (λ x y. true && (ends (number x) y && is_proper (word (number x) y))) (λ x y. word (number x) y))

  -- Families of one generator.
  of_one : (V : ℕ → Type 0) (ks : List ℕ) → All V ks → ((k : ℕ) → V k → 0 < k) → (word : ℕ → List Move) → ((k : ℕ) → V k → keeps t (word k) ≡ true) →
      found (map word ks) ≡ for_each (map generator_item ks) single (λ x y. true && (true && is_proper (word (number x)))) (λ x y. word (number x))
  of_one V ks are some word h =
      ap found (for_each-one (letter_item 0) ks word)
      ∙ (family_is (keeps t) is_proper V (λ y. Unit {0}) ks single always (λ k y. true && (true && is_proper (word (number (generator_item k))))) (λ k y. word k) (λ k y. word (number (generator_item k))) are any-single
      (λ k y v u. told_by true (is_proper (word k)) (keeps t (word k)) true (λ _. h k v) ∙ ap (λ j. true && (true && is_proper (word j))) (sym (number-back k (some k v))))
      (λ k y v u. ap word (sym (number-back k (some k v))))
      ∙ sym (for_each-first generator_item ks single (λ x y. true && (true && is_proper (word (number x)))) (λ x y. word (number x))))

  -- Families of two generators.
  of_two : (V W : ℕ → Type 0) (ks js : List ℕ) → All V ks → All W js → ((k : ℕ) → V k → 0 < k) → ((k : ℕ) → W k → 0 < k) → (test : ℕ → ℕ → Bool) (word : ℕ → ℕ → List Move) → ((k j : ℕ) → V k → W j → keeps t (word k j) ≡ true) →
      found (for_each ks js test word) ≡ for_each (map generator_item ks) (map generator_item js) (λ x y. test (number x) (number y) && (true && is_proper (word (number x) (number y)))) (λ x y. word (number x) (number y))
  of_two V W ks js hk hj sk sj test word h =
      family_is (keeps t) is_proper V W ks js test (λ k j. test (number (generator_item k)) (number (generator_item j)) && (true && is_proper (word (number (generator_item k)) (number (generator_item j))))) word
      (λ k j. word (number (generator_item k)) (number (generator_item j))) hk hj
      (λ k j v w. told_by (test k j) (is_proper (word k j)) (keeps t (word k j)) true (λ _. h k j v w)
      ∙ ap₂ (λ x y. test x y && (true && is_proper (word x y))) (sym (number-back k (sk k v))) (sym (number-back j (sj j w))))
      (λ k j v w. ap₂ word (sym (number-back k (sk k v))) (sym (number-back j (sj j w))))
      ∙ (sym (for_each-second generator_item ks js (λ k y. test (number (generator_item k)) (number y) && (true && is_proper (word (number (generator_item k)) (number y)))) (λ k y. word (number (generator_item k)) (number y)))
      ∙ sym (for_each-first generator_item ks (map generator_item js) (λ x y. test (number x) (number y) && (true && is_proper (word (number x) (number y)))) (λ x y. word (number x) (number y))))

  abbrev Sw : ℕ → Type 0
  Sw k = IsKind t.rank (swap k)

  abbrev In : ℕ → Type 0
  In k = IsKind t.rank (invert k)

  parted : (a b : List (List Move)) → found (a ++ b) ≡ found a ++ found b
  parted a b = ap (filter (keeps t)) (filter-append is_proper a b) ∙ filter-append (keeps t) (filter is_proper a) (filter is_proper b)

  joins : (a b c d : List (List Move)) → found a ≡ c → found b ≡ d → found (a ++ b) ≡ c ++ d
  joins a b c d e g = parted a b ∙ ap₂ (λ x y. x ++ y) e g

  permutations_listed : found (of_permutations t.rank) ≡ listed t SwapTwice ++ (listed t InvertTwice ++ (listed t Braid ++ (listed t SwapBoth ++ (listed t InvertBoth ++ (listed t SwapInversion ++ listed t PassInversion)))))
  unfolding listed
  permutations_listed =
      joins _ _ _ _ (of_one Sw (swapped t.rank) (swapped-are t.rank few) (λ k s. s.0) (swap_twice t.rank) (λ k s. turns_always t is (swap k ∷ swap k ∷ []) (s, (s, tt))))
      (joins _ _ _ _ (of_one In (generators t.rank) (generators-are t.rank few) (λ k s. s.0) (invert_twice t.rank) (λ k s. turns_always t is (invert k ∷ invert k ∷ []) (s, (s, tt))))
      (joins _ _ _ _ (of_one (Braided t.rank few) (range_with_len 1 (t.rank - 2)) (braided-are t.rank few) (λ k s. s.0.0) (braid t.rank)
      (λ k s. turns_always t is (swap k ∷ swap (k + 1) ∷ swap k ∷ swap (k + 1) ∷ swap k ∷ swap (k + 1) ∷ []) (s.0, (s.1, (s.0, (s.1, (s.0, (s.1, tt))))))))
      (joins _ _ _ _ (of_two Sw Sw (swapped t.rank) (swapped t.rank) (swapped-are t.rank few) (swapped-are t.rank few) (λ k s. s.0) (λ k s. s.0) (λ j k. ltb (j + 1) k) (swap_both t.rank)
      (λ j k s r. turns_always t is (swap j ∷ swap k ∷ swap j ∷ swap k ∷ []) (s, (r, (s, (r, tt))))))
      (joins _ _ _ _ (of_two In In (generators t.rank) (generators t.rank) (generators-are t.rank few) (generators-are t.rank few) (λ k s. s.0) (λ k s. s.0) ltb (invert_both t.rank)
      (λ j k s r. turns_always t is (invert j ∷ invert k ∷ invert j ∷ invert k ∷ []) (s, (r, (s, (r, tt))))))
      (joins _ _ _ _ (of_one Sw (swapped t.rank) (swapped-are t.rank few) (λ k s. s.0) (swap_inversion t.rank)
      (λ k s. turns_always t is (swap k ∷ invert k ∷ swap k ∷ invert (k + 1) ∷ []) (s, (own_inversion t.rank few k s, (s, (next_inversion t.rank few k s, tt))))))
      (of_two Sw In (swapped t.rank) (generators t.rank) (swapped-are t.rank few) (generators-are t.rank few) (λ k s. s.0) (λ k s. s.0) (λ k j. not (j == k) && not (j == k + 1)) (pass_inversion t.rank)
      (λ k j s r. turns_always t is (swap k ∷ invert j ∷ swap k ∷ invert j ∷ []) (s, (r, (s, (r, tt)))))))))))

  pub instances_are_listed : instances_at t ≡ all_listed t
  unfolding instances_at relations listed
  instances_are_listed =
      joins _ _ _ _ (of_single Cancel (cancel t.rank) (kept t) (cancel_keeps t is few))
      (joins _ _ _ _ (of_pairs (can_unite t.rank) (λ x y. kept t x && kept t (record { mult = x.mult; set = union t.rank x.set y.set })) (unite t.rank) (unite_keeps t is few))
      (joins _ _ _ _ (of_pairs (can_commute t.rank) (λ x y. kept t x && kept t y) (commute t.rank) (commute_keeps t is few))
      (joins _ _ _ _ (of_pairs (can_conjugate t.rank) (λ x y. kept t (back y) && kept t (record { mult = x.mult; set = union_less t.rank x.set y.set y.mult })) (conjugate t.rank) (conjugate_keeps t is few))
      (joins _ _ _ _ (of_letters is_other_mult (λ x b. kept t x && kept t (record { mult = b; set = x.set })) (change_mult t.rank) (change_keeps t is few))
      (joins _ _ _ _ (joins _ _ _ _ (of_generators Sw (swapped t.rank) (swapped-are t.rank few) (λ k s. s.0) (λ k x. kept t (mapped_cut t.rank (swap_letter k) x)) (swap_cut t.rank) (swap_cut_keeps t is few))
      (of_generators In (generators t.rank) (generators-are t.rank few) (λ k s. s.0) (λ k x. kept t (mapped_cut t.rank (invert_letter k) x)) (invert_cut t.rank) (invert_cut_keeps t is few)))
      (joins _ _ _ _ permutations_listed
      (joins _ _ _ _ (of_single Complement (complement_cut t.rank) (kept t) (complement_keeps t is few))
      (of_letters can_conjugate_inner (λ x b. kept t (back x)) (conjugate_inner t.rank) (inner_keeps t is few)))))))))
