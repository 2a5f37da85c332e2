-- No list of the families is too heavy in the ranks of stabilisers: it has at most three cuts beside swaps and inversions, or five cuts alone.
use Rattle.std.proofs.Common.{◌≡◌, ℕ, zero, suc, ◌+◌, ◌-◌, ◌*◌, ◌/◌, ◌%◌, ◌<◌, ◌≤◌, ◌==◌, Bool, not, cond, List, [], ◌∷◌, ◌++◌, length, refl, arith, map}
use Rattle.std.proofs.lemmas.Bool.{cond_both}
use Rattle.std.proofs.lemmas.List.Elements.{All-append, All-filter, All-map}
use Rattle.std.specs.Prelude.{ltb, ◌&&◌}
use Rattle.std.specs.List.{All, range_with_len}
use Rattle.wh_words.specs.LetterSets.{in_set}
use Rattle.wh_words.specs.Moves.{Kind, Move, cut_move, turned_set}
use Rattle.wh_words.specs.Moves.Kind.{swap, invert, cut}
use Rattle.wh_relators.specs.Cuts.{Cut, letters, generators, swapped, cuts, does, undoes, inner}
use Rattle.wh_relators.specs.Families.{for_each, cancel, unite, can_unite, commute, can_commute, conjugate, can_conjugate, exchange_up, exchange, carry_kinds, carry_word, change_mult, is_other_mult, swap_cut, invert_cut, always, swap_twice, invert_twice, braid, swap_both, invert_both, swap_inversion, pass_inversion, of_permutations, complement_cut, conjugate_inner, can_conjugate_inner}
use Rattle.wh_relators.specs.Instances.{is_proper, families, relations}
use Rattle.wh_relators.specs.Weights.{kind_weight, weight, IsLight}
use Rattle.wh_relators.specs.Laws.{RelationsAreLight}
use Rattle.wh_relators.proofs.Lists.{All-every, All-for_each}
use Rattle.wh_relators.proofs.Sets.{Cuts, cuts-are, letters-are}

-- ---- lists of moves
pub weight-append : (ms ns : List Move) → weight (ms ++ ns) ≡ weight ms + weight ns
unfolding weight
weight-append [] ns = omega arith
weight-append (m ∷ ms) ns = omega (arith, weight-append ms ns)

-- So many moves weigh at most 17 each.
pub weight-length : (ms : List Move) → weight ms ≤ 17 * length ms
unfolding weight
weight-length [] = omega arith
weight-length (m ∷ ms) = omega (arith, kind m.kind, weight-length ms)
  where
    kind : (k : Kind) → kind_weight k ≤ 17
    kind (swap k) = omega arith
    kind (invert k) = omega arith
    kind (cut a set) = omega arith

-- A list of at most six moves is light.
few_light : (ms : List Move) → length ms ≤ 6 → IsLight ms
few_light ms few = omega (arith, weight-length ms, few)

-- ---- the swaps and the inversion of the fifth family
abbrev moves_of : ℕ → List Kind → List Move
moves_of n ks = map (λ k. record { rank = n; kind = k }) ks

moves_of-append : (n : ℕ) (ks js : List Kind) → weight (moves_of n (ks ++ js)) ≡ weight (moves_of n ks) + weight (moves_of n js)
unfolding weight
moves_of-append n [] js = omega arith
moves_of-append n (k ∷ ks) js = omega (arith, moves_of-append n ks js)

exchange_up-weight : (n k d : ℕ) → weight (moves_of n (exchange_up k d)) ≤ 9 + 18 * d
unfolding weight
exchange_up-weight n k zero = omega arith
exchange_up-weight n k (suc d) = omega (arith, moves_of-append n (exchange_up (k + 1) d) (swap k ∷ []), exchange_up-weight n (k + 1) d)

exchange-weight : (n g h : ℕ) → 0 < g → 0 < h → g ≤ 4 → h ≤ 4 → weight (moves_of n (exchange g h)) ≤ 45
exchange-weight n g h some_g some_h low_g low_h =
    cond_both (ltb g h) (exchange_up g (h - g - 1)) (exchange_up h (g - h - 1)) (λ ks. weight (moves_of n ks) ≤ 45)
    (λ _. omega (arith, exchange_up-weight n g (h - g - 1), some_g, low_h))
    (λ _. omega (arith, exchange_up-weight n h (g - h - 1), some_h, low_g))

one-weight : (n k : ℕ) → weight (moves_of n (invert k ∷ [])) ≡ 9
unfolding weight
one-weight n k = refl

carry-weight : (n a b : ℕ) → a < 8 → b < 8 → weight (carry_word n a b) ≤ 54
unfolding carry_kinds
carry-weight n a b low_a low_b =
    omega (
      arith,
      moves_of-append n (exchange (a / 2 + 1) (b / 2 + 1)) (invert (cond (a % 2 == b % 2) (a / 2 + 1) (b / 2 + 1)) ∷ []),
      exchange-weight n (a / 2 + 1) (b / 2 + 1) (omega arith) (omega arith) (omega (arith, low_a)) (omega (arith, low_b)),
      one-weight n (cond (a % 2 == b % 2) (a / 2 + 1) (b / 2 + 1)),
    )

-- A cut, a cut, some moves and a cut.
three-weight : (n a b c A B C : ℕ) (ms : List Move) → weight ms ≤ 54 → weight (cut_move n a A ∷ cut_move n b B ∷ (ms ++ cut_move n c C ∷ [])) ≤ 105
unfolding weight
three-weight n a b c A B C ms h = omega (arith, weight-append ms (cut_move n c C ∷ []), h)

change_light : (n : ℕ) (x : Cut) (b : ℕ) → n ≤ 4 → x.mult < 2 * n → b < 2 * n → IsLight (change_mult n x b)
change_light n x b few l k =
    three-weight n x.mult b _ x.set (turned_set x.mult x.set) _ (carry_word n x.mult b) (carry-weight n x.mult b (omega (arith, l, few)) (omega (arith, k, few)))

-- ---- the families
module _ (n : ℕ) (few : n ≤ 4) where
  any : {X : Type 0} (xs : List X) → All (λ (x : X). Unit {0}) xs
  any {X} xs = All-every (λ (x : X). Unit {0}) (λ x. tt) xs

  each : {X : Type 0} (xs : List X) (word : X → List Move) → ((x : X) → length (word x) ≤ 6) → All IsLight (map word xs)
  each {X} xs word h = All-map IsLight word xs (All-every (λ (x : X). IsLight (word x)) (λ x. few_light (word x) (h x)) xs)

  pairs : {X Y : Type 0} (xs : List X) (ys : List Y) (test : X → Y → Bool) (word : X → Y → List Move) → ((x : X) (y : Y) → length (word x y) ≤ 6) → All IsLight (for_each xs ys test word)
  pairs {X} {Y} xs ys test word h = All-for_each IsLight (λ (x : X). Unit {0}) (λ (y : Y). Unit {0}) xs ys test word (any xs) (any ys) (λ x y _ _ _. few_light (word x y) (h x y))

  joined : (p q : List (List Move)) → All IsLight p → All IsLight q → All IsLight (p ++ q)
  joined p q h k = All-append IsLight p q h k

  inner-length : (x : Cut) (b : ℕ) → length (conjugate_inner n x b) ≤ 6
  inner-length x b =
      cond_both (in_set x.set b) (undoes n (inner n x.mult) ∷ undoes n (inner n b) ∷ []) (undoes n (inner n b) ∷ []) (λ ms. length (undoes n x ∷ does n (inner n b) ∷ does n x ∷ ms) ≤ 6) (λ _. omega arith) (λ _. omega arith)

  of_permutations-light : All IsLight (of_permutations n)
  of_permutations-light =
      joined _ _ (each (swapped n) (swap_twice n) (λ k. omega arith))
      (joined _ _ (each (generators n) (invert_twice n) (λ k. omega arith))
      (joined _ _ (each (range_with_len 1 (n - 2)) (braid n) (λ k. omega arith))
      (joined _ _ (pairs (swapped n) (swapped n) (λ j k. ltb (j + 1) k) (swap_both n) (λ j k. omega arith))
      (joined _ _ (pairs (generators n) (generators n) ltb (invert_both n) (λ j k. omega arith))
      (joined _ _ (each (swapped n) (swap_inversion n) (λ k. omega arith))
      (pairs (swapped n) (generators n) (λ k j. not (j == k) && not (j == k + 1)) (pass_inversion n) (λ k j. omega arith)))))))

  families-light : All IsLight (families n)
  families-light =
      joined _ _ (each (cuts n) (cancel n) (λ x. omega arith))
      (joined _ _ (pairs (cuts n) (cuts n) (can_unite n) (unite n) (λ x y. omega arith))
      (joined _ _ (pairs (cuts n) (cuts n) (can_commute n) (commute n) (λ x y. omega arith))
      (joined _ _ (pairs (cuts n) (cuts n) (can_conjugate n) (conjugate n) (λ x y. omega arith))
      (joined _ _ (All-for_each IsLight (Cuts n) (λ b. b < 2 * n) (cuts n) (letters n) is_other_mult (change_mult n) (cuts-are n) (letters-are n) (λ x b u l _. change_light n x b few u.of_rank l))
      (joined _ _ (joined _ _ (pairs (swapped n) (cuts n) always (swap_cut n) (λ k x. omega arith)) (pairs (generators n) (cuts n) always (invert_cut n) (λ k x. omega arith)))
      (joined _ _ of_permutations-light
      (joined _ _ (each (cuts n) (complement_cut n) (λ x. omega arith))
      (pairs (cuts n) (letters n) can_conjugate_inner (conjugate_inner n) inner-length))))))))

  pub relations-light : All IsLight (relations n)
  unfolding relations
  relations-light = All-filter is_proper IsLight (families n) families-light

pub relations_are_light : RelationsAreLight
relations_are_light n few = relations-light n few
