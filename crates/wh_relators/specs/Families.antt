-- The nine families of relations between moves, after McCool 1974 and 1975. Automorphisms act on the right, and a relation is a list of moves whose composite is the identity.
use Rattle.std.specs.Prelude.{ℕ, zero, suc, ◌+◌, ◌-◌, ◌*◌, ◌/◌, ◌%◌, ◌==◌, ◌&&◌, Bool, true, not, cond, ltb, List, [], ◌∷◌, ◌++◌, map}
use Rattle.std.specs.List.{flat_map, filter, range_with_len}
use Rattle.wh_words.specs.Letters.{inverse_letter}
use Rattle.wh_words.specs.LetterSets.{in_set}
use Rattle.wh_words.specs.Moves.{Move, Kind, cut_move, turned_set}
use Rattle.wh_words.specs.Moves.Kind.{swap, invert}
use Rattle.wh_words.specs.Images.{swap_letter, invert_letter}
use Rattle.wh_graph.specs.SetMasks.{mask}
use Rattle.wh_peak.specs.Relations.{swap_move, invert_move}
use Rattle.wh_relators.specs.Cuts.{Cut, letters, generators, swapped, cuts, does, undoes, union, union_less, others, mapped_cut, inner}

-- For each x, and then for each y, the list of the two where they pass a test.
unfoldable pub for_each : {X Y : Type 0} → List X → List Y → (X → Y → Bool) → (X → Y → List Move) → List (List Move)
for_each xs ys test word = flat_map (λ x. map (word x) (filter (test x) ys)) xs

-- ---- first: a cut and its inverse
abbrev pub cancel : ℕ → Cut → List Move
cancel n x = does n x ∷ undoes n x ∷ []

-- (A, a) and then its inverse.
abbrev pub cancelling : ℕ → List (List Move)
cancelling n = map (cancel n) (cuts n)

-- ---- second: cuts of one multiplier, whose sets have it alone in common, are the cut of the union
abbrev pub unite : ℕ → Cut → Cut → List Move
unite n x y = does n x ∷ does n y ∷ undoes n (record { mult = x.mult; set = union n x.set y.set }) ∷ []

-- The sets have the letter a, and no other in common.
abbrev pub meet_in : ℕ → ℕ → ℕ → ℕ → Bool
meet_in n a A B = mask (2 * n) (λ x. in_set A x && in_set B x) == mask (2 * n) (λ x. x == a)

abbrev pub can_unite : ℕ → Cut → Cut → Bool
can_unite n x y = (x.mult == y.mult) && meet_in n x.mult x.set y.set

-- (A, a), (B, a), and the inverse of (A ∪ B, a), where A and B have a alone in common.
abbrev pub uniting : ℕ → List (List Move)
uniting n = for_each (cuts n) (cuts n) (can_unite n) (unite n)

-- ---- third: cuts of disjoint sets commute
-- No letter is in both sets.
abbrev pub are_apart : ℕ → ℕ → ℕ → Bool
are_apart n A B = mask (2 * n) (λ x. in_set A x && in_set B x) == 0

abbrev pub commute : ℕ → Cut → Cut → List Move
commute n x y = does n x ∷ does n y ∷ undoes n x ∷ undoes n y ∷ []

abbrev pub can_commute : ℕ → Cut → Cut → Bool
can_commute n x y = are_apart n x.set y.set && (not (in_set y.set (inverse_letter x.mult)) && not (in_set x.set (inverse_letter y.mult)))

-- (A, a), (B, b), the inverse of (A, a), and the inverse of (B, b), where A and B are disjoint, a' is not in B and b' not in A.
abbrev pub commuting : ℕ → List (List Move)
commuting n = for_each (cuts n) (cuts n) (can_commute n) (commute n)

-- ---- fourth: conjugating by (B, b) puts the rest of B into A
abbrev pub conjugate : ℕ → Cut → Cut → List Move
conjugate n x y = undoes n y ∷ does n x ∷ does n y ∷ undoes n (record { mult = x.mult; set = union_less n x.set y.set y.mult }) ∷ []

abbrev pub can_conjugate : ℕ → Cut → Cut → Bool
can_conjugate n x y =
    are_apart n x.set y.set && (not (in_set y.set (inverse_letter x.mult)) && (in_set x.set (inverse_letter y.mult) && not (inverse_letter y.mult == x.mult)))

-- The inverse of (B, b), (A, a), (B, b), and the inverse of (A + B - b, a), where A and B are disjoint, a' is not in B, b' is in A and is not a.
abbrev pub conjugating : ℕ → List (List Move)
conjugating n = for_each (cuts n) (cuts n) (can_conjugate n) (conjugate n)

-- ---- fifth: one set with either of two multipliers
-- The swaps that exchange generators k and k + d + 1: up to the last and back.
abbrev pub exchange_up : ℕ → ℕ → List Kind
exchange_up k zero = swap k ∷ []
exchange_up k (suc d) = swap k ∷ (exchange_up (k + 1) d ++ swap k ∷ [])

-- The swaps that exchange two generators.
abbrev pub exchange : ℕ → ℕ → List Kind
exchange g h = cond (ltb g h) (exchange_up g (h - g - 1)) (exchange_up h (g - h - 1))

-- The swaps and the inversion that take a to b and b to a': the generators are exchanged, and one of the two letters changes from a generator to an inverse or back.
unfoldable pub carry_kinds : ℕ → ℕ → List Kind
carry_kinds a b = exchange (a / 2 + 1) (b / 2 + 1) ++ invert (cond (a % 2 == b % 2) (a / 2 + 1) (b / 2 + 1)) ∷ []

abbrev pub carry_word : ℕ → ℕ → ℕ → List Move
carry_word n a b = map (λ k. record { rank = n; kind = k }) (carry_kinds a b)

abbrev pub change_mult : ℕ → Cut → ℕ → List Move
change_mult n x b = does n x ∷ cut_move n b (turned_set x.mult x.set) ∷ (carry_word n x.mult b ++ undoes n (record { mult = b; set = x.set }) ∷ [])

-- b is in the set, b' is not, and b is not the multiplier.
abbrev pub is_other_mult : Cut → ℕ → Bool
is_other_mult x b = in_set x.set b && (not (in_set x.set (inverse_letter b)) && not (b == x.mult))

-- (A, a), (A - a + a', b), the permutation that takes a to b and b to a', and the inverse of (A, b), where b is in A, b' is not in A, and b is not a.
abbrev pub exchanging : ℕ → List (List Move)
exchanging n = for_each (cuts n) (letters n) is_other_mult (change_mult n)

-- ---- sixth: a swap or an inversion takes a cut to the cut of the letters that it takes the letters to
abbrev pub swap_cut : ℕ → ℕ → Cut → List Move
swap_cut n k x = swap_move n k ∷ does n x ∷ swap_move n k ∷ undoes n (mapped_cut n (swap_letter k) x) ∷ []

abbrev pub invert_cut : ℕ → ℕ → Cut → List Move
invert_cut n k x = invert_move n k ∷ does n x ∷ invert_move n k ∷ undoes n (mapped_cut n (invert_letter k) x) ∷ []

abbrev pub always : {X Y : Type 0} → X → Y → Bool
always x y = true

-- T, (A, a), T, and the inverse of (A T, a T), for each swap T, and then for each inversion T.
abbrev pub permuting : ℕ → List (List Move)
permuting n = for_each (swapped n) (cuts n) always (swap_cut n) ++ for_each (generators n) (cuts n) always (invert_cut n)

-- ---- seventh: swaps and inversions with each other
abbrev pub swap_twice : ℕ → ℕ → List Move
swap_twice n k = swap_move n k ∷ swap_move n k ∷ []

abbrev pub invert_twice : ℕ → ℕ → List Move
invert_twice n k = invert_move n k ∷ invert_move n k ∷ []

abbrev pub braid : ℕ → ℕ → List Move
braid n k = swap_move n k ∷ swap_move n (k + 1) ∷ swap_move n k ∷ swap_move n (k + 1) ∷ swap_move n k ∷ swap_move n (k + 1) ∷ []

abbrev pub swap_both : ℕ → ℕ → ℕ → List Move
swap_both n j k = swap_move n j ∷ swap_move n k ∷ swap_move n j ∷ swap_move n k ∷ []

abbrev pub invert_both : ℕ → ℕ → ℕ → List Move
invert_both n j k = invert_move n j ∷ invert_move n k ∷ invert_move n j ∷ invert_move n k ∷ []

abbrev pub swap_inversion : ℕ → ℕ → List Move
swap_inversion n k = swap_move n k ∷ invert_move n k ∷ swap_move n k ∷ invert_move n (k + 1) ∷ []

abbrev pub pass_inversion : ℕ → ℕ → ℕ → List Move
pass_inversion n k j = swap_move n k ∷ invert_move n j ∷ swap_move n k ∷ invert_move n j ∷ []

-- A swap or an inversion twice; neighbouring swaps three times over; distant swaps and inversions commute; a swap takes the inversion of one of its generators to that of the other, and leaves those of others.
abbrev pub of_permutations : ℕ → List (List Move)
of_permutations n =
    map (swap_twice n) (swapped n)
    ++ (map (invert_twice n) (generators n)
    ++ (map (braid n) (range_with_len 1 (n - 2))
    ++ (for_each (swapped n) (swapped n) (λ j k. ltb (j + 1) k) (swap_both n)
    ++ (for_each (generators n) (generators n) ltb (invert_both n)
    ++ (map (swap_inversion n) (swapped n)
    ++ for_each (swapped n) (generators n) (λ k j. not (j == k) && not (j == k + 1)) (pass_inversion n))))))

-- ---- eighth: a cut is an inner automorphism and the cut of the complement
abbrev pub complement_cut : ℕ → Cut → List Move
complement_cut n x = does n (inner n x.mult) ∷ does n (record { mult = inverse_letter x.mult; set = others n x.set }) ∷ undoes n x ∷ []

-- (L - a', a), (L - A, a'), and the inverse of (A, a), where L is the set of all letters.
abbrev pub complementing : ℕ → List (List Move)
complementing n = map (complement_cut n) (cuts n)

-- ---- ninth: a cut and an inner automorphism
abbrev pub conjugate_inner : ℕ → Cut → ℕ → List Move
conjugate_inner n x b =
    undoes n x ∷ does n (inner n b) ∷ does n x ∷ cond (in_set x.set b) (undoes n (inner n x.mult) ∷ undoes n (inner n b) ∷ []) (undoes n (inner n b) ∷ [])

abbrev pub can_conjugate_inner : Cut → ℕ → Bool
can_conjugate_inner x b = not (in_set x.set (inverse_letter b)) && not (b == x.mult)

-- The inverse of (A, a), (L - b', b), (A, a), and then the inverse of (L - b', b) where b and b' are not in A, or those of (L - a', a) and (L - b', b) where b is in A, b' is not, and b is not a.
abbrev pub of_inner : ℕ → List (List Move)
of_inner n = for_each (cuts n) (letters n) can_conjugate_inner (conjugate_inner n)
