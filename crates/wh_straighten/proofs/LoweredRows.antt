-- Round a peak of two cuts with disjoint sets, by lists of moves.
use Rattle.std.proofs.Common.{◌≡◌, ◌≢◌, ℕ, zero, suc, ◌+◌, ◌*◌, ◌/◌, ◌^◌, ◌<◌, ◌≤◌, List, [], ◌∷◌, ◌++◌, refl, sym, ap, ap₂, subst, inl, inr, ◌∙◌, arith, get_or, ◌-◌, max, min, bit_or, bit_and}
use Rattle.std.proofs.lemmas.Bool.{cases_lt, cases_eq, eq-eqb, ne_eqb, true≢false}
use Rattle.std.proofs.lemmas.Bool.Decides.{nat_tests}
use Rattle.std.proofs.lemmas.List.{map-append}
use Rattle.std.proofs.lemmas.List.Elements.{All-head, All-tail}
use Rattle.std.proofs.lemmas.Nat.Bits.{same_from_bits_below, bit_at-lt, bit_at_above, bit_at_or, bit_at_and}
use Rattle.std.proofs.Math.Nat.{pow-le-pow_right, pow-suc}
use Rattle.std.specs.Prelude.{Bool, true, false, cond, not, ◌==◌, ◌&&◌, ◌||◌}
use Rattle.std.specs.Int.{bit_at}
use Rattle.std.specs.List.{All}
use Rattle.wh_words.specs.Letters.{inverse_letter}
use Rattle.wh_words.specs.LetterSets.{in_set}
use Rattle.wh_words.specs.Tuples.{TupleData, IsTuple, tuple_length}
use Rattle.wh_words.specs.Moves.{Kind, Move, IsCut, cut_move, turned_set, inverse_move}
use Rattle.wh_words.specs.Moves.Kind.{swap, invert, cut}
use Rattle.wh_words.specs.Action.{act}
use Rattle.wh_words.proofs.FreeReduction.{inverse-inverse}
use Rattle.wh_words.proofs.LetterMaps.{inverse_below, swap_stay, invert_there}
use Rattle.wh_composites.specs.SignedPerms.{IsTurnOfRank, TakeLetters, carry}
use Rattle.wh_moves.proofs.InverseMoves.{inverse_is_kind}
use Rattle.wh_graph.specs.Laws.{is_of}
use Rattle.wh_graph.proofs.NetworkCuts.{omits_back}
use Rattle.wh_graph.proofs.SetNumbers.{mask, mask_lt, mask_bit, holds, omits, holds_back}
use Rattle.wh_peak.specs.Straightness.{IsLowered, IsPeak}
use Rattle.wh_peak.specs.Relations.{HasLetters, AreDisjoint}
use Rattle.wh_straighten.specs.Lowering.{IsTurnedWay}
use Rattle.wh_peak.proofs.CutForms.{IsCut as IsTest, union_without, turned}
use Rattle.wh_peak.proofs.CutSubstitutions.{cutting, is-turn, same_generator}
use Rattle.wh_peak.proofs.CutsOfOneGenerator.{undo, turned-away}
use Rattle.wh_peak.proofs.AlikeLists.{Alike-agree}
use Rattle.wh_peak.proofs.CarriedLetters.{carry-o, is-back}
use Rattle.wh_peak.proofs.Lengths.{len, len-is, cap, deg, deg-inverse, length_law}
use Rattle.wh_peak.proofs.Actions.{act1}
use Rattle.wh_peak.proofs.DisjointCuts.{one_cut, three_cut, four-at, four-back, four-γ, four-γ', four_a_first, four_a_last, four_b_first}
use Rattle.wh_peak.proofs.Steps.{substitutions}
use Rattle.wh_peak.proofs.Steps.Step.{cuts}
use Rattle.wh_peak.proofs.SwapWords.{AreTurns, letters_map}
use Rattle.wh_peak.proofs.CarryWords.{Word, half_off}
use Rattle.wh_peak.proofs.KindSteps.{turned_is}
use Rattle.wh_peak.proofs.RankedSteps.{AreRanked, carry_ranked}
use Rattle.wh_peak.proofs.DisjointWays.{DisjointWay, way_one, way_two_joined, way_two_apart, way_three, way_four_a, way_four_b}
use Rattle.wh_peak.proofs.MapsPastCuts.{LoweredSteps}
use Rattle.wh_peak.proofs.KindLists.{act_kind-step}
use Rattle.wh_peak.proofs.ExpandedSteps.{expand, turns_image}
use Rattle.wh_peak.proofs.MovesOfRank.{kinds, moves_of, move_of_rank, cyclic_words, substituted}
use Rattle.wh_peak.proofs.StraightLists.{lowered_by_steps}

-- ---- sets by their numbers
bit_of : (set y : ℕ) (b : Bool) → in_set set y ≡ b → bit_at set y < 2 → bit_at set y ≡ cond b 1 0
bit_of set y true e l = holds_back set y e
bit_of set y false e l = elim (cases_eq (bit_at set y) 1) [
  | inl h ↦ absurd (true≢false (sym (holds set y h) ∙ e))
  | inr n ↦ omega (arith, n, l)
]

-- A number below that has the letters of a test is the number of the test.
pub mask-is : (k set : ℕ) (test : ℕ → Bool) → set < 2 ^ k → ((y : ℕ) → y < k → in_set set y ≡ test y) → set ≡ mask k test
mask-is k set test l h = same_from_bits_below k set (mask k test) l (mask_lt k test) (λ i b. bit_of set i (test i) (h i b) (bit_at-lt set i) ∙ sym (mask_bit k test i b))

-- A number whose bits from k on are 0 is below 2 to the k.
pub below_from_bits : (k w n : ℕ) → k ≤ w → n < 2 ^ w → ((i : ℕ) → k ≤ i → i < w → bit_at n i ≡ 0) → n < 2 ^ k
below_from_bits k w n l b h =
    let up : 2 ^ k ≤ 2 ^ w = pow-le-pow_right (omega arith) l in
    let same : n ≡ mask k (in_set n) = same_from_bits_below w n (mask k (in_set n)) b (omega (arith, mask_lt k (in_set n), up)) (λ i q. elim (cases_lt i k) [
      | inl s ↦ bit_of n i (in_set n i) refl (bit_at-lt n i) ∙ sym (mask_bit k (in_set n) i s)
      | inr s ↦ h i (omega (arith, s)) q ∙ sym (bit_at_above (mask k (in_set n)) k i (mask_lt k (in_set n)) (omega (arith, s)))
    ]) in
    omega (arith, same, mask_lt k (in_set n))

and-off : (p : Bool) → (p && not true) ≡ false
and-off true = refl
and-off false = refl

and-on : (p : Bool) → (p && not false) ≡ p
and-on true = refl
and-on false = refl

max-or : (p q : Bool) → max (cond p 1 0) (cond q 1 0) == 1 ≡ (p || q)
max-or true true = refl
max-or true false = refl
max-or false true = refl
max-or false false = refl

min-and : (p q : Bool) → min (cond p 1 0) (cond q 1 0) == 1 ≡ (p && q)
min-and true true = refl
min-and true false = refl
min-and false true = refl
min-and false false = refl

pub or_has : (A B x : ℕ) → in_set (bit_or A B) x ≡ (in_set A x || in_set B x)
or_has A B x =
    ap (λ z. z == 1) (bit_at_or A B x ∙ ap₂ max (bit_of A x (in_set A x) refl (bit_at-lt A x)) (bit_of B x (in_set B x) refl (bit_at-lt B x))) ∙ max-or (in_set A x) (in_set B x)

pub and_has : (A B x : ℕ) → in_set (bit_and A B) x ≡ (in_set A x && in_set B x)
and_has A B x =
    ap (λ z. z == 1) (bit_at_and A B x ∙ ap₂ min (bit_of A x (in_set A x) refl (bit_at-lt A x)) (bit_of B x (in_set B x) refl (bit_at-lt B x))) ∙ min-and (in_set A x) (in_set B x)

-- The union of two sets without a letter, as the program makes it.
pub united_letters : (n A B a more result : ℕ) → n ≤ 26 → more ≡ bit_or A B → bit_at result a ≡ 0 → ((i : ℕ) → i < 64 → i ≢ a → bit_at result i ≡ bit_at more i) →
    HasLetters n result (λ x. (in_set A x || in_set B x) && not (x == a))
united_letters n A B a more result low e gone kept x l = elim (cases_eq x a) [
  | inl q ↦ ap (in_set result) q ∙ (omits result a gone ∙ (sym (and-off (in_set A x || in_set B x)) ∙ ap (λ z. (in_set A x || in_set B x) && not z) (sym (eq-eqb x a q))))
  | inr k ↦ ap (λ z. z == 1) (kept x (omega (arith, l, low)) k ∙ ap (λ z. bit_at z x) e) ∙ (or_has A B x ∙ (sym (and-on (in_set A x || in_set B x)) ∙ ap (λ z. (in_set A x || in_set B x) && not z) (sym (ne_eqb x a k))))
]

pub united_within : (n A B a more result : ℕ) → n ≤ 26 → A < 2 ^ (2 * n) → B < 2 ^ (2 * n) → result < 2 ^ 64 → more ≡ bit_or A B → bit_at result a ≡ 0 → ((i : ℕ) → i < 64 → i ≢ a → bit_at result i ≡ bit_at more i) → result < 2 ^ (2 * n)
united_within n A B a more result low wa wb w e gone kept = below_from_bits (2 * n) 64 result (omega (arith, low)) w (λ i g b. elim (cases_eq i a) [
  | inl q ↦ ap (bit_at result) q ∙ gone
  | inr k ↦ kept i b k ∙ (ap (λ z. bit_at z i) e ∙ (bit_at_or A B i ∙ ap₂ max (bit_at_above A (2 * n) i wa g) (bit_at_above B (2 * n) i wb g)))
])

pub both_within : (n A B : ℕ) → n ≤ 26 → A < 2 ^ (2 * n) → bit_and A B < 2 ^ 64 → bit_and A B < 2 ^ (2 * n)
both_within n A B low wa w = below_from_bits (2 * n) 64 (bit_and A B) (omega (arith, low)) w
    (λ i g b. bit_at_and A B i ∙ (ap (λ z. min z (bit_at B i)) (bit_at_above A (2 * n) i wa g) ∙ omega arith))

-- The complement of a set, as the program makes it.
pub complement_letters : (n A B : ℕ) → ((i : ℕ) → i < 2 * n → bit_at B i ≡ 1 - bit_at A i) → HasLetters n B (λ x. not (in_set A x))
complement_letters n A B h x l = ap (λ z. z == 1) (h x l ∙ ap (λ z. 1 - z) (bit_of A x (in_set A x) refl (bit_at-lt A x))) ∙ turn (in_set A x)
  where
    turn : (p : Bool) → 1 - cond p 1 0 == 1 ≡ not p
    turn true = refl
    turn false = refl

-- Sets made letter by letter: after i letters the set has those of them that pass, and no others.
pub record IsMadeUpTo (i set : ℕ) (test : ℕ → Bool) : Type 0 where
  pub low : (x : ℕ) → x < i → in_set set x ≡ test x
  pub high : (x : ℕ) → i ≤ x → bit_at set x ≡ 0

below_power : (n : ℕ) → n < 2 ^ n
below_power zero = omega arith
below_power (suc n) = omega (arith, below_power n, pow-suc 2 n)

pub made_within : (i k set : ℕ) (test : ℕ → Bool) → i ≤ k → IsMadeUpTo i set test → set < 2 ^ k
made_within i k set test l m =
    let up : 2 ^ set ≤ 2 ^ (k + set) = pow-le-pow_right (omega arith) (omega arith) in
    below_from_bits k (k + set) set (omega arith) (omega (arith, below_power set, up)) (λ x g b. m.high x (omega (arith, l, g)))

-- ---- swaps and inversions as a map
kinds-turns : (n : ℕ) (ms : List Move) → All (IsTurnOfRank n) ms → AreTurns n (kinds ms)
kinds-turns n [] h = tt
kinds-turns n (m ∷ ms) h = ((All-head (IsTurnOfRank n) m ms h).turn, kinds-turns n ms (All-tail (IsTurnOfRank n) m ms h))

moves_of-kinds : (n : ℕ) (ms : List Move) → All (IsTurnOfRank n) ms → moves_of n (kinds ms) ≡ ms
moves_of-kinds n [] h = refl
moves_of-kinds n (m ∷ ms) h =
    ap₂ (λ (r : ℕ) (ns : List Move). record { rank = r; kind = m.kind } ∷ ns) (sym (All-head (IsTurnOfRank n) m ms h).rank) (moves_of-kinds n ms (All-tail (IsTurnOfRank n) m ms h))

map-above : (n : ℕ) (ks : List Kind) → AreTurns n ks → (x : ℕ) → 2 * n ≤ x → letters_map ks x ≡ x
map-above n [] t x l = refl
map-above n (swap k ∷ ks) t x l = ap (letters_map ks) (swap_stay k x (λ e. omega (arith, e, l, t.0.1)) (λ e. omega (arith, e, l, t.0.1))) ∙ map-above n ks t.1 x l
map-above n (invert k ∷ ks) t x l = ap (letters_map ks) (invert_there k x (λ e. omega (arith, e, l, t.0.1))) ∙ map-above n ks t.1 x l
map-above n (cut a s ∷ ks) t x l = absurd t.0

not_of : (a x : ℕ) → x / 2 ≢ a / 2 → is_of a x ≡ false
not_of a x n = sym (same_generator a x) ∙ ne_eqb (x / 2) (a / 2) n

-- Turns that carry the letters of the rank carry all letters.
abbrev carrying_word : (n a b : ℕ) → a < 2 * n → b < 2 * n → is_of a b ≡ false → (ms : List Move) → All (IsTurnOfRank n) ms → TakeLetters n ms (carry a b) → Word n (carry a b)
carrying_word n a b la lb ab ms h t = record {
  list = kinds ms;
  turns = kinds-turns n ms h;
  is = λ x. elim (cases_lt x (2 * n)) [
    | inl l ↦ ap (λ (w : List ℕ). get_or w 0 0)
        (sym (turns_image n (kinds ms) (kinds-turns n ms h) (x ∷ [])) ∙ (sym (substituted ms (x ∷ [])) ∙ t x l))
    | inr g ↦ map-above n (kinds ms) (kinds-turns n ms h) x (omega (arith, g))
        ∙ sym (carry-o a b ab x (not_of a x (λ e. omega (arith, e, g, la))) (not_of b x (λ e. omega (arith, e, g, lb))))
  ];
}

-- ---- cuts by tests
pub set_is : (n x X : ℕ) (test : ℕ → Bool) → IsCut n x X → HasLetters n X test → cut_move n x X ≡ cut_move n x (mask (2 * n) test)
set_is n x X test h l = ap (cut_move n x) (mask-is (2 * n) X test h.within l)

-- The inverse of a cut, whose set has the letters of a test.
pub back_is : (n x X : ℕ) (test : ℕ → Bool) → IsCut n x X → HasLetters n X test → inverse_move (cut_move n x X) ≡ cut_move n (inverse_letter x) (mask (2 * n) (turned x test))
unfolding turned
back_is n x X test h l =
    ap (cut_move n (inverse_letter x)) (mask-is (2 * n) (turned_set x X) (turned x test) (inverse_is_kind n (cut x X) h).within
    (λ y b. turned_is x X h.holds h.omits y ∙ ap (λ (z : Bool). (z && not (y == x)) || (y == inverse_letter x)) (l y b)))

-- What the program makes, where it reads the rank.
pub made_is : (r n x X : ℕ) (m : Move) → m ≡ cut_move r x X → r ≡ n → m ≡ cut_move n x X
made_is r n x X m e q = e ∙ ap (λ (z : ℕ). cut_move z x X) q

pub made_back : (r n x X : ℕ) (m k : Move) → k ≡ inverse_move m → m ≡ cut_move r x X → r ≡ n → k ≡ inverse_move (cut_move n x X)
made_back r n x X m k f e q = f ∙ ap inverse_move (made_is r n x X m e q)

-- The first of two disjoint sets at the inverse of the second multiplier, which it holds.
pub exchanged_is_cut : (n a b A B x : ℕ) → x ≡ inverse_letter b → IsCut n a A → IsCut n b B → AreDisjoint A B → in_set A (inverse_letter b) ≡ true → IsCut n x A
exchanged_is_cut n a b A B x e u v apart f = subst (λ (z : ℕ). IsCut n z A) (sym e) (record {
  of_rank = inverse_below n b v.of_rank;
  within = u.within;
  holds = holds_back A (inverse_letter b) f;
  omits = ap (bit_at A) (inverse-inverse b) ∙ omits_back A b (sym (and-on (in_set A b)) ∙ (ap (λ z. in_set A b && z) (sym (holds B b v.holds)) ∙ apart b));
})

-- ---- a way between disjoint cuts
abbrev pub test_of : (n a A : ℕ) → IsCut n a A → IsTest a (in_set A)
test_of n a A u = record { has = holds A a u.holds; lacks = omits A (inverse_letter a) u.omits }

-- A way between disjoint cuts as steps round the peak, with maps of letters as lists of one's own.
abbrev pub way_steps : (N : ℕ) (u : List (List ℕ)) (a : ℕ) (A : ℕ → Bool) (b : ℕ) (B : ℕ → Bool) (c : IsTest a A) (d : IsTest b B) (w : DisjointWay N u a A b B) → AreRanked N w.list →
    LoweredSteps N u (cuts a A c) (cuts b B d)
way_steps N u a A b B c d w ranked = record {
  list = w.list;
  few = omega (arith, w.few);
  ranked = ranked;
  joint = w.joint;
  alike = Alike-agree (substitutions w.list) (undo a A ∷ cutting b B ∷ []) w.same;
  between = w.between;
}

acted-len : (t : TupleData) (a A : ℕ) (u : IsCut t.rank a A) → len (act1 (cutting a (in_set A)) t.words) ≡ tuple_length (act t (cut_move t.rank a A))
acted-len t a A u = ap len (sym (act_kind-step t.rank (cut a A) u t.words)) ∙ len-is (act t (cut_move t.rank a A)).words

-- The length law for the cuts of a rank.
pub cut_law : (t : TupleData) → IsTuple t → (a A : ℕ) → IsCut t.rank a A → tuple_length (act t (cut_move t.rank a A)) + deg a t.words ≡ tuple_length t + cap (in_set A) t.words
cut_law t is a A u = omega (arith, acted-len t a A u, len-is t.words, length_law a (in_set A) (test_of t.rank a A u) t.words (cyclic_words t is))

module _ (t : TupleData) (is : IsTuple t) (low : t.rank ≤ 26) (a b A B : ℕ) (u : IsCut t.rank a A) (v : IsCut t.rank b B) (apart : AreDisjoint A B)
    (peak : IsPeak t (cut_move t.rank a A) (cut_move t.rank b B)) where
  abbrev n : ℕ
  n = t.rank

  abbrev c : IsTest a (in_set A)
  c = test_of t.rank a A u

  abbrev d : IsTest b (in_set B)
  d = test_of t.rank b B v

  less_a : cap (in_set A) t.words ≤ deg a t.words
  less_a = omega (arith, peak.left, cut_law t is a A u)

  less_b : cap (in_set B) t.words ≤ deg b t.words
  less_b = omega (arith, peak.right, cut_law t is b B v)

  less : cap (in_set A) t.words + cap (in_set B) t.words < deg a t.words + deg b t.words
  less = omega (arith, peak.falls, cut_law t is a A u, cut_law t is b B v)

  -- Moves that such a way is lead round the peak.
  by_way : (w : DisjointWay t.rank t.words a (in_set A) b (in_set B)) (ranked : AreRanked t.rank w.list) (ms : List Move) → ms ≡ moves_of t.rank (expand t.rank w.list ranked) →
      IsLowered t (cut_move t.rank a A) (cut_move t.rank b B) ms
  by_way w ranked ms e =
      lowered_by_steps t (cut_move t.rank a A) (cut_move t.rank b B) is (move_of_rank t.rank (cut a A) low u) (move_of_rank t.rank (cut b B) low v) u v
      (way_steps t.rank t.words a (in_set A) b (in_set B) c d w ranked) ms e

  set-is : (x X : ℕ) (test : ℕ → Bool) → IsCut t.rank x X → HasLetters t.rank X test → cut_move t.rank x X ≡ cut_move t.rank x (mask (2 * t.rank) test)
  set-is x X test h l = set_is t.rank x X test h l

  back-is : (x X : ℕ) (test : ℕ → Bool) → IsCut t.rank x X → HasLetters t.rank X test → inverse_move (cut_move t.rank x X) ≡ cut_move t.rank (inverse_letter x) (mask (2 * t.rank) (turned x test))
  back-is x X test h l = back_is t.rank x X test h l

  own : (X : ℕ) → HasLetters t.rank X (in_set X)
  own X y b = refl

  pub row_one : (ms : List Move) (C : ℕ) → b ≡ inverse_letter a → IsCut t.rank (inverse_letter a) C → HasLetters t.rank C (union_without (in_set A) (in_set B) a) →
      ms ≡ cut_move t.rank (inverse_letter a) C ∷ [] → IsLowered t (cut_move t.rank a A) (cut_move t.rank b B) ms
  unfolding way_one
  row_one ms C e h l q =
      let w : DisjointWay t.rank t.words a (in_set A) b (in_set B) = way_one t.rank t.words (cyclic_words t is) a b u.of_rank v.of_rank (in_set A) (in_set B) c d apart less_a less_b less e in
      by_way w w.ranked ms (q ∙ ap (λ (m : Move). m ∷ []) (set-is (inverse_letter a) C (union_without (in_set A) (in_set B) a) h l))

  pub row_two_joined : (ms : List Move) (C : ℕ) → b ≢ inverse_letter a → in_set B (inverse_letter a) ≡ false → in_set A (inverse_letter b) ≡ true → IsCut t.rank a C →
      HasLetters t.rank C (union_without (in_set A) (in_set B) b) → ms ≡ cut_move t.rank b B ∷ inverse_move (cut_move t.rank a C) ∷ [] → IsLowered t (cut_move t.rank a A) (cut_move t.rank b B) ms
  unfolding way_two_joined
  row_two_joined ms C e k f h l q =
      let w : DisjointWay t.rank t.words a (in_set A) b (in_set B) = way_two_joined t.rank t.words (cyclic_words t is) a b u.of_rank v.of_rank (in_set A) (in_set B) c d apart less_a less_b less e k f in
      by_way w w.ranked ms (q ∙ ap₂ (λ (m j : Move). m ∷ j ∷ []) (set-is b B (in_set B) v (own B)) (back-is a C (union_without (in_set A) (in_set B) b) h l))

  pub row_two_apart : (ms : List Move) → b ≢ inverse_letter a → in_set B (inverse_letter a) ≡ false → in_set A (inverse_letter b) ≡ false →
      ms ≡ cut_move t.rank b B ∷ inverse_move (cut_move t.rank a A) ∷ [] → IsLowered t (cut_move t.rank a A) (cut_move t.rank b B) ms
  unfolding way_two_apart
  row_two_apart ms e k f q =
      let w : DisjointWay t.rank t.words a (in_set A) b (in_set B) = way_two_apart t.rank t.words (cyclic_words t is) a b u.of_rank v.of_rank (in_set A) (in_set B) c d apart less_a less_b less e k f in
      by_way w w.ranked ms (q ∙ ap₂ (λ (m j : Move). m ∷ j ∷ []) (set-is b B (in_set B) v (own B)) (back-is a A (in_set A) u (own A)))

  pub row_three : (ms : List Move) (C : ℕ) → b ≢ inverse_letter a → in_set B (inverse_letter a) ≡ true → in_set A (inverse_letter b) ≡ false → IsCut t.rank b C →
      HasLetters t.rank C (union_without (in_set B) (in_set A) a) → ms ≡ cut_move t.rank b C ∷ inverse_move (cut_move t.rank a A) ∷ [] → IsLowered t (cut_move t.rank a A) (cut_move t.rank b B) ms
  unfolding way_three
  row_three ms C e k f h l q =
      let w : DisjointWay t.rank t.words a (in_set A) b (in_set B) = way_three t.rank t.words (cyclic_words t is) a b u.of_rank v.of_rank (in_set A) (in_set B) c d apart less_a less_b less e k f in
      by_way w w.ranked ms (q ∙ ap₂ (λ (m j : Move). m ∷ j ∷ []) (set-is b C (union_without (in_set B) (in_set A) a) h l) (back-is a A (in_set A) u (own A)))

  -- The middle of such a way, as moves.
  turned_expanded : (first last : Kind) (turns ms : List Move) (fm lm : Move) → All (IsTurnOfRank t.rank) turns → ms ≡ fm ∷ (turns ++ lm ∷ []) → fm ≡ record { rank = t.rank; kind = first } → lm ≡ record { rank = t.rank; kind = last } →
      ms ≡ moves_of t.rank (first ∷ (kinds turns ++ last ∷ []))
  turned_expanded first last turns ms fm lm h e ef el =
      e ∙ (ap₂ (λ (m j : Move). m ∷ (turns ++ j ∷ [])) ef el
      ∙ ap (λ (ns : List Move). record { rank = t.rank; kind = first } ∷ ns)
      (ap (λ (ns : List Move). ns ++ record { rank = t.rank; kind = last } ∷ []) (sym (moves_of-kinds t.rank turns h)) ∙ sym (map-append (λ (k : Kind). record { rank = t.rank; kind = k }) (kinds turns) (last ∷ []))))

  pub row_four_a : (ms : List Move) (first last : Move) (C D : ℕ) → b ≢ inverse_letter a → in_set B (inverse_letter a) ≡ true → in_set A (inverse_letter b) ≡ true → cap (in_set A) t.words < deg b t.words →
      C ≡ turned_set a A → IsCut t.rank (inverse_letter b) C → IsCut t.rank b D → HasLetters t.rank D (union_without (in_set A) (in_set B) (inverse_letter b)) →
      first ≡ cut_move t.rank (inverse_letter b) C → last ≡ cut_move t.rank b D →
      IsTurnedWay t.rank first last (carry a (inverse_letter b)) ms → IsLowered t (cut_move t.rank a A) (cut_move t.rank b B) ms
  unfolding way_four_a turned
  row_four_a ms first last C D e k f less' ec hc hd ld ef el way =
      let w : DisjointWay t.rank t.words a (in_set A) b (in_set B) = way_four_a t.rank t.words (cyclic_words t is) a b u.of_rank v.of_rank (in_set A) (in_set B) c d apart less_a less_b less e k f less' in
      let ab : is_of a (inverse_letter b) ≡ false = four-at a b (in_set A) (in_set B) c d apart e k f in
      let lb' : inverse_letter b < 2 * t.rank = inverse_below t.rank b v.of_rank in
      let word : Word t.rank (carry a (inverse_letter b)) = carrying_word t.rank a (inverse_letter b) u.of_rank lb' ab way.turns way.are_turns way.take in
      let back : Word t.rank (carry (inverse_letter b) a) = (carry_ranked t.rank a (inverse_letter b) u.of_rank lb' ab).1 in
      let lc : HasLetters t.rank C (turned a (in_set A)) = λ y l. ap (λ (s : ℕ). in_set s y) ec ∙ turned_is a A u.holds u.omits y in
      by_way w (lb', ((word, back), (v.of_rank, tt))) ms
      (turned_expanded (cut (inverse_letter b) (mask (2 * t.rank) (turned a (in_set A)))) (cut b (mask (2 * t.rank) (union_without (in_set A) (in_set B) (inverse_letter b)))) way.turns ms first last way.are_turns way.is
      (ef ∙ set-is (inverse_letter b) C (turned a (in_set A)) hc lc) (el ∙ set-is b D (union_without (in_set A) (in_set B) (inverse_letter b)) hd ld))

  pub row_four_b : (ms : List Move) (first last : Move) (C D : ℕ) → b ≢ inverse_letter a → in_set B (inverse_letter a) ≡ true → in_set A (inverse_letter b) ≡ true → cap (in_set B) t.words < deg a t.words →
      IsCut t.rank (inverse_letter a) C → HasLetters t.rank C (union_without (in_set A) (in_set B) a) → D ≡ turned_set b B → IsCut t.rank (inverse_letter a) D →
      first ≡ cut_move t.rank (inverse_letter a) C → last ≡ inverse_move (cut_move t.rank (inverse_letter a) D) →
      IsTurnedWay t.rank first last (carry (inverse_letter a) b) ms → IsLowered t (cut_move t.rank a A) (cut_move t.rank b B) ms
  unfolding way_four_b turned
  row_four_b ms first last C D e k f less' hc lc ed hd ef el way =
      let w : DisjointWay t.rank t.words a (in_set A) b (in_set B) = way_four_b t.rank t.words (cyclic_words t is) a b u.of_rank v.of_rank (in_set A) (in_set B) c d apart less_a less_b less e k f less' in
      let ab : is_of (inverse_letter a) b ≡ false = is-back b (inverse_letter a) (four-back a b (in_set A) (in_set B) c d apart e k f) in
      let la' : inverse_letter a < 2 * t.rank = inverse_below t.rank a u.of_rank in
      let word : Word t.rank (carry (inverse_letter a) b) = carrying_word t.rank (inverse_letter a) b la' v.of_rank ab way.turns way.are_turns way.take in
      let back : Word t.rank (carry b (inverse_letter a)) = (carry_ranked t.rank (inverse_letter a) b la' v.of_rank ab).1 in
      let ld : HasLetters t.rank D (turned b (in_set B)) = λ y l. ap (λ (s : ℕ). in_set s y) ed ∙ turned_is b B v.holds v.omits y in
      by_way w (la', ((word, back), (inverse_below t.rank (inverse_letter a) la', tt))) ms
      (turned_expanded (cut (inverse_letter a) (mask (2 * t.rank) (union_without (in_set A) (in_set B) a))) (cut (inverse_letter (inverse_letter a)) (mask (2 * t.rank) (turned (inverse_letter a) (turned b (in_set B))))) way.turns ms first last way.are_turns way.is
      (ef ∙ set-is (inverse_letter a) C (union_without (in_set A) (in_set B) a) hc lc) (el ∙ back-is (inverse_letter a) D (turned b (in_set B)) hd ld))

  -- ---- the cuts on these ways
  cut_of : (x X : ℕ) (test : ℕ → Bool) → x < 2 * t.rank → X < 2 ^ (2 * t.rank) → HasLetters t.rank X test → IsTest x test → IsCut t.rank x X
  cut_of x X test l w h k = record {
    of_rank = l;
    within = w;
    holds = holds_back X x (h x l ∙ k.has);
    omits = omits_back X (inverse_letter x) (h (inverse_letter x) (inverse_below t.rank x l) ∙ k.lacks);
  }

  pub united_cut : (C : ℕ) → b ≡ inverse_letter a → C < 2 ^ (2 * t.rank) → HasLetters t.rank C (union_without (in_set A) (in_set B) a) → IsCut t.rank (inverse_letter a) C
  united_cut C e w h = cut_of (inverse_letter a) C (union_without (in_set A) (in_set B) a) (inverse_below t.rank a u.of_rank) w h (one_cut a b (in_set A) (in_set B) c d apart e)

  pub joined_cut : (C : ℕ) → in_set B (inverse_letter a) ≡ false → C < 2 ^ (2 * t.rank) → HasLetters t.rank C (union_without (in_set A) (in_set B) b) → IsCut t.rank a C
  unfolding union_without
  joined_cut C k w h = cut_of a C (union_without (in_set A) (in_set B) b) u.of_rank w h (record { has = grind (arith, c.has, d.has, apart a, nat_tests); lacks = grind (arith, c.lacks, k) })

  pub before_cut : (C : ℕ) → b ≢ inverse_letter a → in_set A (inverse_letter b) ≡ false → C < 2 ^ (2 * t.rank) → HasLetters t.rank C (union_without (in_set B) (in_set A) a) → IsCut t.rank b C
  before_cut C e f w h = cut_of b C (union_without (in_set B) (in_set A) a) v.of_rank w h (three_cut a b (in_set A) (in_set B) c d apart e f)

  module _ (e : b ≢ inverse_letter a) (k : in_set B (inverse_letter a) ≡ true) (f : in_set A (inverse_letter b) ≡ true) where
    pub exchanged_cut : IsCut t.rank (inverse_letter b) A
    exchanged_cut = cut_of (inverse_letter b) A (in_set A) (inverse_below t.rank b v.of_rank) u.within (own A) (four-γ a b (in_set A) (in_set B) c d apart e k f)

    pub out_cut : (C : ℕ) → C ≡ turned_set a A → IsCut t.rank (inverse_letter b) C
    out_cut C q = cut_of (inverse_letter b) C (turned a (in_set A)) (inverse_below t.rank b v.of_rank) (omega (arith, q, (inverse_is_kind t.rank (cut a A) u).within))
        (λ y l. ap (λ (s : ℕ). in_set s y) q ∙ turned_is a A u.holds u.omits y) (four_a_first a b (in_set A) (in_set B) c d apart e k f)

    pub into_cut : (D : ℕ) → D < 2 ^ (2 * t.rank) → HasLetters t.rank D (union_without (in_set A) (in_set B) (inverse_letter b)) → IsCut t.rank b D
    into_cut D w h = cut_of b D (union_without (in_set A) (in_set B) (inverse_letter b)) v.of_rank w h (four_a_last a b (in_set A) (in_set B) c d apart e k f)

    pub out_cut_back : (C : ℕ) → C < 2 ^ (2 * t.rank) → HasLetters t.rank C (union_without (in_set A) (in_set B) a) → IsCut t.rank (inverse_letter a) C
    out_cut_back C w h = cut_of (inverse_letter a) C (union_without (in_set A) (in_set B) a) (inverse_below t.rank a u.of_rank) w h (four_b_first a b (in_set A) (in_set B) c d apart e k f)

    turned_b : IsTest (inverse_letter a) (turned b (in_set B))
    turned_b =
        let g : IsTest (inverse_letter a) (in_set B) = four-γ' a b (in_set A) (in_set B) c d apart e k f in
        let o : is_of b (inverse_letter a) ≡ false = four-back a b (in_set A) (in_set B) c d apart e k f in
        record {
          has = turned-away b (in_set B) (inverse_letter a) o ∙ g.has;
          lacks = ap (turned b (in_set B)) (inverse-inverse a) ∙ (turned-away b (in_set B) a (sym (is-turn b a) ∙ o) ∙ (ap (in_set B) (sym (inverse-inverse a)) ∙ g.lacks));
        }

    pub into_cut_back : (D : ℕ) → D ≡ turned_set b B → IsCut t.rank (inverse_letter a) D
    into_cut_back D q = cut_of (inverse_letter a) D (turned b (in_set B)) (inverse_below t.rank a u.of_rank) (omega (arith, q, (inverse_is_kind t.rank (cut b B) v).within))
        (λ y l. ap (λ (s : ℕ). in_set s y) q ∙ turned_is b B v.holds v.omits y) turned_b

    -- Which of the two ways serves.
    pub first_less : tuple_length (act t (cut_move t.rank (inverse_letter b) A)) < tuple_length t → cap (in_set A) t.words < deg b t.words
    first_less l = omega (arith, l, cut_law t is (inverse_letter b) A exchanged_cut, deg-inverse b t.words)

    pub second_less : tuple_length t ≤ tuple_length (act t (cut_move t.rank (inverse_letter b) A)) → cap (in_set B) t.words < deg a t.words
    second_less l = omega (arith, l, cut_law t is (inverse_letter b) A exchanged_cut, deg-inverse b t.words, less)

    pub first_apart : a / 2 ≢ inverse_letter b / 2
    first_apart q = half_off a (inverse_letter b) (four-at a b (in_set A) (in_set B) c d apart e k f) (sym q)

    pub second_apart : inverse_letter a / 2 ≢ b / 2
    second_apart = half_off b (inverse_letter a) (four-back a b (in_set A) (in_set B) c d apart e k f)

    -- The two ways as the program makes them: r is the rank and x a letter that it reads.
    pub row_first : (ms : List Move) (first last : Move) (r x C D : ℕ) → r ≡ t.rank → x ≡ inverse_letter b → C ≡ turned_set a A → D < 2 ^ (2 * r) → HasLetters r D (union_without (in_set A) (in_set B) x) →
        first ≡ cut_move r x C → last ≡ cut_move r b D → IsTurnedWay r first last (carry a x) ms → tuple_length (act t (cut_move t.rank (inverse_letter b) A)) < tuple_length t →
        IsLowered t (cut_move t.rank a A) (cut_move t.rank b B) ms
    row_first ms first last r x C D er ex ec wd ld ef el way short =
        let ld' : HasLetters t.rank D (union_without (in_set A) (in_set B) (inverse_letter b)) =
        subst (λ (z : ℕ). HasLetters t.rank D (union_without (in_set A) (in_set B) z)) ex (subst (λ (z : ℕ). HasLetters z D (union_without (in_set A) (in_set B) x)) er ld) in
        row_four_a ms first last C D e k f (first_less short) ec (out_cut C ec) (into_cut D (subst (λ (z : ℕ). D < 2 ^ (2 * z)) er wd) ld') ld'
        (ef ∙ ap₂ (λ (y z : ℕ). cut_move y z C) er ex) (el ∙ ap (λ (z : ℕ). cut_move z b D) er)
        (subst (λ (z : ℕ). IsTurnedWay t.rank first last (carry a z) ms) ex (subst (λ (z : ℕ). IsTurnedWay z first last (carry a x) ms) er way))

    pub row_second : (ms : List Move) (first into last : Move) (r x C D : ℕ) → r ≡ t.rank → x ≡ inverse_letter a → C < 2 ^ (2 * r) → HasLetters r C (union_without (in_set A) (in_set B) a) → D ≡ turned_set b B →
        first ≡ cut_move r x C → into ≡ cut_move r x D → last ≡ inverse_move into → IsTurnedWay r first last (carry x b) ms → tuple_length t ≤ tuple_length (act t (cut_move t.rank (inverse_letter b) A)) →
        IsLowered t (cut_move t.rank a A) (cut_move t.rank b B) ms
    row_second ms first into last r x C D er ex wc lc ed ef ei el way long =
        let lc' : HasLetters t.rank C (union_without (in_set A) (in_set B) a) = subst (λ (z : ℕ). HasLetters z C (union_without (in_set A) (in_set B) a)) er lc in
        row_four_b ms first last C D e k f (second_less long) (out_cut_back C (subst (λ (z : ℕ). C < 2 ^ (2 * z)) er wc) lc') lc' ed (into_cut_back D ed)
        (ef ∙ ap₂ (λ (y z : ℕ). cut_move y z C) er ex) (el ∙ ap inverse_move (ei ∙ ap₂ (λ (y z : ℕ). cut_move y z D) er ex))
        (subst (λ (z : ℕ). IsTurnedWay t.rank first last (carry z b) ms) ex (subst (λ (z : ℕ). IsTurnedWay z first last (carry x b) ms) er way))

    -- The cuts of the two ways, where the program reads the rank.
    pub out_made : (r x C : ℕ) → r ≡ t.rank → x ≡ inverse_letter b → C ≡ turned_set a A → IsCut r x C
    out_made r x C er ex ec = subst (λ (z : ℕ). IsCut z x C) (sym er) (subst (λ (z : ℕ). IsCut t.rank z C) (sym ex) (out_cut C ec))

    pub into_made : (r x D : ℕ) → r ≡ t.rank → x ≡ inverse_letter b → D < 2 ^ (2 * r) → HasLetters r D (union_without (in_set A) (in_set B) x) → IsCut r b D
    into_made r x D er ex wd ld = subst (λ (z : ℕ). IsCut z b D) (sym er) (into_cut D (subst (λ (z : ℕ). D < 2 ^ (2 * z)) er wd)
        (subst (λ (z : ℕ). HasLetters t.rank D (union_without (in_set A) (in_set B) z)) ex (subst (λ (z : ℕ). HasLetters z D (union_without (in_set A) (in_set B) x)) er ld)))

    pub out_made_back : (r x C : ℕ) → r ≡ t.rank → x ≡ inverse_letter a → C < 2 ^ (2 * r) → HasLetters r C (union_without (in_set A) (in_set B) a) → IsCut r x C
    out_made_back r x C er ex wc lc = subst (λ (z : ℕ). IsCut z x C) (sym er) (subst (λ (z : ℕ). IsCut t.rank z C) (sym ex)
        (out_cut_back C (subst (λ (z : ℕ). C < 2 ^ (2 * z)) er wc) (subst (λ (z : ℕ). HasLetters z C (union_without (in_set A) (in_set B) a)) er lc)))

    pub into_made_back : (r x D : ℕ) → r ≡ t.rank → x ≡ inverse_letter a → D ≡ turned_set b B → IsCut r x D
    into_made_back r x D er ex ed = subst (λ (z : ℕ). IsCut z x D) (sym er) (subst (λ (z : ℕ). IsCut t.rank z D) (sym ex) (into_cut_back D ed))
