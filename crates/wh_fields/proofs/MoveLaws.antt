-- A move is read exactly from the fields that spell it: for the law on moves.
use Rattle.std.proofs.Common.{◌≡◌, ℕ, suc, ◌+◌, ◌*◌, ◌^◌, ◌<◌, ◌≤◌, ◌==◌, ltb, Bool, true, false, cond, List, [], ◌∷◌, ◌++◌, map, bit_or, refl, sym, ap, ◌∙◌, subst, arith, None, Some, Ok, Err, inl, inr, pow_mono, pow-suc, lt_of_lt_of_le}
use Rattle.std.specs.Prelude.{◌&&◌, leb, not, codes, decimal}
use Rattle.std.specs.declared.option.Option.{Option}
use Rattle.std.specs.Option.{option_and_then}
use Rattle.std.specs.Int.{bit_at}
use Rattle.std.specs.Int.Bits.{or_shifted_r}
use Rattle.std.proofs.lemmas.Nat.Bits.{bit_at-lt}
use Rattle.std.specs.List.{All}
use Rattle.std.proofs.lemmas.List.Elements.{All-nil, All-cons, All-head, All-tail}
use Rattle.std.proofs.lemmas.Bool.{cond-true, eqb-true, eqb-false}
use Rattle.std.proofs.lemmas.Bool.Decides.{nat_tests}
use Rattle.std.proofs.lemmas.Option.{option_and_then_some}
use Rattle.wh_words.specs.Letters.{inverse_letter}
use Rattle.wh_words.specs.LetterSets.{in_set}
use Rattle.wh_words.specs.Moves.{Kind, IsKind}
use Rattle.wh_words.specs.Moves.Kind.{swap, invert, cut}
use Rattle.wh_lines.specs.declared.read_error.ReadError.TheVariants as errors
use Rattle.wh_lines.specs.Readings.{◌>>=◌, items_at}
use Rattle.wh_lines.specs.Numbers.{number}
use Rattle.wh_lines.proofs.NumberLaws.{reads_numbers}
use Rattle.wh_fields.specs.Words.{letter_of, letter_text}
use Rattle.wh_fields.specs.MoveFields.{letter_from, set_from, swap_of, invert_of, cut_with, cut_of, kind_from, kind_in, move_with, or_bad_move, move_at, moves_at}
use Rattle.wh_fields.specs.Laws.{RisesFrom, set_of, IsMoveField, ReadsMoves, IsFirstBadMove, NamesTheFirstBadMove}
use Rattle.wh_fields.specs.Laws.IsMoveField.{a_swap, an_inversion, a_cut}
use Rattle.wh_lines.proofs.Equations.{bind_err, some_is}
use Rattle.wh_fields.proofs.WordReadings.{letter_is}
use Rattle.wh_fields.proofs.WordLaws.{letter_back}
use Rattle.wh_fields.proofs.ReadMoves.{number_kind}

-- ---- sets
-- one letter more, above all others
or_more : (set x i : ℕ) → set < 2 ^ i → i ≤ x → bit_or set (2 ^ x) ≡ set + 2 ^ x
or_more set x i h l =
    let below : set < 2 ^ x = lt_of_lt_of_le h (pow_mono l) in
    ap (bit_or set) (omega arith) ∙ or_shifted_r 1 x set below ∙ omega arith

sum_below : (set x i : ℕ) → set < 2 ^ i → i ≤ x → set + 2 ^ x < 2 ^ (x + 1)
sum_below set x i h l =
    let below : set < 2 ^ x = lt_of_lt_of_le h (pow_mono l) in
    let plus : x + 1 ≡ suc x = omega arith in
    let double : 2 ^ (x + 1) ≡ 2 ^ x + 2 ^ x = ap (λ k. 2 ^ k) plus ∙ pow-suc 2 x ∙ omega arith in
    omega (arith, below, double)

letter_told : (least : ℕ) (o : Option ℕ) (x : ℕ) → letter_from least o ≡ Some x → (o ≡ Some x) × (least ≤ x)
letter_told least None x e = absurd (cc)
letter_told least (Some y) x e = told (leb least y) refl e
  where
    told : (t : Bool) → leb least y ≡ t → cond t (Some y) None ≡ Some x → (Some y ≡ Some x) × (least ≤ x)
    told true t e = (e, (let same : y ≡ x = some_is y x e in let low : least ≤ y = grind (arith, nat_tests) in omega (arith, same, low)))
    told false t e = absurd (cc)

-- the letters that were read
record LettersOf (n least m : ℕ) (bs : List ℕ) (set : ℕ) : Type 0 where
  letters : List ℕ
  of_rank : All (λ x. x < 2 * n) letters
  rise : RisesFrom least letters
  spelled : bs ≡ map letter_text letters
  total : set ≡ m + set_of letters

letters_of : (n m least : ℕ) (bs : List ℕ) (set : ℕ) → n ≤ 26 → m < 2 ^ least → set_from n m least bs ≡ Some set → LettersOf n least m bs set
unfolding set_from
letters_of n m least [] set h l e = record { letters = []; of_rank = All-nil (λ x. x < 2 * n); rise = tt; spelled = refl; total = sym (some_is m set e) ∙ omega arith }
letters_of n m least (b ∷ bs) set h l e =
    option_and_then_some (λ x. set_from n (bit_or m (2 ^ x)) (x + 1) bs) (letter_from least (letter_of n b)) set e
    (λ x told rest.
    let p = letter_told least (letter_of n b) x told in
    let is = letter_is n b x h p.0 in
    let sum = or_more m x least l p.1 in
    let below : bit_or m (2 ^ x) < 2 ^ (x + 1) = subst (λ (v : ℕ). v < 2 ^ (x + 1)) (sym sum) (sum_below m x least l p.1) in
    let r = letters_of n (bit_or m (2 ^ x)) (x + 1) bs set h below rest in
    record {
      letters = x ∷ r.letters;
      of_rank = All-cons (λ x. x < 2 * n) x r.letters is.1 r.of_rank;
      rise = (p.1, r.rise);
      spelled = ap (λ d. d ∷ bs) is.0 ∙ ap (λ ds. letter_text x ∷ ds) r.spelled;
      total = omega (arith, r.total, sum);
    })

letters_back : (n m least : ℕ) (xs : List ℕ) → n ≤ 26 → m < 2 ^ least → All (λ x. x < 2 * n) xs → RisesFrom least xs → set_from n m least (map letter_text xs) ≡ Some (m + set_of xs)
unfolding set_from
letters_back n m least [] h l a r = ap (λ v. Some v) (omega arith)
letters_back n m least (x ∷ xs) h l a r =
    let within = All-head (λ x. x < 2 * n) x xs a in
    let sum = or_more m x least l r.0 in
    let below : bit_or m (2 ^ x) < 2 ^ (x + 1) = subst (λ (v : ℕ). v < 2 ^ (x + 1)) (sym sum) (sum_below m x least l r.0) in
    ap (λ o. option_and_then (λ y. set_from n (bit_or m (2 ^ y)) (y + 1) (map letter_text xs)) (letter_from least o)) (letter_back n x h within)
    ∙ ap (option_and_then (λ y. set_from n (bit_or m (2 ^ y)) (y + 1) (map letter_text xs))) (cond-true (leb least x) (Some x) None (grind (arith, nat_tests)))
    ∙ letters_back n (bit_or m (2 ^ x)) (x + 1) xs h below (All-tail (λ x. x < 2 * n) x xs a) r.1
    ∙ ap (λ v. Some v) (omega (arith, sum))

-- ---- cuts
cut_told : (a : ℕ) (o : Option ℕ) (k : Kind) → cut_with a o ≡ Some k → (set : ℕ) × (o ≡ Some set) × (k ≡ cut a set) × (in_set set a ≡ true) × (in_set set (inverse_letter a) ≡ false)
cut_told a None k e = absurd (cc)
cut_told a (Some set) k e = by (in_set set a) (in_set set (inverse_letter a)) refl refl e
  where
    by : (s t : Bool) → in_set set a ≡ s → in_set set (inverse_letter a) ≡ t → cond (s && not t) (Some (cut a set)) None ≡ Some k → (v : ℕ) × (Some set ≡ Some v) × (k ≡ cut a v) × (in_set v a ≡ true) × (in_set v (inverse_letter a) ≡ false)
    by true false p q e = (set, refl, sym (some_is (cut a set) k e), p, q)
    by true true p q e = absurd (cc)
    by false t p q e = absurd (cc)

cut_from : (n : ℕ) (b : ℕ) (ds : List ℕ) (o : Option ℕ) (k : Kind) → n ≤ 26 → letter_of n b ≡ o → cut_of n ds o ≡ Some k → IsMoveField n (b ∷ codes ":" ++ ds) k
cut_from n b ds None k h o e = absurd (cc)
cut_from n b ds (Some a) k h o e =
    let c = cut_told a (set_from n 0 0 ds) k e in
    let is = letter_is n b a h o in
    let r = letters_of n 0 0 ds c.0 h (omega arith) c.1 in
    let same : set_of r.letters ≡ c.0 = omega (arith, r.total) in
    a_cut a r.letters is.1 r.of_rank r.rise
    (ap (λ s. in_set s a) same ∙ c.3) (ap (λ s. in_set s (inverse_letter a)) same ∙ c.4)
    (ap (λ d. d ∷ codes ":" ++ ds) is.0 ∙ ap (λ v. letter_text a ∷ codes ":" ++ v) r.spelled)
    (c.2 ∙ ap (cut a) (sym same))

-- ---- numbers
swap_told : (n : ℕ) (o : Option ℕ) (kind : Kind) → swap_of n o ≡ Some kind → (k : ℕ) × (o ≡ Some k) × (0 < k) × (k < n) × (kind ≡ swap k)
swap_told n None kind e = absurd (cc)
swap_told n (Some k) kind e = by (ltb 0 k && ltb k n) refl e
  where
    by : (t : Bool) → (ltb 0 k && ltb k n) ≡ t → cond t (Some (swap k)) None ≡ Some kind → (j : ℕ) × (Some k ≡ Some j) × (0 < j) × (j < n) × (kind ≡ swap j)
    by true t e = (k, refl, grind (arith, nat_tests), grind (arith, nat_tests), sym (some_is (swap k) kind e))
    by false t e = absurd (cc)

invert_told : (n : ℕ) (o : Option ℕ) (kind : Kind) → invert_of n o ≡ Some kind → (k : ℕ) × (o ≡ Some k) × (0 < k) × (k ≤ n) × (kind ≡ invert k)
invert_told n None kind e = absurd (cc)
invert_told n (Some k) kind e = by (ltb 0 k && leb k n) refl e
  where
    by : (t : Bool) → (ltb 0 k && leb k n) ≡ t → cond t (Some (invert k)) None ≡ Some kind → (j : ℕ) × (Some k ≡ Some j) × (0 < j) × (j ≤ n) × (kind ≡ invert j)
    by true t e = (k, refl, grind (arith, nat_tests), grind (arith, nat_tests), sym (some_is (invert k) kind e))
    by false t e = absurd (cc)

-- ---- kinds
kind_told : (n b d : ℕ) (ds : List ℕ) (kind : Kind) → n ≤ 26 → kind_from n b (d ∷ ds) ≡ Some kind → IsMoveField n (b ∷ d ∷ ds) kind
kind_told n b d ds kind h e = by (d == 58) (b == 115) (b == 105) (λ t. eqb-true d 58 t) (λ t. eqb-true b 115 t) (λ t. eqb-true b 105 t) e
  where
    by : (s t u : Bool) → (s ≡ true → d ≡ 58) → (t ≡ true → b ≡ 115) → (u ≡ true → b ≡ 105) →
        cond s (cut_of n ds (letter_of n b)) (cond t (swap_of n (number (d ∷ ds))) (cond u (invert_of n (number (d ∷ ds))) None)) ≡ Some kind → IsMoveField n (b ∷ d ∷ ds) kind
    by true t u colon _ _ e = subst (λ (v : ℕ). IsMoveField n (b ∷ v ∷ ds) kind) (sym (colon refl)) (cut_from n b ds (letter_of n b) kind h refl e)
    by false true u _ is _ e =
        let p = swap_told n (number (d ∷ ds)) kind e in
        a_swap p.0 p.2 p.3 (ap (λ v. v ∷ d ∷ ds) (is refl) ∙ ap (λ v. 115 ∷ v) ((reads_numbers (d ∷ ds) p.0).0 p.1).0) p.4
    by false false true _ _ is e =
        let p = invert_told n (number (d ∷ ds)) kind e in
        an_inversion p.0 p.2 p.3 (ap (λ v. v ∷ d ∷ ds) (is refl) ∙ ap (λ v. 105 ∷ v) ((reads_numbers (d ∷ ds) p.0).0 p.1).0) p.4
    by false false false _ _ _ e = absurd (cc)

move_is : (n : ℕ) (f : List ℕ) (kind : Kind) → n ≤ 26 → kind_in n f ≡ Some kind → IsMoveField n f kind
unfolding kind_in
move_is n [] kind h e = absurd (cc)
move_is n (b ∷ []) kind h e = absurd (cc)
move_is n (b ∷ d ∷ ds) kind h e = kind_told n b d ds kind h e

move_back : (n : ℕ) (f : List ℕ) (kind : Kind) → n ≤ 26 → IsMoveField n f kind → kind_in n f ≡ Some kind
unfolding kind_in
move_back n f kind h (a_swap k some low spelled is) =
    ap (kind_in n) spelled ∙ number_kind n 115 k (decimal k) refl (omega (arith, h, low)) ∙ cond-true (ltb 0 k && ltb k n) (Some (swap k)) None (grind (arith, nat_tests)) ∙ ap (λ v. Some v) (sym is)
move_back n f kind h (an_inversion k some low spelled is) =
    ap (kind_in n) spelled ∙ number_kind n 105 k (decimal k) refl (omega (arith, h, low)) ∙ cond-true (ltb 0 k && leb k n) (Some (invert k)) None (grind (arith, nat_tests)) ∙ ap (λ v. Some v) (sym is)
move_back n f kind h (a_cut a xs within of_rank rise holds omits spelled is) =
    ap (kind_in n) spelled
    ∙ ap (cut_of n (map letter_text xs)) (letter_back n a h within)
    ∙ ap (cut_with a) (letters_back n 0 0 xs h (omega arith) of_rank rise ∙ ap (λ v. Some v) (omega arith))
    ∙ cond-true (in_set (set_of xs) a && not (in_set (set_of xs) (inverse_letter a))) (Some (cut a (set_of xs))) None
    (ap (λ t. t && not (in_set (set_of xs) (inverse_letter a))) holds ∙ ap not omits)
    ∙ ap (λ v. Some v) (sym is)

pub reads_moves : ReadsMoves
reads_moves n f kind h = (move_is n f kind h, move_back n f kind h)

-- ---- the first field that is no move
move_fault : (n l c column : ℕ) (o : Option Kind) → or_bad_move l c (move_with n o) ≡ Err (errors.BadMove l column) → (o ≡ None) × (column ≡ c)
move_fault n l c column None e = (refl, (cc))
move_fault n l c column (Some k) e = absurd (cc)

pub first_bad_move : NamesTheFirstBadMove
unfolding items_at
first_bad_move n l column [] e = absurd (cc)
first_bad_move n l column (f ∷ fs) e =
    elim (bind_err (move_at n l f) (λ m. moves_at n l fs >>= λ ms. Ok (m ∷ ms)) (errors.BadMove l column) e) [
      | inl here ↦ (let p = move_fault n l f.column column (kind_in n f.bytes) here in
          record { prefix = []; bad = f; suffix = fs; parts = refl; place = p.1; moves = []; read = refl; is_bad = p.0 })
      | inr there ↦ elim (bind_err (moves_at n l fs) (λ ms. Ok (there.0 ∷ ms)) (errors.BadMove l column) there.2) [
        | inl later ↦ (let q : IsFirstBadMove n l fs column = first_bad_move n l column fs later in
            record { prefix = f ∷ q.prefix; bad = q.bad; suffix = q.suffix; parts = ap (λ v. f ∷ v) q.parts; place = q.place; moves = there.0 ∷ q.moves; read = rw (there.1, q.read) refl; is_bad = q.is_bad })
        | inr never ↦ absurd (cc)
      ]
    ]

-- ---- what is spelled is a kind of move
-- letters that rise make a set of the first letters
set_within : (m least : ℕ) (xs : List ℕ) → All (λ x. x < m) xs → RisesFrom least xs → least ≤ m → set_of xs + 2 ^ least ≤ 2 ^ m
set_within m least [] a r h = let low : 2 ^ least ≤ 2 ^ m = pow_mono h in omega (arith, low)
set_within m least (x ∷ xs) a r h =
    let below : x + 1 ≤ m = omega (arith, All-head (λ x. x < m) x xs a) in
    let rest = set_within m (x + 1) xs (All-tail (λ x. x < m) x xs a) r.1 below in
    let plus : x + 1 ≡ suc x = omega arith in
    let double : 2 ^ (x + 1) ≡ 2 ^ x + 2 ^ x = ap (λ k. 2 ^ k) plus ∙ pow-suc 2 x ∙ omega arith in
    let low : 2 ^ least ≤ 2 ^ x = pow_mono r.0 in
    omega (arith, rest, double, low)

pub spelled_kind : (n : ℕ) (f : List ℕ) (kind : Kind) → IsMoveField n f kind → IsKind n kind
spelled_kind n f kind (a_swap k some h e same) = subst (IsKind n) (sym same) (some, h)
spelled_kind n f kind (an_inversion k some h e same) = subst (IsKind n) (sym same) (some, h)
spelled_kind n f kind (a_cut a xs within of_rank rise holds omits e same) =
    let not_one : bit_at (set_of xs) (inverse_letter a) ≡ 1 → ⊥ = eqb-false (bit_at (set_of xs) (inverse_letter a)) 1 omits in
    subst (IsKind n) (sym same) (record {
      of_rank = within;
      within = omega (arith, set_within (2 * n) 0 xs of_rank rise (omega arith));
      holds = eqb-true (bit_at (set_of xs) a) 1 holds;
      omits = omega (arith, bit_at-lt (set_of xs) (inverse_letter a), not_one);
    })
