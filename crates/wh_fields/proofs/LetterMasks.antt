-- Reading the letters of a set one after another: for the loop over the bytes of a cut's set.
use Rattle.std.proofs.Common.{◌≡◌, ℕ, ◌+◌, ◌*◌, ◌^◌, ◌<◌, ◌≤◌, ◌==◌, Bool, true, false, cond, List, [], ◌∷◌, length, get_or, drop, refl, sym, ap, ◌∙◌, arith, None, Some, inl, inr}
use Rattle.std.specs.Prelude.{leb, bit_or, ◌↔◌, IsNone, IfSome}
use Rattle.std.specs.Int.{bit_at}
use Rattle.std.specs.declared.option.Option.{Option}
use Rattle.std.specs.Option.{option_and_then}
use Rattle.std.proofs.Math.Pow.{pow-lt}
use Rattle.std.proofs.lemmas.Nat.{or_lt}
use Rattle.std.proofs.lemmas.Nat.Bits.{bit_at-lt, bit_at_above}
use Rattle.std.proofs.lemmas.List.{drop_more, drop_all}
use Rattle.std.proofs.lemmas.Option.{option_and_then_some}
use Rattle.std.proofs.lemmas.Bool.{cases_Bool, cases_lt, eqb-true, false≢true}
use Rattle.wh_words.specs.Letters.{inverse_letter}
use Rattle.wh_words.specs.Moves.{Move, Kind, IsCut, cut_move}
use Rattle.wh_words.specs.Moves.Kind.{cut}
use Rattle.wh_fields.specs.Words.{letter_of}
use Rattle.wh_fields.specs.MoveFields.{letter_from, set_from, cut_with, move_with}
use Rattle.wh_fields.proofs.WordReadings.{letter_is}
use Rattle.wh_lines.proofs.Scanning.{eq_true}

set_step : (n set least : ℕ) (bs : List ℕ) (i b : ℕ) → i < length bs → b ≡ get_or bs i b →
    set_from n set least (drop i bs) ≡ option_and_then (λ x. set_from n (bit_or set (2 ^ x)) (x + 1) (drop (i + 1) bs)) (letter_from least (letter_of n b))
unfolding set_from
set_step n set least bs i b l is =
    ap (set_from n set least) (drop_more bs i b l)
    ∙ ap (λ d. option_and_then (λ x. set_from n (bit_or set (2 ^ x)) (x + 1) (drop (i + 1) bs)) (letter_from least (letter_of n d))) (sym is)

pub set_more : (n set least : ℕ) (bs : List ℕ) (i b x : ℕ) → i < length bs → b ≡ get_or bs i b → Some x ≡ letter_from least (letter_of n b) →
    set_from n set least (drop i bs) ≡ set_from n 0 0 bs → set_from n (bit_or set (2 ^ x)) (x + 1) (drop (i + 1) bs) ≡ set_from n 0 0 bs
set_more n set least bs i b x l is e h =
    ap (option_and_then (λ x. set_from n (bit_or set (2 ^ x)) (x + 1) (drop (i + 1) bs))) e ∙ sym (set_step n set least bs i b l is) ∙ h

pub set_none : (n set least : ℕ) (bs : List ℕ) (i b : ℕ) → i < length bs → b ≡ get_or bs i b → None ≡ letter_from least (letter_of n b) →
    set_from n set least (drop i bs) ≡ set_from n 0 0 bs → None ≡ set_from n 0 0 bs
set_none n set least bs i b l is e h =
    ap (option_and_then (λ x. set_from n (bit_or set (2 ^ x)) (x + 1) (drop (i + 1) bs))) e ∙ sym (set_step n set least bs i b l is) ∙ h

pub set_end : (n set least : ℕ) (bs : List ℕ) (i : ℕ) → length bs ≤ i → set_from n set least (drop i bs) ≡ set_from n 0 0 bs → Some set ≡ set_from n 0 0 bs
unfolding set_from
set_end n set least bs i l h = sym (ap (set_from n set least) (drop_all i bs l)) ∙ h

-- ---- the mask that was read
letter_told : (least : ℕ) (o : Option ℕ) (x : ℕ) → letter_from least o ≡ Some x → o ≡ Some x
letter_told least None x e = absurd (cc)
letter_told least (Some y) x e = told (leb least y) e
  where
    told : (t : Bool) → cond t (Some y) None ≡ Some x → Some y ≡ Some x
    told true e = e
    told false e = absurd (cc)

-- it has letters of the rank alone
pub mask_within : (n set least : ℕ) (bs : List ℕ) (m : ℕ) → n ≤ 26 → set < 2 ^ (2 * n) → set_from n set least bs ≡ Some m → m < 2 ^ (2 * n)
unfolding set_from
mask_within n set least [] m h lt e = let same : set ≡ m = (cc) in omega (arith, same, lt)
mask_within n set least (b ∷ bs) m h lt e =
    option_and_then_some (λ x. set_from n (bit_or set (2 ^ x)) (x + 1) bs) (letter_from least (letter_of n b)) m e
    (λ x told rest. mask_within n (bit_or set (2 ^ x)) (x + 1) bs m h (or_lt (2 * n) set (2 ^ x) lt (pow-lt (letter_is n b x h (letter_told least (letter_of n b) x told)).1)) rest)

-- ---- the cut of a mask
not_cut : (n a set : ℕ) (o : Option Move) (v : Option Kind) → ¬ (IsCut n a set) → (IsNone o ↔ ¬ (IsCut n a set)) → v ≡ None → o ≡ move_with n v
not_cut n a set None v apart made e = ap (move_with n) (sym e)
not_cut n a set (Some m) v apart made e = absurd (false≢true (sym (made.1 apart)))

is_cut : (n a set : ℕ) (o : Option Move) (v : Option Kind) → IsCut n a set → (IsNone o ↔ ¬ (IsCut n a set)) → IfSome o (λ m. m ≡ cut_move n a set) → v ≡ Some (cut a set) → o ≡ move_with n v
is_cut n a set None v is made what e = absurd (made.0 refl is)
is_cut n a set (Some m) v is made what e = ap (λ u. Some u) what ∙ ap (move_with n) (sym e)

-- a number below 2 ^ k has its bits below k
below_bits : (k i n : ℕ) → n < 2 ^ k → bit_at n i ≡ 1 → i < k
below_bits k i n below is = elim (cases_lt i k) [
  | inl less ↦ less
  | inr above ↦ absurd (omega (arith, is, bit_at_above n k i below above))
]

-- the cut of a multiplier and a mask is what the test of the two says
pub cut_is : (n a set : ℕ) (o : Option Move) → set < 2 ^ (2 * n) → (IsNone o ↔ ¬ (IsCut n a set)) → IfSome o (λ m. m ≡ cut_move n a set) → o ≡ move_with n (cut_with a (Some set))
cut_is n a set o below made what = elim (cases_Bool (bit_at set a == 1)) [
  | inl s ↦ elim (cases_Bool (bit_at set (inverse_letter a) == 1)) [
    | inl t ↦ not_cut n a set o (cut_with a (Some set)) (λ is. omega (arith, is.omits, eqb-true (bit_at set (inverse_letter a)) 1 t)) made (rw (s, t) refl)
    | inr f ↦ (let holds : bit_at set a ≡ 1 = eqb-true (bit_at set a) 1 s in
        is_cut n a set o (cut_with a (Some set))
        (record {
          of_rank = below_bits (2 * n) a set below holds;
          within = below;
          holds = holds;
          omits = grind (arith, bit_at-lt set (inverse_letter a), λ (e : bit_at set (inverse_letter a) ≡ 1). false≢true (sym f ∙ eq_true (bit_at set (inverse_letter a)) 1 e));
        }) made what (rw (s, f) refl))
  ]
  | inr f ↦ not_cut n a set o (cut_with a (Some set)) (λ is. false≢true (sym f ∙ eq_true (bit_at set a) 1 is.holds)) made (rw f refl)
]
