-- The sets that hold a multiplier and omit its inverse. With the letters before the two in all ways they make a run of sets one after another, and one run in each block of four.
use Rattle.std.proofs.Common.{◌≡◌, ℕ, suc, ◌+◌, ◌-◌, ◌*◌, ◌/◌, ◌%◌, ◌^◌, ◌<◌, ◌≤◌, sym, ap, ◌∙◌, inl, inr, ◌⊎◌, arith}
use Rattle.std.specs.Int.{bit_at}
use Rattle.std.proofs.lemmas.Bool.{cases_eq}
use Rattle.std.proofs.Math.Nat.{mul-div_left, mul-le-mul_left}
use Rattle.std.proofs.lemmas.Nat.{shr_split, mod_below, div_below, le-div, pow-add, pow_pos}
use Rattle.std.proofs.lemmas.Nat.Bits.{bit_at_cat_high, bit_at_lowest, bit_at-suc}
use Rattle.wh_words.specs.Letters.{inverse_letter}
use Rattle.wh_words.specs.Moves.{IsCut}
use Rattle.wh_moves.proofs.Masks.{held}

-- The number of the letters before a letter and its inverse.
abbrev pub before : ℕ → ℕ
before a = 2 * (a / 2)

-- How many sets a run has.
abbrev pub run : ℕ → ℕ
run a = 2 ^ before a

either : (a : ℕ) → (a ≡ before a) ⊎ (a ≡ suc (before a))
either a = elim (cases_eq (a % 2) 0) [ inl e ↦ inl (omega (arith, e)) | inr n ↦ inr (omega (arith, n)) ]

run_some : (a : ℕ) → 0 < run a
run_some a = pow_pos (before a)

twice : (k : ℕ) → 2 ^ suc k ≡ 2 * 2 ^ k
twice k = omega arith

-- The first set that holds a letter is the run's length or twice it.
first_runs : (a : ℕ) → (2 ^ a ≡ run a) ⊎ (2 ^ a ≡ 2 * run a)
first_runs a = elim (either a) [
  | inl e ↦ inl (ap (λ k. 2 ^ k) e)
  | inr e ↦ inr (ap (λ k. 2 ^ k) e ∙ twice (before a))
]

-- ---- which sets hold the multiplier and omit its inverse
high_bit : (v k i : ℕ) → bit_at v (k + i) ≡ bit_at (v / 2 ^ k) i
high_bit v k i =
    ap (λ n. bit_at n (k + i)) (sym (shr_split v k))
    ∙ bit_at_cat_high (v / 2 ^ k) k (v % 2 ^ k) (k + i) (mod_below v (2 ^ k) (pow_pos k)) (omega arith)
    ∙ ap (bit_at (v / 2 ^ k)) (rest k i)
  where
    rest : (m j : ℕ) → m + j - m ≡ j
    rest m j = omega arith

low_bit : (v k : ℕ) → bit_at v k ≡ v / 2 ^ k % 2
low_bit v k = let e : k ≡ k + 0 = omega arith in ap (bit_at v) e ∙ high_bit v k 0 ∙ bit_at_lowest (v / 2 ^ k)

next_bit : (v k : ℕ) → bit_at v (suc k) ≡ v / 2 ^ k / 2 % 2
next_bit v k = let e : suc k ≡ k + 1 = omega arith in ap (bit_at v) e ∙ high_bit v k 1 ∙ bit_at-suc (v / 2 ^ k) 0 ∙ bit_at_lowest (v / 2 ^ k / 2)

inverse_even : (a : ℕ) → a ≡ before a → inverse_letter a ≡ suc (before a)
unfolding inverse_letter
inverse_even a e = omega (arith, e)

inverse_odd : (a : ℕ) → a ≡ suc (before a) → inverse_letter a ≡ before a
unfolding inverse_letter
inverse_odd a e = omega (arith, e)

-- The sets that hold a generator and omit its inverse are in the second run of a block, those with the inverse in the third.
cut_run : (n a v : ℕ) → IsCut n a v → ((2 ^ a ≡ run a) × (v / run a % 4 ≡ 1)) ⊎ ((2 ^ a ≡ 2 * run a) × (v / run a % 4 ≡ 2))
cut_run n a v is = elim (either a) [
  | inl e ↦
      let holds : v / run a % 2 ≡ 1 = sym (low_bit v (before a)) ∙ ap (bit_at v) (sym e) ∙ is.holds in
      let omits : v / run a / 2 % 2 ≡ 0 = sym (next_bit v (before a)) ∙ ap (bit_at v) (sym (inverse_even a e)) ∙ is.omits in
      inl (ap (λ k. 2 ^ k) e, omega (arith, holds, omits))
  | inr e ↦
      let holds : v / run a / 2 % 2 ≡ 1 = sym (next_bit v (before a)) ∙ ap (bit_at v) (sym e) ∙ is.holds in
      let omits : v / run a % 2 ≡ 0 = sym (low_bit v (before a)) ∙ ap (bit_at v) (sym (inverse_odd a e)) ∙ is.omits in
      inr (ap (λ k. 2 ^ k) e ∙ twice (before a), omega (arith, holds, omits))
]

quotient_between : (r v m : ℕ) → 0 < r → (m + 1) * r ≤ v → v < (m + 4) * r → (m + 1 ≤ v / r) × (v / r < m + 4)
quotient_between r v m some l h = (le-div (m + 1) v r some l, div_below v r (m + 4) some h)

-- No set between a run and the next makes a cut.
pub between_runs : (n a block v : ℕ) → 4 * run a * block + 2 ^ a + run a ≤ v → v < 4 * run a * (block + 1) + 2 ^ a → ¬ (IsCut n a v)
between_runs n a block v l h is = elim (cut_run n a v is) [
  | inl e ↦
      let between : (4 * block + 1 + 1 ≤ v / run a) × (v / run a < 4 * block + 1 + 4) =
      quotient_between (run a) v (4 * block + 1) (run_some a) (omega (arith, l, e.0)) (omega (arith, h, e.0)) in
      omega (arith, between.0, between.1, e.1)
  | inr e ↦
      let between : (4 * block + 2 + 1 ≤ v / run a) × (v / run a < 4 * block + 2 + 4) =
      quotient_between (run a) v (4 * block + 2) (run_some a) (omega (arith, l, e.0)) (omega (arith, h, e.0)) in
      omega (arith, between.0, between.1, e.1)
]

-- No set before the first run makes a cut.
pub before_runs : (n a v : ℕ) → v < 2 ^ a → ¬ (IsCut n a v)
before_runs n a v h is = omega (arith, h, held v a is.holds)

-- ---- the blocks fill the table
-- The table is a number of whole blocks.
whole_blocks : (n a : ℕ) → a < 2 * n → (blocks : ℕ) × (2 ^ (2 * n) ≡ blocks * (4 * run a))
whole_blocks n a l =
    let parts : 2 * n ≡ (2 * n - before a - 2) + (before a + 2) = omega (arith, l) in
    (2 ^ (2 * n - before a - 2), ap (λ k. 2 ^ k) parts ∙ pow-add 2 (2 * n - before a - 2) (before a + 2) ∙ ap (λ z. 2 ^ (2 * n - before a - 2) * z) (pow-add 2 (before a) 2 ∙ four (run a)))
  where
    four : (r : ℕ) → r * 2 ^ 2 ≡ 4 * r
    four r = omega arith

blocks_fill : (n a : ℕ) → a < 2 * n → 4 * run a * (2 ^ (2 * n) / (4 * run a)) ≡ 2 ^ (2 * n)
blocks_fill n a l =
    let whole : (blocks : ℕ) × (2 ^ (2 * n) ≡ blocks * (4 * run a)) = whole_blocks n a l in
    let count : 2 ^ (2 * n) / (4 * run a) ≡ whole.0 = ap (λ m. m / (4 * run a)) whole.1 ∙ mul-div_left whole.0 (omega (arith, run_some a)) in
    ap (λ m. 4 * run a * m) count ∙ omega (arith, whole.1)

run_within : (n a block : ℕ) → a < 2 * n → block < 2 ^ (2 * n) / (4 * run a) → 4 * run a * block + 2 ^ a + run a ≤ 2 ^ (2 * n)
run_within n a block l h =
    let blocks : 4 * run a * (block + 1) ≤ 4 * run a * (2 ^ (2 * n) / (4 * run a)) = mul-le-mul_left (4 * run a) (omega (arith, h)) in
    elim (first_runs a) [
      | inl e ↦ omega (arith, blocks, blocks_fill n a l, e)
      | inr e ↦ omega (arith, blocks, blocks_fill n a l, e)
    ]

past_runs : (n a block : ℕ) → a < 2 * n → 2 ^ (2 * n) / (4 * run a) ≤ block → 2 ^ (2 * n) ≤ 4 * run a * block
past_runs n a block l h =
    let blocks : 4 * run a * (2 ^ (2 * n) / (4 * run a)) ≤ 4 * run a * block = mul-le-mul_left (4 * run a) h in
    omega (arith, blocks, blocks_fill n a l)

-- ---- the numbers as the program has them
-- The length r of a run and the first set f.
module _ (a r f : ℕ) (runs : r ≡ run a) (first : f ≡ 2 ^ a) where
  pub start_is : (block : ℕ) → 4 * r * block + f ≡ 4 * run a * block + 2 ^ a
  start_is block = ap (λ x. 4 * x * block + f) runs ∙ ap (λ y. 4 * run a * block + y) first

  pub end_is : (block : ℕ) → 4 * r * block + f + r ≡ 4 * run a * block + 2 ^ a + run a
  end_is block = omega (arith, start_is block, runs)

  -- The size m of the table.
  module _ (n m : ℕ) (size : m ≡ 2 ^ (2 * n)) (of_rank : a < 2 * n) where
    blocks_are : m / (4 * r) ≡ 2 ^ (2 * n) / (4 * run a)
    blocks_are = ap (λ x. x / (4 * r)) size ∙ ap (λ x. 2 ^ (2 * n) / (4 * x)) runs

    pub end_within : (block : ℕ) → block < m / (4 * r) → 4 * r * block + f + r ≤ 2 ^ (2 * n)
    end_within block h = omega (arith, end_is block, run_within n a block of_rank (omega (arith, h, blocks_are)))

    pub past_table : (block : ℕ) → m / (4 * r) ≤ block → 2 ^ (2 * n) ≤ 4 * run a * block + 2 ^ a
    past_table block h = omega (arith, past_runs n a block of_rank (omega (arith, h, blocks_are)))
