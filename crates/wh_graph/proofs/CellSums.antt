-- Sums over the letters of the rank are sums over all letters of a network.
use Rattle.std.proofs.Common.{◌≡◌, ℕ, zero, suc, ◌+◌, ◌*◌, ◌<◌, ◌≤◌, Bool, true, false, not, List, refl, sym, ap, ◌∙◌, inl, inr, arith}
use Rattle.std.proofs.lemmas.Bool.{cases_lt, cases_eq}
use Rattle.std.proofs.lemmas.List.{get_or_past}
use Rattle.wh_words.specs.LetterSets.{in_set}
use Rattle.wh_words.specs.Flows.{sum_below, place, where_in, degree, capacity_of_set}
use Rattle.wh_flow.specs.Tables.{cell}
use Rattle.wh_flow.specs.Nets.{Net, IsNet}
use Rattle.wh_flow.proofs.Sums.{sum-same, sum-zero, sum_more, sum_none}
use Rattle.wh_flow.proofs.NetEdges.{cell_few}

-- Terms that are nothing from m on can be left out.
sum_beyond : (m n : ℕ) (f : ℕ → ℕ) → m ≤ n → ((k : ℕ) → m ≤ k → k < n → f k ≡ 0) → sum_below n f ≡ sum_below m f
unfolding sum_below
sum_beyond m zero f l e = let none : 0 ≡ m = omega (arith, l) in ap (λ k. sum_below k f) none
sum_beyond m (suc n) f l e = elim (cases_eq m (suc n)) [
  | inl q ↦ ap (λ k. sum_below k f) (sym q)
  | inr q ↦ omega (arith, sum_beyond m n f (omega (arith, l, q)) (λ k i j. e k i (omega arith)), e n (omega (arith, l, q)) (omega arith))
]

where_none : (b : Bool) (v : ℕ) → v ≡ 0 → where_in b v ≡ 0
where_none true v e = e
where_none false v e = refl

-- ---- the sums that the loops make
-- The edges from x to letters below n that aren't in a set.
abbrev pub out_below : List ℕ → ℕ → ℕ → ℕ → ℕ
out_below cells set x n = sum_below n (λ y. where_in (not (in_set set y)) (cell cells x y))

-- The edges from letters below n that are in a set out of it.
abbrev pub cap_below : List ℕ → ℕ → ℕ → ℕ
cap_below cells set n = sum_below n (λ x. where_in (in_set set x) (out_below cells set x 52))

-- The edges from x to letters below n.
abbrev pub deg_below : List ℕ → ℕ → ℕ → ℕ
deg_below cells x n = sum_below n (cell cells x)

pub out_more : (cells : List ℕ) (set x n total v : ℕ) → in_set set n ≡ false → total ≡ out_below cells set x n → v ≡ cell cells x n → total + v ≡ out_below cells set x (n + 1)
out_more cells set x n total v h e f =
    omega (arith, e, f, sum_more n (λ y. where_in (not (in_set set y)) (cell cells x y)), ap (λ b. where_in (not b) (cell cells x n)) h)

pub out_same : (cells : List ℕ) (set x n total : ℕ) → in_set set n ≡ true → total ≡ out_below cells set x n → total ≡ out_below cells set x (n + 1)
out_same cells set x n total h e =
    omega (arith, e, sum_more n (λ y. where_in (not (in_set set y)) (cell cells x y)), ap (λ b. where_in (not b) (cell cells x n)) h)

pub cap_more : (cells : List ℕ) (set n total v : ℕ) → in_set set n ≡ true → total ≡ cap_below cells set n → v ≡ out_below cells set n 52 → total + v ≡ cap_below cells set (n + 1)
cap_more cells set n total v h e f =
    omega (arith, e, f, sum_more n (λ x. where_in (in_set set x) (out_below cells set x 52)), ap (λ b. where_in b (out_below cells set n 52)) h)

pub cap_same : (cells : List ℕ) (set n total : ℕ) → in_set set n ≡ false → total ≡ cap_below cells set n → total ≡ cap_below cells set (n + 1)
cap_same cells set n total h e =
    omega (arith, e, sum_more n (λ x. where_in (in_set set x) (out_below cells set x 52)), ap (λ b. where_in b (out_below cells set n 52)) h)

pub deg_more : (cells : List ℕ) (x n total v : ℕ) → total ≡ deg_below cells x n → v ≡ cell cells x n → total + v ≡ deg_below cells x (n + 1)
deg_more cells x n total v e f = omega (arith, e, f, sum_more n (cell cells x))

pub none_below : (f : ℕ → ℕ) → 0 ≡ sum_below 0 f
none_below f = sym (sum_none f)

-- ---- letters past the rank have no edges
module _ (net : Net) (is : IsNet net) where
  no_edge : (x y : ℕ) → y < 52 → 2 * net.rank ≤ y → cell net.cells x y ≡ 0
  no_edge x y l h = elim (cases_lt x 52) [
    | inl k ↦ is.symmetric x y k l ∙ is.of_rank y x l k h
    | inr k ↦ get_or_past net.cells (place x y) 0 (omega (arith, is.table, k))
  ]

  pub cell_most : (x y : ℕ) → y < 52 → cell net.cells x y ≤ 4096
  cell_most x y l = elim (cases_lt x 52) [
    | inl k ↦ cell_few net is x y k l
    | inr k ↦ omega (arith, get_or_past net.cells (place x y) 0 (omega (arith, is.table, k)))
  ]

  pub out_whole : (set x n : ℕ) → 2 * net.rank ≤ n → n ≤ 52 → out_below net.cells set x n ≡ out_below net.cells set x 52
  out_whole set x n l h =
      sym (sum_beyond n 52 (λ y. where_in (not (in_set set y)) (cell net.cells x y)) h (λ y i j. where_none (not (in_set set y)) (cell net.cells x y) (no_edge x y j (omega (arith, i, l)))))

  pub deg_whole : (x n : ℕ) → 2 * net.rank ≤ n → n ≤ 52 → deg_below net.cells x n ≡ degree (cell net.cells) x
  deg_whole x n l h = sym (sum_beyond n 52 (cell net.cells x) h (λ y i j. no_edge x y j (omega (arith, i, l))))

  pub cap_whole : (set n : ℕ) → 2 * net.rank ≤ n → n ≤ 52 → cap_below net.cells set n ≡ capacity_of_set (cell net.cells) (in_set set)
  cap_whole set n l h =
      sym (sum_beyond n 52 (λ x. where_in (in_set set x) (out_below net.cells set x 52)) h
      (λ x i j. where_none (in_set set x) (out_below net.cells set x 52) (row_none x j (omega (arith, i, l)))))
    where
      row_none : (x : ℕ) → x < 52 → 2 * net.rank ≤ x → out_below net.cells set x 52 ≡ 0
      row_none x j k =
          sum-same 52 (λ y. where_in (not (in_set set y)) (cell net.cells x y)) (λ _. 0) (λ y m. where_none (not (in_set set y)) (cell net.cells x y) (is.of_rank x y j m k)) ∙ sum-zero 52
