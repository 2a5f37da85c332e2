-- A network without edges is one, and stays one when an edge is added.
use Rattle.std.proofs.Common.{◌≡◌, ◌≢◌, ℕ, ◌+◌, ◌*◌, ◌<◌, ◌≤◌, ◌==◌, ◌&&◌, cond, refl, sym, ap, ◌∙◌, inl, inr, ◌⊎◌, arith, List}
use Rattle.std.proofs.lemmas.Bool.{cases_eq, cases_lt, eq-eqb, ne_eqb}
use Rattle.std.proofs.Math.Bool.{and-false, or_comm}
use Rattle.wh_words.specs.Flows.{sum_below}
use Rattle.wh_words.specs.Edges.{joins}
use Rattle.wh_flow.specs.Tables.{cell, IsTable, zero_table}
use Rattle.wh_flow.specs.Nets.{Net, IsNet, edge_count}
use Rattle.wh_flow.specs.Searches.{IsOfLetters}
use Rattle.wh_flow.proofs.Sums.{sum-same, sum-one, sum-zero, sum-part}
use Rattle.wh_flow.proofs.Cells.{cell-zero, zero-table}
use Rattle.wh_words.specs.Limits.{most_rank, most_letters}

-- ---- the network without edges
pub empty_count : edge_count zero_table ≡ 0
empty_count = sum-same 52 (λ y. sum_below y (λ x. cell zero_table x y)) (λ _. 0) (λ y i. column y i) ∙ sum-zero 52
  where
    column : (y : ℕ) → y < 52 → sum_below y (λ x. cell zero_table x y) ≡ 0
    column y i = sum-same y (λ x. cell zero_table x y) (λ _. 0) (λ x h. cell-zero x y (omega (arith, h, i)) i) ∙ sum-zero y

pub empty_net : (r : ℕ) → r ≤ most_rank → IsNet (record { rank = r; cells = zero_table })
empty_net r h = record {
  rank = h;
  table = zero-table;
  symmetric = λ x y i j. cell-zero x y i j ∙ sym (cell-zero y x j i);
  diagonal = λ x i. cell-zero x x i i;
  of_rank = λ x y i j _. cell-zero x y i j;
  few = omega (arith, empty_count);
}

-- ---- how often an edge joins two letters
-- One where an edge between x and y joins u and v, else 0.
abbrev pub joined : ℕ → ℕ → ℕ → ℕ → ℕ
joined x y u v = cond (joins u v (x, y)) 1 0

module _ (x y : ℕ) (ne : x ≢ y) where
  pub joined-there : joined x y x y ≡ 1
  joined-there = simp (eq-eqb x x refl, eq-eqb y y refl)

  pub joined-back : joined x y y x ≡ 1
  joined-back = simp (eq-eqb x x refl, eq-eqb y y refl, ne_eqb x y ne)

  pub joined-other : (u v : ℕ) → ((x ≡ u) × (y ≡ v) → ⊥) → ((x ≡ v) × (y ≡ u) → ⊥) → joined x y u v ≡ 0
  joined-other u v f g = elim (cases_eq x u) [
    | inl a ↦ (let b : y ≡ v → ⊥ = λ e. f (a, e) in
        let k : y ≡ u → ⊥ = λ e. ne (a ∙ sym e) in
        simp (ne_eqb y v b, ne_eqb y u k, and-false))
    | inr a ↦ elim (cases_eq x v) [
      | inl b ↦ (let k : y ≡ u → ⊥ = λ e. g (b, e) in simp (ne_eqb y u k, ne_eqb x u a, and-false))
      | inr b ↦ simp (ne_eqb x u a, ne_eqb x v b)
    ]
  ]

pub joined-turned : (x y u v : ℕ) → joined x y u v ≡ joined x y v u
joined-turned x y u v = ap (λ b. cond {A = ℕ} b 1 0) (or_comm ((x == u) && (y == v)) ((x == v) && (y == u)))

-- ---- a table to which an edge was added
module _ (l m : List ℕ) (x y : ℕ) (hx : x < 52) (hy : y < 52) (ne : x ≢ y)
    (added : (u v : ℕ) → u < 52 → v < 52 → cell m u v ≡ cell l u v + joined x y u v) where
  -- The larger end's column has one more above the diagonal, at the smaller end.
  count-ordered : (a b : ℕ) → a < b → b < 52 → joined x y a b ≡ 1
      → ((u v : ℕ) → u < v → (u ≢ a) ⊎ (v ≢ b) → joined x y u v ≡ 0) → edge_count m ≡ edge_count l + 1
  count-ordered a b less hb one none = sum-one 52 b 1 (λ v. sum_below v (λ u. cell m u v)) (λ v. sum_below v (λ u. cell l u v)) hb
      (λ v i e. sum-same v (λ u. cell m u v) (λ u. cell l u v) (λ u h. omega (arith, added u v (omega (arith, h, i)) i, none u v h (inr e))))
      (sum-one b a 1 (λ u. cell m u b) (λ u. cell l u b) less
      (λ u h e. omega (arith, added u b (omega (arith, h, hb)) hb, none u b h (inl e)))
      (omega (arith, added a b (omega (arith, less, hb)) hb, one)))

  pub count_added : edge_count m ≡ edge_count l + 1
  count_added = elim (cases_lt x y) [
    | inl less ↦ count-ordered x y less hy (joined-there x y ne)
        (λ u v h e. joined-other x y ne u v (λ k. apart u v e (sym k.0) (sym k.1)) (λ k. absurd (omega (arith, less, h, k.0, k.1))))
    | inr more ↦ (let less : y < x = omega (arith, more, ne) in
        count-ordered y x less hx (joined-back x y ne)
        (λ u v h e. joined-other x y ne u v (λ k. absurd (omega (arith, less, h, k.0, k.1))) (λ k. apart u v e (sym k.1) (sym k.0))))
  ]
    where
      apart : {a b : ℕ} (u v : ℕ) → (u ≢ a) ⊎ (v ≢ b) → u ≡ a → v ≡ b → ⊥
      apart u v (inl e) p q = e p
      apart u v (inr e) p q = e q

  pub net_added : (r : ℕ) → IsNet (record { rank = r; cells = l }) → x < 2 * r → y < 2 * r → edge_count l < most_letters → IsTable m → IsNet (record { rank = r; cells = m })
  net_added r n rx ry few table = record {
    rank = n.rank;
    table = table;
    symmetric = λ u v i j. omega (arith, added u v i j, added v u j i, n.symmetric u v i j, joined-turned x y u v);
    diagonal = λ u i. omega (arith, added u u i i, n.diagonal u i, joined-other x y ne u u (λ k. ne (k.0 ∙ sym k.1)) (λ k. ne (k.0 ∙ sym k.1)));
    of_rank = λ u v i j h. omega (arith, added u v i j, n.of_rank u v i j h, joined-other x y ne u v (λ k. absurd (omega (arith, h, k.0, rx))) (λ k. absurd (omega (arith, h, k.1, ry))));
    few = omega (arith, few, count_added);
  }

-- A capacity is at most the number of edges.
pub cell_few : (net : Net) → IsNet net → (x y : ℕ) → x < 52 → y < 52 → cell net.cells x y ≤ most_letters
cell_few net n x y i j = elim (cases_lt x y) [
  | inl less ↦ above x y less j
  | inr more ↦ elim (cases_eq x y) [
    | inl e ↦ omega (arith, n.diagonal x i, ap (λ k. cell net.cells x k) e)
    | inr e ↦ omega (arith, n.symmetric x y i j, above y x (omega (arith, more, e)) i)
  ]
]
  where
    above : (u v : ℕ) → u < v → v < 52 → cell net.cells u v ≤ most_letters
    above u v h k = omega (arith, n.few, sum-part 52 v (λ b. sum_below b (λ a. cell net.cells a b)) k, sum-part v u (λ a. cell net.cells a v) h)

-- Letters past the rank have no edges.
pub net_letters : (net : Net) → IsNet net → IsOfLetters (2 * net.rank) net.cells
net_letters net n x y i j (inl h) = n.of_rank x y i j h
net_letters net n x y i j (inr h) = n.symmetric x y i j ∙ n.of_rank y x j i h
