-- The capacities and degrees of the table that counts, for each two letters, the edges that join them.
use Rattle.std.proofs.Common.{◌≡◌, ◌≢◌, ℕ, ◌+◌, ◌<◌, ◌≤◌, ◌==◌, Bool, true, false, not, ◌&&◌, ◌||◌, List, [], ◌∷◌, refl, sym, ap, ◌∙◌, inl, inr, arith, count_by, get_or, eqb-true}
use Rattle.std.specs.List.{All}
use Rattle.std.proofs.lemmas.Bool.{cases_eq, eq-eqb, ne_eqb}
use Rattle.std.proofs.lemmas.List.Elements.{All-head, All-tail}
use Rattle.wh_words.specs.Tuples.{TupleData, IsTuple}
use Rattle.wh_words.specs.Edges.{edges, joins, crosses, ends_at, cap}
use Rattle.wh_words.specs.TupleFlows.{edge_table}
use Rattle.wh_words.specs.Flows.{sum_below, where_in, capacity_of_set}
use Rattle.wh_flow.specs.Tables.{cell}
use Rattle.wh_flow.proofs.Sums.{sum-same, sum-add, sum-zero, sum-one}
use Rattle.wh_flow.proofs.SetSums.{where-zero, where-add}
use Rattle.wh_graph.specs.Laws.{JoinsTwo}
use Rattle.wh_graph.specs.Graphs.{GraphHasTheCapacities, GraphHasTheDegrees}
use Rattle.wh_graph.proofs.EdgeCounts.{one, count-cons, edges_join}

-- ---- sums
-- A sum with one term.
sum_at : (n s : ℕ) (f : ℕ → ℕ) → s < n → ((k : ℕ) → k < n → k ≢ s → f k ≡ 0) → sum_below n f ≡ f s
sum_at n s f l e = omega (arith, sum-one n s (f s) f (λ _. 0) l e (omega arith), sum-zero n)

-- A sum without terms.
sum_none : (n : ℕ) (f : ℕ → ℕ) → ((k : ℕ) → k < n → f k ≡ 0) → sum_below n f ≡ 0
sum_none n f e = sum-same n f (λ _. 0) e ∙ sum-zero n

-- ---- capacities and degrees of sums of tables
row : (ℕ → ℕ → ℕ) → (ℕ → Bool) → ℕ → ℕ
row c A x = sum_below 52 (λ y. where_in (not (A y)) (c x y))

row_same : (c d : ℕ → ℕ → ℕ) (A : ℕ → Bool) (x : ℕ) → ((y : ℕ) → y < 52 → c x y ≡ d x y) → row c A x ≡ row d A x
unfolding row
row_same c d A x e = sum-same 52 (λ y. where_in (not (A y)) (c x y)) (λ y. where_in (not (A y)) (d x y)) (λ y l. ap (where_in (not (A y))) (e y l))

row_add : (c d : ℕ → ℕ → ℕ) (A : ℕ → Bool) (x : ℕ) → row (λ u v. c u v + d u v) A x ≡ row c A x + row d A x
unfolding row
row_add c d A x =
    sum-same 52 (λ y. where_in (not (A y)) (c x y + d x y)) (λ y. where_in (not (A y)) (c x y) + where_in (not (A y)) (d x y)) (λ y l. where-add (not (A y)) (c x y) (d x y))
    ∙ sum-add 52 (λ y. where_in (not (A y)) (c x y)) (λ y. where_in (not (A y)) (d x y))

capacity_rows : (c : ℕ → ℕ → ℕ) (A : ℕ → Bool) → capacity_of_set c A ≡ sum_below 52 (λ x. where_in (A x) (row c A x))
unfolding row
capacity_rows c A = refl

capacity_same : (c d : ℕ → ℕ → ℕ) (A : ℕ → Bool) → ((x y : ℕ) → x < 52 → y < 52 → c x y ≡ d x y) → capacity_of_set c A ≡ capacity_of_set d A
capacity_same c d A e =
    capacity_rows c A
    ∙ sum-same 52 (λ x. where_in (A x) (row c A x)) (λ x. where_in (A x) (row d A x)) (λ x l. ap (where_in (A x)) (row_same c d A x (λ y m. e x y l m)))
    ∙ sym (capacity_rows d A)

capacity_add : (c d : ℕ → ℕ → ℕ) (A : ℕ → Bool) → capacity_of_set (λ x y. c x y + d x y) A ≡ capacity_of_set c A + capacity_of_set d A
capacity_add c d A =
    capacity_rows (λ x y. c x y + d x y) A
    ∙ sum-same 52 (λ x. where_in (A x) (row (λ u v. c u v + d u v) A x)) (λ x. where_in (A x) (row c A x) + where_in (A x) (row d A x))
    (λ x l. ap (where_in (A x)) (row_add c d A x) ∙ where-add (A x) (row c A x) (row d A x))
    ∙ sum-add 52 (λ x. where_in (A x) (row c A x)) (λ x. where_in (A x) (row d A x))
    ∙ omega (arith, capacity_rows c A, capacity_rows d A)

-- ---- one arrow
-- The table with one at p and q alone.
arrow : ℕ → ℕ → ℕ → ℕ → ℕ
arrow p q x y = one ((p == x) && (q == y))

arrow_other : (p q x y : ℕ) → x ≢ p → arrow p q x y ≡ 0
unfolding arrow
arrow_other p q x y n = ap (λ b. one (b && (q == y))) (ne_eqb p x (λ e. n (sym e)))

arrow_from : (p q y : ℕ) → arrow p q p y ≡ one (q == y)
unfolding arrow
arrow_from p q y = ap (λ b. one (b && (q == y))) (eq-eqb p p refl)

out_of : (b c : Bool) → where_in b (where_in c 1) ≡ one (b && c)
out_of true true = refl
out_of true false = refl
out_of false c = refl

module _ (p q : ℕ) (hp : p < 52) (hq : q < 52) (A : ℕ → Bool) where
  arrow_row : row (arrow p q) A p ≡ where_in (not (A q)) 1
  unfolding row
  arrow_row =
      sum_at 52 q (λ y. where_in (not (A y)) (arrow p q p y)) hq
      (λ y l n. ap (where_in (not (A y))) (arrow_from p q y ∙ ap one (ne_eqb q y (λ e. n (sym e)))) ∙ where-zero (not (A y)))
      ∙ ap (where_in (not (A q))) (arrow_from p q q ∙ ap one (eq-eqb q q refl))

  arrow_row_other : (x : ℕ) → x ≢ p → row (arrow p q) A x ≡ 0
  unfolding row
  arrow_row_other x n = sum_none 52 (λ y. where_in (not (A y)) (arrow p q x y)) (λ y l. ap (where_in (not (A y))) (arrow_other p q x y n) ∙ where-zero (not (A y)))

  arrow_capacity : capacity_of_set (arrow p q) A ≡ one (A p && not (A q))
  arrow_capacity =
      capacity_rows (arrow p q) A
      ∙ sum_at 52 p (λ x. where_in (A x) (row (arrow p q) A x)) hp (λ x l n. ap (where_in (A x)) (arrow_row_other x n) ∙ where-zero (A x))
      ∙ ap (where_in (A p)) arrow_row
      ∙ out_of (A p) (not (A q))

arrow_degree : (p q a : ℕ) → q < 52 → sum_below 52 (λ y. arrow p q a y) ≡ one (p == a)
arrow_degree p q a hq = elim (cases_eq a p) [
  | inl e ↦ (
      sum_at 52 q (λ y. arrow p q a y) hq (λ y l n. ap (λ z. arrow p q z y) e ∙ arrow_from p q y ∙ ap one (ne_eqb q y (λ k. n (sym k))))
      ∙ ap (λ z. arrow p q z q) e ∙ arrow_from p q q ∙ ap one (eq-eqb q q refl) ∙ ap one (sym (eq-eqb p a (sym e))))
  | inr n ↦ (sum_none 52 (λ y. arrow p q a y) (λ y l. arrow_other p q a y n) ∙ ap one (sym (ne_eqb p a (λ e. n (sym e)))))
]

-- ---- an edge is two arrows
-- The table of a list of edges.
table : List (ℕ × ℕ) → ℕ → ℕ → ℕ
table es x y = count_by (joins x y) es

apart_sum : (b c d e : Bool) → (b ≡ true → e ≡ true → ⊥) → one ((b && c) || (d && e)) ≡ one (b && c) + one (e && d)
apart_sum true true true true h = absurd (h refl refl)
apart_sum true true true false h = refl
apart_sum true true false true h = absurd (h refl refl)
apart_sum true true false false h = refl
apart_sum true false true true h = absurd (h refl refl)
apart_sum true false true false h = refl
apart_sum true false false true h = absurd (h refl refl)
apart_sum true false false false h = refl
apart_sum false c true true h = refl
apart_sum false c true false h = refl
apart_sum false c false true h = refl
apart_sum false c false false h = refl

either_sum : (b c : Bool) → (b ≡ true → c ≡ true → ⊥) → one b + one c ≡ one (b || c)
either_sum true true h = absurd (h refl refl)
either_sum true false h = refl
either_sum false true h = refl
either_sum false false h = refl

not_both : (p q z : ℕ) → p ≢ q → (p == z) ≡ true → (q == z) ≡ true → ⊥
not_both p q z n e f = n (eqb-true p z e ∙ sym (eqb-true q z f))

edge_arrows : (p q x y : ℕ) → p ≢ q → one (joins x y (p, q)) ≡ arrow p q x y + arrow q p x y
unfolding arrow
edge_arrows p q x y n = apart_sum (p == x) (q == y) (p == y) (q == x) (not_both p q x n)

table_cons : (e : ℕ × ℕ) (es : List (ℕ × ℕ)) → e.0 ≢ e.1 → (x y : ℕ) → table (e ∷ es) x y ≡ (arrow e.0 e.1 x y + arrow e.1 e.0 x y) + table es x y
unfolding table
table_cons e es n x y = omega (arith, count-cons (joins x y) e es, edge_arrows e.0 e.1 x y n)

crossing_sum : (b c : Bool) → one (b && not c) + one (c && not b) ≡ one ((b && not c) || (c && not b))
crossing_sum true true = refl
crossing_sum true false = refl
crossing_sum false true = refl
crossing_sum false false = refl

-- ---- the table of a list of edges
table_none : (x y : ℕ) → table [] x y ≡ 0
unfolding table
table_none x y = refl

empty_row : (A : ℕ → Bool) (x : ℕ) → row (table []) A x ≡ 0
unfolding row
empty_row A x = sum_none 52 (λ y. where_in (not (A y)) (table [] x y)) (λ y l. ap (where_in (not (A y))) (table_none x y) ∙ where-zero (not (A y)))

table_capacity : (A : ℕ → Bool) (es : List (ℕ × ℕ)) → All (JoinsTwo 26) es → capacity_of_set (table es) A ≡ count_by (crosses A) es
table_capacity A [] h = capacity_rows (table []) A ∙ sum_none 52 (λ x. where_in (A x) (row (table []) A x)) (λ x l. ap (where_in (A x)) (empty_row A x) ∙ where-zero (A x))
table_capacity A (e ∷ es) h =
    let j : JoinsTwo 26 e = All-head (JoinsTwo 26) e es h in
    let there : ℕ → ℕ → ℕ = arrow e.0 e.1 in
    let back : ℕ → ℕ → ℕ = arrow e.1 e.0 in
    capacity_same (table (e ∷ es)) (λ x y. (there x y + back x y) + table es x y) A (λ x y l m. table_cons e es j.2 x y)
    ∙ omega (
      arith,
      capacity_add (λ x y. there x y + back x y) (table es) A,
      capacity_add there back A,
      arrow_capacity e.0 e.1 (omega (arith, j.0)) (omega (arith, j.1)) A,
      arrow_capacity e.1 e.0 (omega (arith, j.1)) (omega (arith, j.0)) A,
      crossing_sum (A e.0) (A e.1),
      table_capacity A es (All-tail (JoinsTwo 26) e es h),
      count-cons (crosses A) e es,
    )

table_degree : (a : ℕ) (es : List (ℕ × ℕ)) → All (JoinsTwo 26) es → sum_below 52 (λ y. table es a y) ≡ count_by (ends_at a) es
table_degree a [] h = sum_none 52 (λ y. table [] a y) (λ y l. table_none a y)
table_degree a (e ∷ es) h =
    let j : JoinsTwo 26 e = All-head (JoinsTwo 26) e es h in
    sum-same 52 (λ y. table (e ∷ es) a y) (λ y. (arrow e.0 e.1 a y + arrow e.1 e.0 a y) + table es a y) (λ y l. table_cons e es j.2 a y)
    ∙ omega (
      arith,
      sum-add 52 (λ y. arrow e.0 e.1 a y + arrow e.1 e.0 a y) (λ y. table es a y),
      sum-add 52 (λ y. arrow e.0 e.1 a y) (λ y. arrow e.1 e.0 a y),
      arrow_degree e.0 e.1 a (omega (arith, j.1)),
      arrow_degree e.1 e.0 a (omega (arith, j.0)),
      either_sum (e.0 == a) (e.1 == a) (not_both e.0 e.1 a j.2),
      table_degree a es (All-tail (JoinsTwo 26) e es h),
      count-cons (ends_at a) e es,
    )

tuple_edges : (t : TupleData) → IsTuple t → t.rank ≤ 26 → All (JoinsTwo 26) (edges t)
tuple_edges t is rank k d l = let j : JoinsTwo t.rank (get_or (edges t) k d) = edges_join t is k d l in (omega (arith, j.0, rank), omega (arith, j.1, rank), j.2)

-- The table of the graph of a tuple has the capacities of the tuple.
pub edges_capacity : (t : TupleData) (A : ℕ → Bool) → IsTuple t → t.rank ≤ 26 → capacity_of_set (edge_table t) A ≡ cap A t
unfolding table
edges_capacity t A is rank = table_capacity A (edges t) (tuple_edges t is rank)

pub graph_capacity : GraphHasTheCapacities
graph_capacity net t A is rank g = capacity_same (cell net.cells) (edge_table t) A g.edges ∙ edges_capacity t A is rank

pub graph_degree : GraphHasTheDegrees
unfolding table
graph_degree net t a is rank g l = sum-same 52 (λ y. cell net.cells a y) (λ y. table (edges t) a y) (λ y m. g.edges a y l m) ∙ table_degree a (edges t) (tuple_edges t is rank)
