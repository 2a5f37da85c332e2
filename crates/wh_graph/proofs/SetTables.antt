-- The tables of edges and of capacities, one set after another.
use Rattle.std.proofs.Common.{◌≡◌, ◌≢◌, ℕ, zero, suc, ◌+◌, ◌*◌, ◌^◌, ◌<◌, ◌≤◌, ◌==◌, Bool, false, true, not, List, length, get_or, set as written, inl, inr, sym, ap, ◌∙◌, subst, arith}
use Rattle.std.specs.Int.{bit_at}
use Rattle.std.proofs.lemmas.Bool.{cases_lt}
use Rattle.std.proofs.lemmas.List.{length-set, get_or-set_other, get_or_default}
use Rattle.std.proofs.lemmas.Grind.{get_or-set_at}
use Rattle.std.proofs.lemmas.Nat.Bits.{bit_at_above}
use Rattle.wh_words.specs.LetterSets.{in_set}
use Rattle.wh_words.specs.Flows.{sum_below, where_in, degree}
use Rattle.wh_flow.specs.Tables.{cell}
use Rattle.wh_flow.specs.Nets.{Net, IsNet}
use Rattle.wh_flow.proofs.Sums.{sum-same, sum-zero, sum-one}
use Rattle.wh_flow.proofs.Reached.{none_seen}
use Rattle.wh_moves.proofs.Masks.{added_same, added_other}
use Rattle.wh_graph.proofs.SetNumbers.{holds, omits}
use Rattle.wh_graph.proofs.CellSums.{cell_most}
use Rattle.wh_graph.specs.Graphs.{IsGraph}
use Rattle.wh_graph.proofs.EdgeTables.{graph_capacity}
use Rattle.wh_words.specs.Tuples.{TupleData, IsTuple}
use Rattle.wh_graph.specs.CapacityTables.{IsTable, HasTable, edges_into, set_capacity, tuple_capacity}
use Rattle.wh_graph.proofs.CapacitySums.{one_more}

-- ---- tables
pub table_more : (f : ℕ → ℕ) (n : ℕ) (counts : List ℕ) (v : ℕ) → HasTable f n counts → n < length counts → v ≡ f n → HasTable f (n + 1) (written counts n v)
table_more f n counts v is room e = record {
  room = omega (arith, length-set counts n v, room);
  each = λ k d l. elim (cases_lt k n) [
    | inl h ↦ get_or-set_other counts n k v d (λ e. omega (arith, e, h)) ∙ is.each k d h
    | inr h ↦
        let here : k ≡ n = omega (arith, h, l) in
        get_or-set_at counts n k v d here room ∙ e ∙ ap f (sym here)
  ];
}

pub table_same : (f : ℕ → ℕ) (m n : ℕ) (counts other : List ℕ) → m ≡ n → other ≡ counts → IsTable f m counts → IsTable f n other
table_same f m n counts other e q is = subst (λ (l : List ℕ). IsTable f n l) (sym q) (subst (λ (k : ℕ). IsTable f k counts) e is)

pub table_first : (f : ℕ → ℕ) (counts first : List ℕ) → 0 < length counts → first ≡ written counts 0 0 → 0 ≡ f 0 → HasTable f 1 first
table_first f counts first room e at =
    subst (HasTable f 1) (sym e) (table_more f 0 counts 0 (record { room = omega arith; each = λ k d l. absurd (omega (arith, l)) }) room at)

pub table_of_none : (f : ℕ → ℕ) (counts : List ℕ) → 0 < length counts → 0 ≡ f 0 → get_or counts 0 0 ≡ 0 → HasTable f 1 counts
table_of_none f counts room at e = record {
  room = room;
  each = λ k d l.
      let here : 0 ≡ k = omega (arith, l) in
      subst (λ (i : ℕ). get_or counts i d ≡ f i) here (get_or_default counts 0 d 0 room ∙ e ∙ at);
}

pub table_to : (f : ℕ → ℕ) (m n : ℕ) (counts : List ℕ) → m ≡ n → HasTable f m counts → HasTable f n counts
table_to f m n counts e is = subst (λ (k : ℕ). HasTable f k counts) e is

pub table_all : (f : ℕ → ℕ) (n : ℕ) (counts : List ℕ) → HasTable f n counts → length counts ≡ n → IsTable f n counts
table_all f n counts is e = record { size = e; each = is.each }

pub power_more : (k : ℕ) → 2 ^ (k + 1) ≡ 2 ^ k + 2 ^ k
power_more k = let e : k + 1 ≡ suc k = omega arith in ap (λ n. 2 ^ n) e ∙ omega arith

pub power_up : (j k : ℕ) → j ≤ k → 2 ^ j ≤ 2 ^ k
power_up j zero h = omega (arith, ap (λ i. 2 ^ i) (zero_from j h))
  where
    zero_from : (i : ℕ) → i ≤ 0 → i ≡ 0
    zero_from i l = omega (arith, l)
power_up j (suc k) h = elim (cases_lt k j) [
  | inl l ↦ let here : j ≡ suc k = omega (arith, h, l) in omega (arith, ap (λ i. 2 ^ i) here)
  | inr l ↦ omega (arith, power_up j k l, power_more k, ap (λ i. 2 ^ i) (one_more_than k))
]
  where
    one_more_than : (i : ℕ) → suc i ≡ i + 1
    one_more_than i = omega arith

-- ---- sets with one letter more
module _ (set y : ℕ) (below : set < 2 ^ y) where
  free : bit_at set y ≡ 0
  free = bit_at_above set y y below (omega arith)

  without_letter : in_set set y ≡ false
  without_letter = omits set y free

  with_letter : in_set (2 ^ y + set) y ≡ true
  with_letter =
      let turned : 2 ^ y + set ≡ set + 2 ^ y = omega arith in
      ap (λ s. in_set s y) turned ∙ holds (set + 2 ^ y) y (added_same set y free)

  other_letter : (z : ℕ) → z ≢ y → in_set (2 ^ y + set) z ≡ in_set set z
  other_letter z n =
      let turned : 2 ^ y + set ≡ set + 2 ^ y = omega arith in
      ap (λ s. in_set s z) turned ∙ ap (λ b. b == 1) (added_other set y z free n)

  pub edges_more : (cells : List ℕ) (x : ℕ) → y < 52 → edges_into cells x (2 ^ y + set) ≡ edges_into cells x set + cell cells x y
  edges_more cells x low =
      sum-one 52 y (cell cells x y) (λ z. where_in (in_set (2 ^ y + set) z) (cell cells x z)) (λ z. where_in (in_set set z) (cell cells x z)) low
      (λ z h n. ap (λ b. where_in b (cell cells x z)) (other_letter z n))
      (omega (arith, ap (λ b. where_in b (cell cells x y)) with_letter, ap (λ b. where_in b (cell cells x y)) without_letter))

  pub capacity_more : (net : Net) → IsNet net → y < 52 → set_capacity net.cells (2 ^ y + set) + 2 * edges_into net.cells y set ≡ set_capacity net.cells set + degree (cell net.cells) y
  capacity_more net is low =
      one_more (cell net.cells) (in_set set) (in_set (2 ^ y + set)) y low without_letter with_letter other_letter
      (λ x h. is.symmetric x y h low) (is.diagonal y low)

-- ---- the empty set
pub edges_into_none : (cells : List ℕ) (x : ℕ) → 0 ≡ edges_into cells x 0
edges_into_none cells x =
    sym (sum-same 52 (λ y. where_in (in_set 0 y) (cell cells x y)) (λ _. 0) (λ y h. ap (λ b. where_in b (cell cells x y)) (none_seen y)) ∙ sum-zero 52)

pub capacity_of_none : (cells : List ℕ) → 0 ≡ set_capacity cells 0
capacity_of_none cells =
    sym (sum-same 52 (λ x. where_in (in_set 0 x) (sum_below 52 (λ y. where_in (not (in_set 0 y)) (cell cells x y)))) (λ _. 0)
    (λ x h. ap (λ b. where_in b (sum_below 52 (λ y. where_in (not (in_set 0 y)) (cell cells x y)))) (none_seen x)) ∙ sum-zero 52)

-- ---- bounds
sum_most : (n b : ℕ) (f : ℕ → ℕ) → ((k : ℕ) → k < n → f k ≤ b) → sum_below n f ≤ n * b
unfolding sum_below
sum_most zero b f h = omega arith
sum_most (suc n) b f h = omega (arith, sum_most n b f (λ k l. h k (omega (arith, l))), h n (omega arith))

where_most : (t : Bool) (v b : ℕ) → v ≤ b → where_in t v ≤ b
where_most true v b h = h
where_most false v b h = omega arith

module _ (net : Net) (is : IsNet net) where
  pub edges_few : (x set : ℕ) → edges_into net.cells x set ≤ 52 * 4096
  edges_few x set = sum_most 52 4096 (λ y. where_in (in_set set y) (cell net.cells x y)) (λ y h. where_most (in_set set y) (cell net.cells x y) 4096 (cell_most net is x y h))

  pub degree_few : (x : ℕ) → degree (cell net.cells) x ≤ 52 * 4096
  degree_few x = sum_most 52 4096 (λ y. cell net.cells x y) (λ y h. cell_most net is x y h)

  out_few : (x set : ℕ) → sum_below 52 (λ y. where_in (not (in_set set y)) (cell net.cells x y)) ≤ 52 * 4096
  out_few x set = sum_most 52 4096 (λ y. where_in (not (in_set set y)) (cell net.cells x y)) (λ y h. where_most (not (in_set set y)) (cell net.cells x y) 4096 (cell_most net is x y h))

  pub capacity_few : (set : ℕ) → set_capacity net.cells set ≤ 52 * (52 * 4096)
  capacity_few set =
      sum_most 52 (52 * 4096) (λ x. where_in (in_set set x) (sum_below 52 (λ y. where_in (not (in_set set y)) (cell net.cells x y))))
      (λ x h. where_most (in_set set x) (sum_below 52 (λ y. where_in (not (in_set set y)) (cell net.cells x y))) (52 * 4096) (out_few x set))

-- ---- the table of a tuple
-- The capacities in the graph of a tuple are those in the tuple.
pub tuple_table : (net : Net) (t : TupleData) (counts other : List ℕ) → IsTuple t → t.rank ≤ 26 → IsGraph net t → other ≡ counts → IsTable (set_capacity net.cells) (2 ^ (2 * net.rank)) counts
    → IsTable (tuple_capacity t) (2 ^ (2 * t.rank)) other
tuple_table net t counts other is rank graph e table =
    let same : IsTable (set_capacity net.cells) (2 ^ (2 * t.rank)) other = table_same (set_capacity net.cells) (2 ^ (2 * net.rank)) (2 ^ (2 * t.rank)) counts other (ap (λ n. 2 ^ (2 * n)) graph.rank) e table in
    record { size = same.size; each = λ set d l. same.each set d l ∙ graph_capacity net t (in_set set) is rank graph }
