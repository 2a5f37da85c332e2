-- From the network of a tuple to the flows of its generators.
use Rattle.std.proofs.Common.{◌≡◌, ℕ, ◌+◌, ◌*◌, ◌<◌, ◌≤◌, List, [], ◌∷◌, ◌++◌, length, get_or, inl, inr, sym, subst, arith, length-append}
use Rattle.std.proofs.lemmas.Bool.{cases_lt}
use Rattle.std.proofs.lemmas.List.{get_or_push, get_or_append_left}
use Rattle.std.proofs.lemmas.List.Elements.{All-push}
use Rattle.std.specs.List.{All}
use Rattle.wh_words.specs.Letters.{inverse_letter}
use Rattle.wh_words.specs.Tuples.{TupleData, IsTuple}
use Rattle.wh_words.specs.CapacityTraces.{IsFlatByCapacities}
use Rattle.wh_words.specs.Flows.{degree, IsFlow, IsFirstFlow, HasValue, HaveOneValue, FillsLeastCut}
use Rattle.wh_words.specs.TupleFlows.{edge_table, IsFlowOfLetter}
use Rattle.wh_flow.specs.Tables.{cell, IsTable}
use Rattle.wh_flow.specs.Nets.{Net}
use Rattle.wh_flow.proofs.Cuts.{value_degree}
use Rattle.wh_graph.specs.Graphs.{IsGraph}
use Rattle.wh_graph.proofs.NetworkCuts.{graph_flat}
use Rattle.wh_graph.proofs.EdgeTables.{graph_degree}
use Rattle.wh_reduce.specs.FlatNetworks.{IsFlatNetworkAt}

-- In a flat network the flows of greatest value have the degree as their value, and so has a flow of the same value.
pub flat_value : (net : Net) (f g : List ℕ) (a : ℕ) → a < 52 → IsFlatNetworkAt net a → IsFlow (cell net.cells) (cell f) a (inverse_letter a)
    → FillsLeastCut (cell net.cells) (cell f) a (inverse_letter a) → HaveOneValue (cell f) (cell g) a → HasValue (cell g) a (degree (cell net.cells) a)
flat_value net f g a low flat flow fills same =
    omega (arith, same, (value_degree (cell net.cells) (cell f) a (inverse_letter a) low flow fills).1 flat)

-- Tables that agree on all letters have the same flows.
flow_there : (c d f : ℕ → ℕ → ℕ) (s t : ℕ) → ((x y : ℕ) → x < 52 → y < 52 → c x y ≡ d x y) → IsFlow c f s t → IsFlow d f s t
flow_there c d f s t e flow = record { within = λ x y h k. omega (arith, flow.within x y h k, e x y h k); conserved = flow.conserved }

first_there : (c d f : ℕ → ℕ → ℕ) (s t : ℕ) → ((x y : ℕ) → x < 52 → y < 52 → c x y ≡ d x y) → IsFirstFlow c f s t → IsFirstFlow d f s t
first_there c d f s t e first = record {
  flow = flow_there c d f s t e first.flow;
  first = λ g flow. first.first g (flow_there d c g s t (λ x y h k. sym (e x y h k)) flow);
}

module _ (net : Net) (t : TupleData) (is : IsTuple t) (rank : t.rank ≤ 26) (graph : IsGraph net t) where
  pub flat_network : (a generator : ℕ) → a ≡ 2 * generator → generator < t.rank → IsFlatByCapacities t → IsFlatNetworkAt net a
  flat_network a generator e low flat = subst (IsFlatNetworkAt net) (sym e) ((graph_flat net t (2 * generator) is rank graph (omega (arith, low))).0 (flat generator))

  pub flow_of_letter : (f : List ℕ) (a : ℕ) → a < 52 → IsFirstFlow (cell net.cells) (cell f) a (inverse_letter a) → HasValue (cell f) a (degree (cell net.cells) a) → IsFlowOfLetter t a (cell f)
  flow_of_letter f a low first value = record {
    first = first_there (cell net.cells) (edge_table t) (cell f) a (inverse_letter a) graph.edges first;
    value = omega (arith, value, graph_degree net t a is rank graph low);
  }

-- The flows of the first generators.
pub record AreFlowsBelow (t : TupleData) (n : ℕ) (flows : List (List ℕ)) : Type 0 where
  pub count : length flows ≡ n
  pub tables : All IsTable flows
  pub each : (generator : ℕ) → generator < n → IsFlowOfLetter t (2 * generator) (cell (get_or flows generator []))

pub flows_more : (t : TupleData) (n a : ℕ) (flows : List (List ℕ)) (f : List ℕ) → a ≡ 2 * n → AreFlowsBelow t n flows → IsTable f → IsFlowOfLetter t a (cell f) → AreFlowsBelow t (n + 1) (flows ++ f ∷ [])
flows_more t n a flows f e are table flow = record {
  count = omega (arith, length-append flows (f ∷ []), are.count);
  tables = All-push IsTable flows f are.tables table;
  each = λ g l. elim (cases_lt g n) [
    | inl k ↦ subst (λ (h : List ℕ). IsFlowOfLetter t (2 * g) (cell h)) (sym (get_or_append_left flows (f ∷ []) [] g (omega (arith, k, are.count)))) (are.each g k)
    | inr k ↦
        let same : a ≡ 2 * g = omega (arith, e, k, l) in
        let here : length flows ≡ g = omega (arith, are.count, k, l) in
        subst (λ (h : List ℕ). IsFlowOfLetter t (2 * g) (cell h)) (sym (get_or_push flows f [] g here)) (subst (λ (x : ℕ). IsFlowOfLetter t x (cell f)) same flow)
  ];
}
