-- The flow of a generator in the graph of a tuple, as the program tests it.
use Rattle.std.proofs.Common.{◌≡◌, ℕ, Bool, Result, [], ◌∷◌, get_or, ◌+◌, ◌*◌, ◌^◌, ◌<◌, ◌≤◌, ℤ, pos, negsuc, ◌+ℤ◌, ◌-ℤ◌, List, refl, sym, ap, ◌∙◌, ◌↔◌, IsTrue, nat_eq, w64, of_z, to_z, SFits, subst, arith}
use Rattle.std.proofs.lemmas.Bool.{eqb-true, eq-eqb}
use Rattle.std.proofs.lemmas.Int.{to_z_pos, to_z-of_z, of_z-to_z}
use Rattle.std.proofs.Math.IntN.{+ℤ-neg_ℤ_cancel, +ℤ_comm, pos-+ℤ-pos}
use Rattle.wh_words.specs.Letters.{inverse_letter}
use Rattle.wh_words.specs.Tuples.{TupleData, IsTuple}
use Rattle.wh_words.specs.Edges.{deg}
use Rattle.wh_words.specs.Flows.{IsFlow, HasValue, outflow, inflow, degree}
use Rattle.wh_words.specs.TupleFlows.{edge_table}
use Rattle.wh_flow.specs.Tables.{cell}
use Rattle.wh_flow.specs.Nets.{Net}
use Rattle.wh_graph.specs.Graphs.{IsGraph}
use Rattle.wh_graph.proofs.EdgeTables.{graph_degree}
use Rattle.wh_data.specs.AnswerData.{SideData}
use Rattle.wh_cert.specs.declared.checked.Rule.TheVariants as rules
use Rattle.wh_cert.specs.declared.stop.Stop.{Stop}
use Rattle.wh_cert.specs.Demands.{Demand, rule_of, has_flow, IsMet, IsGeneratorFlow, flow_asked}
use Rattle.wh_cert.specs.Judged.{Judges}

-- A flow on the network of a graph is one within the edges of the tuple.
net_flow : (net : Net) (end : TupleData) (f : List ℕ) (s t : ℕ) → IsGraph net end → IsFlow (cell net.cells) (cell f) s t ↔ IsFlow (edge_table end) (cell f) s t
net_flow net end f s t graph = (
  λ h. record { within = λ x y l m. omega (arith, h.within x y l m, graph.edges x y l m); conserved = h.conserved },
  λ h. record { within = λ x y l m. omega (arith, h.within x y l m, graph.edges x y l m); conserved = h.conserved },
)

-- ---- the value
natural : ℤ → ℕ
natural (pos n) = n
natural (negsuc n) = 0

left_cancel : (a b c : ℤ) → a +ℤ b ≡ a +ℤ c → b ≡ c
left_cancel a b c e = sym (+ℤ-neg_ℤ_cancel b a) ∙ ap (λ z. z -ℤ a) (+ℤ_comm b a ∙ e ∙ +ℤ_comm a c) ∙ +ℤ-neg_ℤ_cancel c a

-- The value v of a flow, as the program compares it with a number.
module _ (f : List ℕ) (s value : ℕ) (v : ℤ) (is : pos (inflow (cell f) s) +ℤ v ≡ pos (outflow (cell f) s)) (fits : SFits w64 v) (small : value < 2 ^ 32) where
  as_signed : to_z w64 value ≡ pos value
  as_signed = to_z_pos w64 value (omega (arith, small))

  value_read : of_z w64 v ≡ value → HasValue (cell f) s value
  unfolding natural
  value_read e =
      let same : v ≡ pos value = sym (to_z-of_z w64 v fits) ∙ ap (to_z w64) e ∙ as_signed in
      ap natural (sym is ∙ ap (λ z. pos (inflow (cell f) s) +ℤ z) same ∙ pos-+ℤ-pos (inflow (cell f) s) value)

  value_back : HasValue (cell f) s value → of_z w64 v ≡ value
  value_back h =
      let same : v ≡ pos value = left_cancel (pos (inflow (cell f) s)) v (pos value) (is ∙ ap pos h ∙ sym (pos-+ℤ-pos (inflow (cell f) s) value)) in
      ap (of_z w64) (same ∙ sym as_signed) ∙ of_z-to_z w64 value (omega (arith, small))

  pub value_tested : IsTrue (nat_eq (of_z w64 v) value) ↔ HasValue (cell f) s value
  value_tested = (λ h. value_read (eqb-true (of_z w64 v) value h), λ h. eq-eqb (of_z w64 v) value (value_back h))

-- ---- all that is tested
-- What the program tests of the flow of generator g in the graph of a tuple.
module _ (net : Net) (end : TupleData) (is : IsTuple end) (graph : IsGraph net end) (rank : net.rank ≤ 26) (g letter value : ℕ) (f : List ℕ) (low : letter < 52) where
  flow_low : end.rank ≤ 26
  flow_low = omega (arith, rank, graph.rank)

  pub flow_tested : letter ≡ 2 * g → value ≡ degree (cell net.cells) letter → IsFlow (cell net.cells) (cell f) letter (inverse_letter letter) → HasValue (cell f) letter value → IsGeneratorFlow end g (letter, value) f
  flow_tested e d flow has =
      record {
        letter = e;
        degree = d ∙ graph_degree net end letter is flow_low graph low ∙ ap (λ a. deg a end) e;
        flow = subst (λ (a : ℕ). IsFlow (edge_table end) (cell f) a (inverse_letter a)) e ((net_flow net end f letter (inverse_letter letter) graph).0 flow);
        value = subst (λ (a : ℕ). HasValue (cell f) a value) e has;
      }

  pub flow_degree : IsGeneratorFlow end g (letter, value) f → value ≡ degree (cell net.cells) letter
  flow_degree h = h.degree ∙ ap (λ a. deg a end) (sym h.letter) ∙ sym (graph_degree net end letter is flow_low graph low)

  pub flow_value : IsGeneratorFlow end g (letter, value) f → HasValue (cell f) letter value
  flow_value h = subst (λ (a : ℕ). HasValue (cell f) a value) (sym h.letter) h.value

-- What is judged of a line by the test.
pub flow_judged : (place from : ℕ) (heads : List (ℕ × ℕ)) (s : SideData) (g : ℕ) (head : ℕ × ℕ) (f : List ℕ) (b : Bool) (r : Result (Unit {0}) Stop) → get_or heads (from + g) (0, 0) ≡ head → get_or s.flows g [] ≡ f →
    IsTrue b ↔ IsGeneratorFlow s.end g head f → ((d : Demand) → rules.Flow ≡ rule_of d → IsTrue b ↔ IsMet d → Judges ((place + g, d) ∷ []) r) → Judges (flow_asked place from heads s g) r
flow_judged place from heads s g head f b r e q tested ask =
    subst (λ h. Judges ((place + g, has_flow s.end g h (get_or s.flows g [])) ∷ []) r) (sym e)
    (subst (λ (k : List ℕ). Judges ((place + g, has_flow s.end g head k) ∷ []) r) (sym q) (ask (has_flow s.end g head f) refl tested))
