-- Tables of capacities and degrees, and what they tell of cuts.
use Rattle.std.proofs.Common.{◌≡◌, ℕ, ◌+◌, ◌<◌, ◌≤◌, ◌==◌, List, length, set as written, ◌∙◌, arith, eq-eqb}
use Rattle.std.proofs.lemmas.Bool.{eqb-true}
use Rattle.wh_words.specs.LetterSets.{in_set}
use Rattle.wh_words.specs.Tuples.{TupleData, IsTuple, tuple_length}
use Rattle.wh_words.specs.Moves.{IsCut, cut_move}
use Rattle.wh_words.specs.Action.{act}
use Rattle.wh_words.specs.Edges.{cap, deg}
use Rattle.wh_words.specs.Flows.{degree}
use Rattle.wh_flow.specs.Nets.{Net}
use Rattle.wh_flow.specs.Tables.{cell}
use Rattle.wh_graph.specs.Graphs.{IsGraph}
use Rattle.wh_graph.specs.CapacityTables.{HasTable, set_capacity, tuple_capacity}
use Rattle.wh_graph.proofs.EdgeTables.{graph_capacity, graph_degree}
use Rattle.wh_graph.proofs.Lengths.{length_law}
use Rattle.wh_graph.proofs.SetTables.{table_more}
use Rattle.wh_relators.specs.Cuts.{Cut}
use Rattle.wh_relators.specs.Kept.{kept}
use Rattle.wh_relators.proofs.Lists.{same_tests}

pub table_none : (f : ℕ → ℕ) (counts : List ℕ) → HasTable f 0 counts
table_none f counts = record { room = omega arith; each = λ k d l. absurd (omega (arith, l)) }

pub table_next : (f : ℕ → ℕ) (n : ℕ) (counts : List ℕ) (v : ℕ) → HasTable f n counts → n < length counts → v ≡ f n → HasTable f (n + 1) (written counts n v)
table_next = table_more

-- The tables of a graph are those of its tuple.
pub sets_of_tuple : (net : Net) (t : TupleData) (n : ℕ) (counts : List ℕ) → IsTuple t → t.rank ≤ 26 → IsGraph net t → HasTable (set_capacity net.cells) n counts → HasTable (tuple_capacity t) n counts
sets_of_tuple net t n counts is few g h = record { room = h.room; each = λ set d l. h.each set d l ∙ graph_capacity net t (in_set set) is few g }

pub degrees_of_tuple : (net : Net) (t : TupleData) (n : ℕ) (counts : List ℕ) → IsTuple t → t.rank ≤ 26 → n ≤ 52 → IsGraph net t → HasTable (degree (cell net.cells)) n counts → HasTable (λ a. deg a t) n counts
degrees_of_tuple net t n counts is few most g h = record { room = h.room; each = λ a d l. h.each a d l ∙ graph_degree net t a is few g (omega (arith, l, most)) }

-- A cut keeps the length where the capacity of its set is the degree of its multiplier.
pub kept_by : (t : TupleData) (x : Cut) → IsTuple t → IsCut t.rank x.mult x.set → (cap (in_set x.set) t == deg x.mult t) ≡ kept t x
unfolding kept
kept_by t x is v = same_tests (cap (in_set x.set) t == deg x.mult t) (tuple_length (act t (cut_move t.rank x.mult x.set)) == tuple_length t)
    (λ h. eq-eqb (tuple_length (act t (cut_move t.rank x.mult x.set))) (tuple_length t) (omega (arith, length_law t x.mult x.set is v, eqb-true (cap (in_set x.set) t) (deg x.mult t) h)))
    (λ h. eq-eqb (cap (in_set x.set) t) (deg x.mult t) (omega (arith, length_law t x.mult x.set is v, eqb-true (tuple_length (act t (cut_move t.rank x.mult x.set))) (tuple_length t) h)))
