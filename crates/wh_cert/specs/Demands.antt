-- What is asked of the lines of a certificate, in order, after Lyndon and Schupp, I.4, Roig, Ventura and Weil 2007, and McCool 1975.
use Rattle.std.specs.Prelude.{◌≡◌, ◌≢◌, ℕ, zero, suc, ◌+◌, ◌*◌, ◌<◌, ◌≤◌, ltb, cond, List, [], ◌∷◌, ◌++◌, length, get_or, Option, Some, None, slice_get, Contains}
use Rattle.std.specs.declared.cmp.Ordering.TheVariants.{Less}
use Rattle.wh_words.specs.Letters.{inverse_letter}
use Rattle.wh_words.specs.Tuples.{TupleData, tuple_length, tuple_cmp}
use Rattle.wh_words.specs.Moves.{Move, IsMove, IsIdentityCut}
use Rattle.wh_words.specs.Action.{act, act_all}
use Rattle.wh_words.specs.Levels.{IsLevelMove}
use Rattle.wh_words.specs.Edges.{deg}
use Rattle.wh_words.specs.Flows.{IsFlow, HasValue}
use Rattle.wh_words.specs.TupleFlows.{edge_table}
use Rattle.wh_flow.specs.Tables.{cell}
use Rattle.wh_moves.specs.Acts.{FitsOnTheWay}
use Rattle.wh_composites.specs.Composing.{ComposesUpTo}
use Rattle.wh_peak.specs.Relations.{IsTrivial}
use Rattle.wh_level.specs.Trees.{HasWayBack}
use Rattle.wh_stab.specs.Presentations.{Start, PresentationData, AreGenerators, AreNumbers}
use Rattle.wh_data.specs.declared.answer.Loop.{Loop}
use Rattle.wh_data.specs.RootPlaces.{root_place}
use Rattle.wh_data.specs.AnswerData.{SideData, VerdictData, PartsData, StabVerdictData, AnswerData}
use Rattle.wh_data.specs.AnswerData.VerdictData.{yes, no_length, no_level, undecided}
use Rattle.wh_data.specs.AnswerData.StabVerdictData.{done, stopped}
use Rattle.wh_data.specs.AnswerData.AnswerData.{reduce, decide, straighten, stabiliser}
use Rattle.wh_data.specs.Numberings.{head_lines, side_lines, tree_lines}
use Rattle.wh_cert.specs.declared.checked.Rule.{Rule}
use Rattle.wh_cert.specs.declared.checked.Rule.TheVariants as rules

-- ---- demands
-- One thing that is asked of a line.
pub data Demand : Type 0 where
  -- Every tuple on the way of moves from a tuple fits.
  fit_on_the_way : TupleData → List Move → Demand
  -- The moves of a yes carry the first tuple onto the second.
  moves_carry : TupleData → List Move → TupleData → Demand
  -- A trace carries a tuple to its end.
  trace_ends : TupleData → List Move → TupleData → Demand
  -- The ends have different lengths, where there is no level.
  lengths_differ : TupleData → TupleData → Demand
  -- The ends have one length, where there is a level.
  lengths_agree : TupleData → TupleData → Demand
  -- In the graph of an end the line of a generator, with this letter and value, tells a flow of the generator.
  has_flow : TupleData → ℕ → ℕ × ℕ → List ℕ → Demand
  -- The first end is in the level.
  has_root : TupleData → List TupleData → Demand
  -- The tuple at a place of the level is greater than the one before it.
  rises : List TupleData → ℕ → Demand
  -- The length of the first end is that of a tuple of the level.
  has_height : TupleData → TupleData → Demand
  -- The second end isn't a tuple of the level.
  is_absent : TupleData → TupleData → Demand
  -- The images of a tuple of the level are in the level.
  is_closed : List TupleData → TupleData → Demand
  -- The line that names a vertex by a number tells an edge of the tree that leads to a vertex.
  is_tree_edge : PartsData → ℕ → ℕ → Demand
  -- The generators are as many as the edges off the tree.
  counts_generators : PartsData → Demand
  -- The generator at a place is the edge off the tree that has this place among them.
  is_generator : PartsData → ℕ → Demand
  -- The moves of a relator lead from vertex to vertex.
  has_steps : PartsData → Loop → Demand
  -- They lead back to where they start.
  leads_back : PartsData → Loop → Demand
  -- Their images in rank n aren't too long on the way.
  has_short_images : ℕ → Loop → Demand
  -- Their composite in rank n is the identity.
  is_identity : ℕ → Loop → Demand
  -- The numbers of a relator are those of its way.
  has_numbers : PartsData → Loop → Demand

-- The rule that asks it.
abbrev pub rule_of : Demand → Rule
rule_of (fit_on_the_way t ms) = rules.Long
rule_of (moves_carry s ms t) = rules.Moves
rule_of (trace_ends t ms end) = rules.End
rule_of (lengths_differ s t) = rules.Length
rule_of (lengths_agree s t) = rules.Length
rule_of (has_flow end g head f) = rules.Flow
rule_of (has_root root ts) = rules.Root
rule_of (rises ts k) = rules.Sorted
rule_of (has_height root t) = rules.Height
rule_of (is_absent second t) = rules.Absent
rule_of (is_closed ts t) = rules.Closed
rule_of (is_tree_edge p head v) = rules.Tree
rule_of (counts_generators p) = rules.Generators
rule_of (is_generator p k) = rules.Generator
rule_of (has_steps p r) = rules.Step
rule_of (leads_back p r) = rules.Loop
rule_of (has_short_images n r) = rules.Wide
rule_of (is_identity n r) = rules.Identity
rule_of (has_numbers p r) = rules.Numbers

-- The line of generator g, counted from 0, which tells a letter and a value, tells the generator's letter and its degree in the graph of the end, and a flow of this value from the letter to its inverse.
pub record IsGeneratorFlow (end : TupleData) (g : ℕ) (head : ℕ × ℕ) (f : List ℕ) : Type 0 where
  pub letter : head.0 ≡ 2 * g
  pub degree : head.1 ≡ deg (2 * g) end
  pub flow : IsFlow (edge_table end) (cell f) (2 * g) (inverse_letter (2 * g))
  pub value : HasValue (cell f) (2 * g) head.1

-- The tuple of a list at a place.
abbrev pub tuple_at : List TupleData → ℕ → TupleData
tuple_at ts k = get_or ts k (record { rank = 0; words = [] })

-- A tuple of a list is greater than the one before it. Before the first stands none.
abbrev pub Rises : List TupleData → ℕ → Type 0
Rises ts zero = Unit {0}
Rises ts (suc k) = tuple_cmp (tuple_at ts k) (tuple_at ts (suc k)) ≡ Less

-- The image of a tuple under each of its level moves is in a list.
abbrev pub ImagesAreIn : List TupleData → TupleData → Type 0
ImagesAreIn ts t = (m : Move) → IsLevelMove t m → Contains ts (act t m)

-- The line that names vertex v, counted from 0, by a number tells an edge of the tree: a move that isn't an identity cut leads to v from its parent, which is a vertex, and parents lead from v to one that has none.
pub record IsTreeEdge (p : PartsData) (head v : ℕ) : Type 0 where
  pub number : head ≡ v + 1
  pub parent : ℕ
  pub via : Move
  pub entry : slice_get p.tree v ≡ Some (Some (parent, via))
  pub from : TupleData
  pub starts : slice_get p.vertices parent ≡ Some from
  pub valid : IsMove via
  pub moves : ¬ (IsIdentityCut via.kind)
  pub ends : slice_get p.vertices v ≡ Some (act from via)
  pub back : HasWayBack p.tree v

-- The vertices and the tree of a certificate, with these as the generators.
abbrev pub presented_by : PartsData → List Start → PresentationData
presented_by p gs = record { trace = []; vertices = p.vertices; tree = p.tree; generators = gs }

-- The edges off the tree, in order, are as many as the generators.
pub record CountsGenerators (p : PartsData) : Type 0 where
  pub edges : List Start
  pub are : AreGenerators (presented_by p edges)
  pub count : length p.generators ≡ length edges

-- The generator at a place is the edge off the tree that has this place among them, in order.
pub record IsGeneratorAt (p : PartsData) (k : ℕ) : Type 0 where
  pub edges : List Start
  pub are : AreGenerators (presented_by p edges)
  pub same : slice_get p.generators k ≡ slice_get edges k

-- No move of a list is an identity cut, and each leads from a tuple to one of the list, the first move from this one.
abbrev pub StepsIn : List TupleData → TupleData → List Move → Type 0
StepsIn ts t [] = Unit {0}
StepsIn ts t (m ∷ ms) = IsMove m × ¬ (IsIdentityCut m.kind) × Contains ts (act t m) × StepsIn ts (act t m) ms

-- What is asked is so.
abbrev pub IsMet : Demand → Type 0
IsMet (fit_on_the_way t ms) = FitsOnTheWay t ms
IsMet (moves_carry s ms t) = act_all s ms ≡ t
IsMet (trace_ends t ms end) = act_all t ms ≡ end
IsMet (lengths_differ s t) = tuple_length s ≢ tuple_length t
IsMet (lengths_agree s t) = tuple_length s ≡ tuple_length t
IsMet (has_flow end g head f) = IsGeneratorFlow end g head f
IsMet (has_root root ts) = Contains ts root
IsMet (rises ts k) = Rises ts k
IsMet (has_height root t) = tuple_length t ≡ tuple_length root
IsMet (is_absent second t) = t ≢ second
IsMet (is_closed ts t) = ImagesAreIn ts t
IsMet (is_tree_edge p head v) = IsTreeEdge p head v
IsMet (counts_generators p) = CountsGenerators p
IsMet (is_generator p k) = IsGeneratorAt p k
IsMet (has_steps p r) = (r.at < length p.vertices) × StepsIn p.vertices (tuple_at p.vertices r.at) r.moves
IsMet (leads_back p r) = act_all (tuple_at p.vertices r.at) r.moves ≡ tuple_at p.vertices r.at
IsMet (has_short_images n r) = (k : ℕ) → k ≤ length r.moves → ComposesUpTo n r.moves k
IsMet (is_identity n r) = IsTrivial n r.moves
IsMet (has_numbers p r) = AreNumbers (presented_by p p.generators) (tuple_at p.vertices r.at) r.moves r.word

-- ---- the lines of an answer
-- A demand on a line, by the place of the line among those that aren't skipped, counted from 0.
abbrev pub Placed : Type 0
Placed = ℕ × Demand

-- What is asked of lines one after another, the first k of them.
unfoldable pub asked_below : (ℕ → List Placed) → ℕ → List Placed
asked_below asked zero = []
asked_below asked (suc k) = asked_below asked k ++ asked k

-- Of the `trace` line and the `end` line of a tuple's side.
abbrev pub trace_asked : ℕ → TupleData → SideData → List Placed
trace_asked place t s = (place, fit_on_the_way t s.trace) ∷ (place + 1, trace_ends t s.trace s.end) ∷ []

-- Of the `flow` line of generator g, where the lines of the side are numbered from `from` among all `flow` lines.
abbrev pub flow_asked : ℕ → ℕ → List (ℕ × ℕ) → SideData → ℕ → List Placed
flow_asked place from heads s g = (place + g, has_flow s.end g (get_or heads (from + g) (0, 0)) (get_or s.flows g [])) ∷ []

-- Of the `flow` lines of a side, one for each generator.
abbrev pub flows_asked : ℕ → ℕ → List (ℕ × ℕ) → SideData → List Placed
flows_asked place from heads s = asked_below (flow_asked place from heads s) s.end.rank

-- Of the lines of a side.
abbrev pub side_asked : ℕ → List (ℕ × ℕ) → TupleData → SideData → List Placed
side_asked place heads t s = trace_asked place t s ++ flows_asked (place + 2) 0 heads s

-- Of the lines of two sides of rank n, where something is asked of the two ends too, in the second `end` line.
abbrev pub sides_asked : ℕ → ℕ → List (ℕ × ℕ) → TupleData → TupleData → SideData → SideData → (TupleData → TupleData → Demand) → List Placed
sides_asked place n heads s t a b lengths =
    side_asked place heads s a
    ++ (trace_asked (place + side_lines n) t b
    ++ ((place + side_lines n + 1, lengths a.end b.end) ∷ flows_asked (place + side_lines n + 2) n heads b))

-- Of a tuple of a level, where a second end isn't to be in the level.
abbrev pub absent_asked : ℕ → Option TupleData → TupleData → List Placed
absent_asked place None t = []
absent_asked place (Some second) t = (place, is_absent second t) ∷ []

-- Of the `at` line of a tuple of a level, at a place among them. There may be a second end.
abbrev pub at_asked : ℕ → TupleData → Option TupleData → List TupleData → ℕ → List Placed
at_asked place root second ts k =
    (place + k, rises ts k)
    ∷ (place + k, has_height root (tuple_at ts k))
    ∷ (absent_asked (place + k) second (tuple_at ts k) ++ (place + k, is_closed ts (tuple_at ts k)) ∷ [])

-- Of the `level` line and the `at` lines.
abbrev pub level_asked : ℕ → TupleData → Option TupleData → List TupleData → List Placed
level_asked place root second ts = (place, has_root root ts) ∷ asked_below (at_asked (place + 1) root second ts) (length ts)

-- Of the lines after the verdict of two tuples, of which the first is at a place.
abbrev pub verdict_asked : ℕ → List (ℕ × ℕ) → TupleData → TupleData → VerdictData → List Placed
verdict_asked place heads s t (yes ms) = (place, fit_on_the_way s ms) ∷ (place, moves_carry s ms t) ∷ []
verdict_asked place heads s t (no_length a b) = sides_asked place s.rank heads s t a b lengths_differ
verdict_asked place heads s t (no_level a b ts) =
    sides_asked place s.rank heads s t a b lengths_agree ++ level_asked (place + 2 * side_lines s.rank) a.end (Some b.end) ts
verdict_asked place heads s t (undecided bound) = []

-- ---- stabilisers
-- The vertex of a `tree` line, by the place of the line among them: the vertices but the root, in order.
abbrev pub tree_vertex : ℕ → ℕ → ℕ
tree_vertex root j = cond (ltb j root) j (j + 1)

-- Of a `tree` line, where these are the numbers that `tree` lines name.
abbrev pub tree_edge_asked : ℕ → List ℕ → ℕ → PartsData → ℕ → List Placed
tree_edge_asked place heads root p j = (place + j, is_tree_edge p (get_or heads j 0) (tree_vertex root j)) ∷ []

-- Of the `tree` lines.
abbrev pub tree_asked : ℕ → List ℕ → ℕ → PartsData → List Placed
tree_asked place heads root p = asked_below (tree_edge_asked place heads root p) (tree_lines p)

-- Of the `generator` line at a place among them.
abbrev pub generator_asked : ℕ → PartsData → ℕ → List Placed
generator_asked place p k = (place + k, is_generator p k) ∷ []

-- Of the `generators` line and the `generator` lines.
abbrev pub generators_asked : ℕ → PartsData → List Placed
generators_asked place p = (place, counts_generators p) ∷ asked_below (generator_asked (place + 1) p) (length p.generators)

-- The relator of a list at a place.
abbrev pub loop_at : List Loop → ℕ → Loop
loop_at rs k = get_or rs k (record { at = 0; moves = []; word = [] })

-- Of the line of a relator in rank n.
abbrev pub loop_asked : ℕ → ℕ → PartsData → Loop → List Placed
loop_asked place n p r =
    (place, has_steps p r)
    ∷ (place, leads_back p r)
    ∷ (place, has_short_images n r)
    ∷ (place, is_identity n r)
    ∷ (place, has_numbers p r)
    ∷ []

-- Of the `relator` line at a place among them.
abbrev pub relator_asked : ℕ → ℕ → PartsData → ℕ → List Placed
relator_asked place n p k = loop_asked (place + k) n p (loop_at p.relators k)

-- Of the `relator` lines in rank n. Nothing is asked of the line that counts them: a certificate need not have all relators.
abbrev pub relators_asked : ℕ → ℕ → PartsData → List Placed
relators_asked place n p = asked_below (relator_asked place n p) (length p.relators)

-- Of the lines that present the stabiliser of an end of rank n: the level, the tree, the generators and the relators.
abbrev pub parts_asked : ℕ → List ℕ → TupleData → PartsData → List Placed
parts_asked place heads end p =
    level_asked place end None p.vertices
    ++ (tree_asked (place + 1 + length p.vertices) heads (root_place end p.vertices) p
    ++ (generators_asked (place + 1 + length p.vertices + tree_lines p) p
    ++ relators_asked (place + 3 + length p.vertices + tree_lines p + length p.generators) end.rank p))

-- Of the lines after the tuple whose stabiliser is told.
abbrev pub stab_asked : ℕ → List (ℕ × ℕ) → List ℕ → TupleData → StabVerdictData → List Placed
stab_asked place heads tree_heads t (done s p) = side_asked place heads t s ++ parts_asked (place + side_lines t.rank) tree_heads s.end p
stab_asked place heads tree_heads t (stopped bound) = []

-- Of all lines of an answer, whose `flow` lines tell these letters and values, and whose `tree` lines name vertices by these numbers. Nothing is asked of answers that can't be checked.
abbrev pub asked : List (ℕ × ℕ) → List ℕ → AnswerData → List Placed
asked heads tree_heads (reduce t s) = side_asked (head_lines (reduce t s)) heads t s
asked heads tree_heads (decide s t v) = verdict_asked (head_lines (decide s t v)) heads s t v
asked heads tree_heads (straighten t given ms end) = []
asked heads tree_heads (stabiliser t v) = stab_asked (head_lines (stabiliser t v)) heads tree_heads t v
