-- The stabiliser that is made of a level.
use Rattle.std.proofs.Common.{◌≡◌, ℕ, ◌-◌, ◌≤◌, List, [], map, slice_get, Contains, refl, sym, ap, ◌∙◌, subst, arith}
use Rattle.std.proofs.lemmas.List.Elements.{All-weaker}
use Rattle.std.specs.List.Sorted.{IsStrictlySortedBy}
use Rattle.wh_words.specs.Tuples.{TupleData, IsTuple}
use Rattle.wh_words.specs.Moves.{Move}
use Rattle.wh_words.specs.Action.{act}
use Rattle.wh_words.specs.CapacityTraces.{IsCapacityTrace}
use Rattle.wh_words.specs.Levels.{InLevel, IsLevel}
use Rattle.wh_moves.proofs.Walks.{in_level_pushed, reached_tuple}
use Rattle.wh_level.proofs.SearchEnds.{same_places}
use Rattle.wh_peak.specs.Stabilisers.{LeadsToFlat}
use Rattle.wh_peak.proofs.Generators.{traces_lead}
use Rattle.wh_peak.proofs.MovesOfRank.{act_all-rank}
use Rattle.wh_peak.proofs.ShortestTuples.{flat_tuple}
use Rattle.wh_level.specs.Trees.{Parents, LevelData, IsClosedLevel}
use Rattle.wh_stab.specs.declared.stab.Stab.{Stab}
use Rattle.wh_stab.specs.SpanningTrees.{IsSpanningTree}
use Rattle.wh_stab.specs.Presentations.{Start, start_cmp, PresentationData, IsOfTree, IsOffTree, AreGenerators, IsPresented, AreNumbers}
use Rattle.wh_stab.specs.Presentations.AreNumbers.{done, on_tree, off_tree}
use Rattle.wh_stab.specs.Numberings.{presentation}
use Rattle.wh_stab.specs.GeneratorLists.{presentation_of}
use Rattle.wh_stab.specs.Relators.{ways_from, RelatorData, relator_of, IsSpelled, AreRelators}
use Rattle.wh_stab.specs.Stabilisers.{IsStabiliser}
use Rattle.wh_stab.specs.Laws.{GeneratorsCanBeListed}
use Rattle.wh_stab.proofs.Places.{contained}
use Rattle.wh_stab.proofs.Words.{same_off}
use Rattle.wh_stab.proofs.FirstWalkTrees.{first_walks_span}

-- ---- presentations that differ in their traces alone
module _ (p q : PresentationData) (vertices : p.vertices ≡ q.vertices) (tree : p.tree ≡ q.tree) (generators : p.generators ≡ q.generators) where
  pub same_generators : AreGenerators p → AreGenerators q
  same_generators are = record {
    sorted = subst (IsStrictlySortedBy start_cmp) generators are.sorted;
    exact = λ s. (
      λ c. same_off p q s vertices tree ((are.exact s).0 (subst (λ (gs : List Start). Contains gs s) (sym generators) c)),
      λ off. subst (λ (gs : List Start). Contains gs s) generators ((are.exact s).1 (same_off q p s (sym vertices) (sym tree) off)),
    );
  }

  same_of_tree : (t : TupleData) (m : Move) → IsOfTree p t m → IsOfTree q t m
  same_of_tree t m e = record {
    from = e.from;
    to = e.to;
    starts = ap (λ (x : List TupleData). slice_get x e.from) (sym vertices) ∙ e.starts;
    ends = ap (λ (x : List TupleData). slice_get x e.to) (sym vertices) ∙ e.ends;
    parent = ap (λ (x : Parents). slice_get x e.to) (sym tree) ∙ e.parent;
  }

  pub same_numbers : {t : TupleData} {ms : List Move} {ks : List ℕ} → AreNumbers p t ms ks → AreNumbers q t ms ks
  same_numbers done = done
  same_numbers {t} (on_tree {m = m} e d) = on_tree (same_of_tree t m e) (same_numbers d)
  same_numbers (off_tree {v = v} {k = k} at gen d) =
      off_tree (ap (λ (x : List TupleData). slice_get x v) (sym vertices) ∙ at) (ap (λ (x : List Start). slice_get x k) (sym generators) ∙ gen) (same_numbers d)

  pub same_relators : (rs : List RelatorData) → AreRelators p rs → AreRelators q rs
  same_relators rs are = record {
    ways = are.ways ∙ ap (ways_from 0) vertices;
    spelled = All-weaker (IsSpelled p) (IsSpelled q)
        (λ r h. record { tuple = h.tuple; starts = ap (λ (x : List TupleData). slice_get x r.at) (sym vertices) ∙ h.starts; numbers = same_numbers h.numbers }) rs are.spelled;
  }

-- ---- the root
trace_leads : (t root : TupleData) (ms : List Move) → IsTuple t → t.rank ≤ 4 → IsCapacityTrace t ms root → LeadsToFlat t ms root
trace_leads t root ms is low trace = traces_lead t root ms is (omega (arith, low)) trace

pub trace_root : (t root : TupleData) (ms : List Move) → IsTuple t → t.rank ≤ 4 → IsCapacityTrace t ms root → IsTuple root × (root.rank ≡ t.rank)
trace_root t root ms is low trace =
    let l : LeadsToFlat t ms root = trace_leads t root ms is low trace in
    (flat_tuple t root is (record { moves = ms; of_rank = l.of_rank; leads = l.leads }) l.flat, ap (λ (s : TupleData). s.rank) (sym l.leads) ∙ act_all-rank t ms)

-- ---- the whole
pub stabilised : (t : TupleData) (l : LevelData) (s : Stab) → IsTuple t → t.rank ≤ 4 → IsClosedLevel l → IsCapacityTrace t s.trace l.root → map (λ u. u.plain) s.vertices ≡ l.tuples → s.tree.parent ≡ l.parents →
    AreGenerators (presentation [] l s.generators) → AreRelators (presentation [] l s.generators) (map relator_of s.relators) → IsStabiliser t l s
stabilised t l s is low closed trace vertices tree generators relators = record {
  presented = record {
    tuple = is;
    rank = omega (arith, low);
    leads = trace_leads t l.root s.trace is low trace;
    level = subst (IsLevel l.root) (sym vertices) closed.level;
    tree = subst (λ (ts : List TupleData). IsSpanningTree l.root ts s.tree.parent) (sym vertices) (subst (IsSpanningTree l.root l.tuples) (sym tree) (first_walks_span l closed));
    generators = same_generators (presentation [] l s.generators) (presentation_of s) (sym vertices) (sym tree) refl generators;
  };
  vertices = vertices;
  tree = tree;
  relators = same_relators (presentation [] l s.generators) (presentation_of s) (sym vertices) (sym tree) refl (map relator_of s.relators) relators;
}

-- ---- generators as lists
-- Each generator of a stabiliser that is answered can be written as a list of moves.
pub can_list : GeneratorsCanBeListed
can_list t l s k is n = record {
  number = n;
  distinct = λ v w u h g. same_places p.vertices v w u presented.level.sorted h g;
  count = presented.tree.count;
  rooted = presented.tree.rooted;
  joins = λ start at.
      let off : IsOffTree p start = (presented.generators.exact start).0 (contained p.generators (k - 1) start at) in
      let member : InLevel l.root off.tuple = (presented.level.exact off.tuple).0 (contained p.vertices start.0 off.tuple off.starts) in
      record {
        tuple = off.tuple;
        starts = off.starts;
        rank = sym off.moves.rank;
        end = (presented.level.exact (act off.tuple start.1)).1 (in_level_pushed member off.moves);
        short = omega (arith, off.moves.kept, (reached_tuple root member.1).short);
      };
}
  where
    p : PresentationData
    p = presentation_of s

    presented : IsPresented t l.root p
    presented = is.presented

    root : IsTuple l.root
    root = flat_tuple t l.root presented.tuple (record { moves = p.trace; of_rank = presented.leads.of_rank; leads = presented.leads.leads }) presented.leads.flat
