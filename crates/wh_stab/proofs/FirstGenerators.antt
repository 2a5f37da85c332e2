-- The generators of a level, one edge after another.
use Rattle.std.proofs.Common.{◌≡◌, ℕ, ◌+◌, ◌<◌, ◌≤◌, List, [], ◌∷◌, ◌++◌, length, get_or, Some, slice_get, Contains, sym, ap, ◌∙◌, subst, arith, inl, inr}
use Rattle.std.proofs.lemmas.Bool.{cases_lt}
use Rattle.std.proofs.lemmas.List.{length_push}
use Rattle.std.proofs.lemmas.List.Elements.{Contains-append_left, Contains-push, Contains-push_cases, Contains-get_or}
use Rattle.std.proofs.lemmas.Map.Keys.{Less-from_sorted}
use Rattle.std.proofs.lemmas.Option.{slice_get-get_or, slice_get_within, get_or_from_slice_get, same_Some}
use Rattle.std.specs.List.Sorted.{IsStrictlySortedBy}
use Rattle.std.specs.declared.cmp.Ordering.TheVariants.{Less}
use Rattle.wh_words.specs.Tuples.{TupleData}
use Rattle.wh_words.specs.Moves.{Move}
use Rattle.wh_words.specs.Action.{act}
use Rattle.wh_words.proofs.Elements.{contains_none}
use Rattle.wh_expand.proofs.FirstMoves.{sorted_push}
use Rattle.wh_level.specs.Trees.{LevelData, IsClosedLevel}
use Rattle.wh_level.specs.LevelEdges.{edge_cmp, IsEdge, AreEdges}
use Rattle.wh_level.specs.declared.edge_list.Edge.{Edge}
use Rattle.wh_level.proofs.LevelEdges.{IsThere, edge_there, edge_at}
use Rattle.wh_level.proofs.SearchEnds.{same_places}
use Rattle.wh_stab.specs.Presentations.{Start, start_cmp, IsOfTree, IsOffTree, AreGenerators}
use Rattle.wh_stab.specs.Numberings.{IsParentEdge, StartsEarly, AreFirstGenerators, presentation}
use Rattle.wh_stab.proofs.Places.{place_contained}

-- ---- edges of the tree
module _ (l : LevelData) (closed : IsClosedLevel l) (trace : List Move) (gs : List Start) where
  -- An edge is one of the tree by its place exactly where it is by its tuple.
  pub parent_edge : (e : Edge) (t : TupleData) → slice_get l.tuples e.from ≡ Some t → slice_get l.tuples e.to ≡ Some (act t e.via) → IsParentEdge l e → IsOfTree (presentation trace l gs) t e.via
  parent_edge e t at to h = record { from = e.from; to = e.to; starts = at; ends = to; parent = h }

  pub tree_edge : (e : Edge) (t : TupleData) → slice_get l.tuples e.from ≡ Some t → slice_get l.tuples e.to ≡ Some (act t e.via) → IsOfTree (presentation trace l gs) t e.via → IsParentEdge l e
  tree_edge e t at to h =
      let from : h.from ≡ e.from = same_places l.tuples h.from e.from t closed.level.sorted h.starts at in
      let end : h.to ≡ e.to = same_places l.tuples h.to e.to (act t e.via) closed.level.sorted h.ends to in
      ap (slice_get l.parents) (sym end) ∙ (h.parent ∙ ap (λ (v : ℕ). Some (Some (v, e.via))) from)

-- ---- one edge after another
module _ (l : LevelData) (es : List Edge) where
  pub no_generators : (gs : List Start) → gs ≡ [] → AreFirstGenerators l es 0 gs
  unfolding IsStrictlySortedBy
  no_generators gs is = subst (AreFirstGenerators l es 0) (sym is) none
    where
      none : AreFirstGenerators l es 0 []
      none = record {
        sorted = tt;
        each = λ k e low at off. absurd (omega (arith, low));
        early = λ s c. absurd (contains_none s c);
        few = omega (arith);
      }

  later : (n : ℕ) (s : Start) → StartsEarly l es n s → StartsEarly l es (n + 1) s
  later n s h = record { number = h.number; edge = h.edge; early = omega (arith, h.early); stands = h.stands; off = h.off; start = h.start }

  pub edge_of_tree : (n : ℕ) (e : Edge) (gs : List Start) → slice_get es n ≡ Some e → IsParentEdge l e → AreFirstGenerators l es n gs → AreFirstGenerators l es (n + 1) gs
  edge_of_tree n e gs at parent first = record {
    sorted = first.sorted;
    each = λ k x low here off. elim (cases_lt k n) [
      | inl below ↦ first.each k x below here off
      | inr high ↦
          let same : k ≡ n = omega (arith, low, high) in
          absurd (off (subst (IsParentEdge l) (same_Some e x (sym at ∙ (ap (slice_get es) (sym same) ∙ here))) parent))
    ];
    early = λ s c. later n s (first.early s c);
    few = omega (arith, first.few);
  }

  pub edge_off_tree : (n : ℕ) (e : Edge) (gs : List Start) → IsStrictlySortedBy edge_cmp es → slice_get es n ≡ Some e → ¬ (IsParentEdge l e) → AreFirstGenerators l es n gs → AreFirstGenerators l es (n + 1) (gs ++ (e.from, e.via) ∷ [])
  edge_off_tree n e gs sorted at not_parent first = record {
    sorted = sorted_push start_cmp gs (e.from, e.via) first.sorted (λ k d within. below (get_or gs k d) (Contains-get_or gs k d within));
    each = λ k x low here off. elim (cases_lt k n) [
      | inl early ↦ Contains-append_left gs ((e.from, e.via) ∷ []) (x.from, x.via) (first.each k x early here off)
      | inr high ↦
          let same : k ≡ n = omega (arith, low, high) in
          subst (λ (y : Edge). Contains (gs ++ (e.from, e.via) ∷ []) (y.from, y.via)) (same_Some e x (sym at ∙ (ap (slice_get es) (sym same) ∙ here))) (Contains-push gs (e.from, e.via))
    ];
    early = λ s c. elim (Contains-push_cases gs (e.from, e.via) s c) [
      | inl k ↦ later n s (first.early s k)
      | inr q ↦ record { number = n; edge = e; early = omega (arith); stands = at; off = not_parent; start = sym q }
    ];
    few = omega (arith, first.few, length_push gs (e.from, e.via));
  }
    where
      below : (s : Start) → Contains gs s → start_cmp s (e.from, e.via) ≡ Less
      below s c =
          let h : StartsEarly l es n s = first.early s c in
          subst (λ (x : Start). start_cmp x (e.from, e.via) ≡ Less) (sym h.start)
          (subst (λ (x : Edge). edge_cmp x e ≡ Less) (get_or_from_slice_get es h.number h.edge e h.stands)
          (subst (λ (x : Edge). edge_cmp (get_or es h.number e) x ≡ Less) (get_or_from_slice_get es n e e at)
          (Less-from_sorted edge_cmp es h.number n e sorted h.early (slice_get_within es n e at))))

-- ---- all edges
pub item_at : (es : List Edge) (n : ℕ) (e : Edge) → n < length es → e ≡ get_or es n e → slice_get es n ≡ Some e
item_at es n e within read = slice_get-get_or es n e within ∙ ap Some (sym read)

pub edge_end_within : (l : LevelData) (e : Edge) → IsEdge l e → e.to < length l.tuples
edge_end_within l e edge = slice_get_within l.tuples e.to (act edge.start e.via) edge.leads

pub end_within : (l : LevelData) (es : List Edge) (n : ℕ) (e : Edge) → AreEdges l es → slice_get es n ≡ Some e → e.to < length l.tuples
end_within l es n e are at = edge_end_within l e (edge_at l es n e are at)

pub all_generators : (l : LevelData) (es : List Edge) (n : ℕ) (gs : List Start) → IsClosedLevel l → AreEdges l es → length es ≤ n → AreFirstGenerators l es n gs → AreGenerators (presentation [] l gs)
all_generators l es n gs closed are all first = record { sorted = first.sorted; exact = λ s. (off s, listed s) }
  where
    off : (s : Start) → Contains gs s → IsOffTree (presentation [] l gs) s
    off s c =
        let h : StartsEarly l es n s = first.early s c in
        let edge : IsEdge l h.edge = edge_at l es h.number h.edge are h.stands in
        subst (IsOffTree (presentation [] l gs)) (sym h.start)
        (record { tuple = edge.start; starts = edge.stands; moves = edge.moves; off = λ q. h.off (tree_edge l closed [] gs h.edge edge.start edge.stands edge.leads q) })

    listed : (s : Start) → IsOffTree (presentation [] l gs) s → Contains gs s
    listed s h =
        let x : IsThere l es s.0 h.tuple s.1 = edge_there l es s.0 h.tuple s.1 closed are h.starts h.moves in
        let k : (j : ℕ) × (slice_get es j ≡ Some x.edge) = place_contained es x.edge x.listed in
        let from : slice_get l.tuples x.edge.from ≡ Some h.tuple = ap (slice_get l.tuples) x.from ∙ h.starts in
        let to : slice_get l.tuples x.edge.to ≡ Some (act h.tuple x.edge.via) = x.leads ∙ ap (λ (m : Move). Some (act h.tuple m)) (sym x.via) in
        let not_parent : ¬ (IsParentEdge l x.edge) = λ q. h.off (subst (IsOfTree (presentation [] l gs) h.tuple) x.via (parent_edge l closed [] gs x.edge h.tuple from to q)) in
        subst (Contains gs) (ap (λ (v : ℕ). (v, x.edge.via)) x.from ∙ ap (λ (m : Move). (s.0, m)) x.via)
        (first.each k.0 x.edge (omega (arith, slice_get_within es k.0 x.edge k.1, all)) k.1 not_parent)
