-- The numbers of a way, one move after another.
use Rattle.std.proofs.Common.{◌≡◌, ℕ, suc, ◌+◌, ◌<◌, ◌≤◌, List, [], ◌∷◌, ◌++◌, length, get_or, drop, Option, Some, None, slice_get, Contains, rules, inl, inr, refl, sym, ap, ◌∙◌, subst, arith, append-nil, append_assoc}
use Rattle.std.proofs.lemmas.List.{drop_more, drop_all}
use Rattle.std.proofs.lemmas.Option.{same_Some, slice_get_within, get_or_from_slice_get}
use Rattle.std.specs.Prelude.{MatchOption, IsSome}
use Rattle.wh_words.specs.Tuples.{TupleData}
use Rattle.wh_words.specs.Moves.{Move}
use Rattle.wh_words.specs.Action.{act}
use Rattle.wh_words.specs.Levels.{IsLevelMove, Reaches}
use Rattle.wh_words.specs.Levels.Reaches.{step}
use Rattle.wh_level.specs.Trees.{LevelData, IsClosedLevel}
use Rattle.wh_level.specs.LevelEdges.{IsEdge, AreEdges, IsEdgeNumber, LacksEdge}
use Rattle.wh_level.proofs.LevelEdges.{IsThere, edge_there, edge_at}
use Rattle.wh_level.specs.declared.edge_list.Edge.{Edge}
use Rattle.wh_stab.specs.Presentations.{Start, IsOfTree, AreGenerators, AreNumbers}
use Rattle.wh_stab.specs.Presentations.AreNumbers.{done, on_tree, off_tree}
use Rattle.wh_stab.specs.Numberings.{IsParentEdge, IsWayFrom, AddsNumber, presentation}
use Rattle.wh_stab.proofs.Places.{place_contained}
use Rattle.wh_stab.proofs.FirstGenerators.{tree_edge}

-- ---- edges by their numbers
pub edge_numbered : (es : List Edge) (place k : ℕ) (m : Move) (r : Option ℕ) → MatchOption r (LacksEdge es place m) (IsEdgeNumber es place m) → r ≡ Some k → IsEdgeNumber es place m k
edge_numbered es place k m r h e = subst (λ (o : Option ℕ). MatchOption o (LacksEdge es place m) (IsEdgeNumber es place m)) e h

pub number_within : (es : List Edge) (place k : ℕ) (m : Move) → IsEdgeNumber es place m k → k < length es
number_within es place k m h = slice_get_within es k h.edge h.stands

-- The edge that is read at a number.
pub record IsRead (l : LevelData) (place : ℕ) (m : Move) (e : Edge) : Type 0 where
  pub edge : IsEdge l e
  pub from : e.from ≡ place
  pub via : e.via ≡ m

pub edge_read : (l : LevelData) (es : List Edge) (place k : ℕ) (m : Move) (e : Edge) → AreEdges l es → IsEdgeNumber es place m k → e ≡ get_or es k e → IsRead l place m e
edge_read l es place k m e are h read =
    let same : h.edge ≡ e = sym (get_or_from_slice_get es k h.edge e h.stands) ∙ sym read in
    subst (IsRead l place m) same (record { edge = edge_at l es k h.edge are h.stands; from = h.starts; via = h.moves })

-- ---- numbers of edges
-- An edge off the tree is a generator.
pub generator_there : (l : LevelData) (gs : List Start) (e : Edge) → IsClosedLevel l → IsEdge l e → AreGenerators (presentation [] l gs) → ¬ (IsParentEdge l e) → Contains gs (e.from, e.via)
generator_there l gs e closed edge are off =
    (are.exact (e.from, e.via)).1 (record { tuple = edge.start; starts = edge.stands; moves = edge.moves; off = λ q. off (tree_edge l closed [] gs e edge.start edge.stands edge.leads q) })

pub place_found : (gs : List Start) (s : Start) (r : Option ℕ) → MatchOption r (¬ (Contains gs s)) (λ k. slice_get gs k ≡ Some s) → Contains gs s → IsSome r
place_found gs s None h c = absurd (h c)
place_found gs s (Some k) h c = search rules

pub place_numbered : (gs : List Start) (s : Start) (r : Option ℕ) (k : ℕ) → MatchOption r (¬ (Contains gs s)) (λ j. slice_get gs j ≡ Some s) → r ≡ Some k → slice_get gs k ≡ Some s
place_numbered gs s r k h e = subst (λ (o : Option ℕ). MatchOption o (¬ (Contains gs s)) (λ j. slice_get gs j ≡ Some s)) e h

-- ---- ways
-- A walk that begins with a move.
record IsStep (t : TupleData) (m : Move) (ms : List Move) (u : TupleData) : Type 0 where
  moves : IsLevelMove t m
  walk : Reaches (act t m) ms u

first_of : Move → List Move → Move
first_of d [] = d
first_of d (y ∷ ys) = y

rest_of : List Move → List Move
rest_of [] = []
rest_of (y ∷ ys) = ys

first_step : (t u : TupleData) (ns : List Move) (m : Move) (ms : List Move) → ns ≡ m ∷ ms → Reaches t ns u → IsStep t m ms u
unfolding first_of rest_of
first_step t u [] m ms e r = absurd (omega (arith, ap length e))
first_step t u (x ∷ ns) m ms e (step edge r) = record {
  moves = subst (IsLevelMove t) (ap (first_of m) e) edge;
  walk = subst (λ (y : Move). Reaches (act t y) ms u) (ap (first_of m) e) (subst (λ (y : List Move). Reaches (act t x) y u) (ap rest_of e) r);
}

-- So many moves of a way were gone: it goes on from the tuple at a place, and the numbers so far stand before those to come.
pub record IsNumberedSoFar (l : LevelData) (gs : List Start) (start : ℕ) (ms : List Move) (n place : ℕ) (word : List ℕ) : Type 0 where
  pub first : TupleData
  pub starts : slice_get l.tuples start ≡ Some first
  pub tuple : TupleData
  pub stands : slice_get l.tuples place ≡ Some tuple
  pub end : TupleData
  pub walk : Reaches tuple (drop n ms) end
  pub whole : (ks : List ℕ) → AreNumbers (presentation [] l gs) tuple (drop n ms) ks → AreNumbers (presentation [] l gs) first ms (word ++ ks)

module _ (l : LevelData) (gs : List Start) (start : ℕ) (ms : List Move) where
  pub way_begins : (word : List ℕ) → word ≡ [] → IsWayFrom l start ms → IsNumberedSoFar l gs start ms 0 start word
  way_begins word none way = record {
    first = way.tuple;
    starts = way.starts;
    tuple = way.tuple;
    stands = way.starts;
    end = way.end;
    walk = way.walk;
    whole = λ ks h. subst (λ (w : List ℕ). AreNumbers (presentation [] l gs) way.tuple ms (w ++ ks)) (sym none) h;
  }

  module _ (n place : ℕ) (word : List ℕ) (m : Move) (within : n < length ms) (item : get_or ms n m ≡ m) (far : IsNumberedSoFar l gs start ms n place word) where
    rest : drop n ms ≡ m ∷ drop (n + 1) ms
    rest = drop_more ms n m within ∙ ap (λ (x : Move). x ∷ drop (n + 1) ms) item

    -- The next move, and the walk behind it.
    pub record IsNext : Type 0 where
      pub moves : IsLevelMove far.tuple m
      pub walk : Reaches (act far.tuple m) (drop (n + 1) ms) far.end

    pub next_move : IsNext
    next_move =
        let h : IsStep far.tuple m (drop (n + 1) ms) far.end = first_step far.tuple far.end (m ∷ drop (n + 1) ms) m (drop (n + 1) ms) refl (subst (λ (x : List Move). Reaches far.tuple x far.end) rest far.walk) in
        record { moves = h.moves; walk = h.walk }

    pub on_tree_next : (to : ℕ) → slice_get l.tuples to ≡ Some (act far.tuple m) → IsOfTree (presentation [] l gs) far.tuple m → IsNumberedSoFar l gs start ms (n + 1) to word
    on_tree_next to at edge = record {
      first = far.first;
      starts = far.starts;
      tuple = act far.tuple m;
      stands = at;
      end = far.end;
      walk = next_move.walk;
      whole = λ ks h. far.whole ks (subst (λ (x : List Move). AreNumbers (presentation [] l gs) far.tuple x ks) (sym rest) (on_tree edge h));
    }

    pub off_tree_next : (to k : ℕ) → slice_get l.tuples to ≡ Some (act far.tuple m) → slice_get gs k ≡ Some (place, m) → IsNumberedSoFar l gs start ms (n + 1) to (word ++ (k + 1) ∷ [])
    off_tree_next to k at gen = record {
      first = far.first;
      starts = far.starts;
      tuple = act far.tuple m;
      stands = at;
      end = far.end;
      walk = next_move.walk;
      whole = λ ks h.
          subst (AreNumbers (presentation [] l gs) far.first ms) (ap (λ (j : ℕ). word ++ j ∷ ks) (omega (arith)) ∙ sym (append_assoc word ((k + 1) ∷ []) ks))
          (far.whole (suc k ∷ ks) (subst (λ (x : List Move). AreNumbers (presentation [] l gs) far.tuple x (suc k ∷ ks)) (sym rest) (off_tree far.stands gen h)));
    }

  -- The next edge, with its number.
  pub next_edge : (n place : ℕ) (word new : List ℕ) (m : Move) (e : Edge) → n < length ms → get_or ms n m ≡ m → IsEdge l e → e.from ≡ place → e.via ≡ m → AddsNumber l gs e word new →
      IsNumberedSoFar l gs start ms n place word → IsNumberedSoFar l gs start ms (n + 1) e.to new
  next_edge n place word new m e within item edge from via adds far = elim adds [
    | inl tree ↦ subst (IsNumberedSoFar l gs start ms (n + 1) e.to) (sym tree.1)
        (on_tree_next n place word m within item far e.to at (record { from = place; to = e.to; starts = far.stands; ends = at; parent = tree.0 ∙ ap Some (ap Some named) }))
    | inr off ↦ subst (IsNumberedSoFar l gs start ms (n + 1) e.to) (sym off.2) (off_tree_next n place word m within item far e.to off.0 at (off.1 ∙ ap Some named))
  ]
    where
      named : ◌≡◌ {A = ℕ × Move} (e.from, e.via) (place, m)
      named = ap {B = ℕ × Move} (λ (v : ℕ). (v, e.via)) from ∙ ap {B = ℕ × Move} (λ (x : Move). (place, x)) via

      tuple : edge.start ≡ far.tuple
      tuple = same_Some edge.start far.tuple (sym edge.stands ∙ (ap (slice_get l.tuples) from ∙ far.stands))

      at : slice_get l.tuples e.to ≡ Some (act far.tuple m)
      at = edge.leads ∙ ap Some (ap (λ (t : TupleData). act t e.via) tuple ∙ ap (act far.tuple) via)

  -- The search for the next edge finds one.
  pub edge_found : (es : List Edge) (n place : ℕ) (word : List ℕ) (m : Move) (r : Option ℕ) → IsClosedLevel l → AreEdges l es → n < length ms → get_or ms n m ≡ m → IsNumberedSoFar l gs start ms n place word →
      MatchOption r (LacksEdge es place m) (IsEdgeNumber es place m) → IsSome r
  edge_found es n place word m None closed are within item far lacks =
      let there : IsThere l es place far.tuple m = edge_there l es place far.tuple m closed are far.stands (next_move n place word m within item far).moves in
      let k : (j : ℕ) × (slice_get es j ≡ Some there.edge) = place_contained es there.edge there.listed in
      absurd (lacks k.0 (record { edge = there.edge; stands = k.1; starts = there.from; moves = there.via }))
  edge_found es n place word m (Some k) closed are within item far found = search rules

  pub way_ends : (n place : ℕ) (word : List ℕ) (t : TupleData) → length ms ≤ n → slice_get l.tuples start ≡ Some t → IsNumberedSoFar l gs start ms n place word → AreNumbers (presentation [] l gs) t ms word
  way_ends n place word t all at far =
      subst (λ (x : TupleData). AreNumbers (presentation [] l gs) x ms word) (same_Some far.first t (sym far.starts ∙ at))
      (subst (AreNumbers (presentation [] l gs) far.first ms) (append-nil word)
      (far.whole [] (subst (λ (x : List Move). AreNumbers (presentation [] l gs) far.tuple x []) (sym (drop_all n ms all)) done)))
