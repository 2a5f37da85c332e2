-- What is met of the lines of a level and of a tree makes the vertices a level, and the parents a tree of it.
use Rattle.std.proofs.Common.{◌≡◌, ◌≢◌, ℕ, zero, suc, ◌+◌, ◌-◌, ◌<◌, ◌≤◌, Bool, cond, List, [], ◌∷◌, length, get_or, Option, None, Some, slice_get, Contains, position, inl, inr, refl, sym, ap, ◌∙◌, subst, ◌↔◌, arith}
use Rattle.std.specs.List.{count_by, position_or_len}
use Rattle.std.specs.Option.{is_some, IfSome, unwrap_or}
use Rattle.std.specs.Ordering.{is_eq}
use Rattle.std.proofs.lemmas.Bool.{true≢false, cases_lt, cases_eq, lt-ltb, le-ltb}
use Rattle.std.proofs.lemmas.List.Elements.{All-contains}
use Rattle.std.proofs.lemmas.Bool.Decides.{nat_tests}
use Rattle.std.proofs.lemmas.List.Quantifiers.{position-Some}
use Rattle.std.proofs.lemmas.List.Sums.{sum_by-cons, fails_before_first}
use Rattle.std.proofs.lemmas.Option.{slice_get-get_or, slice_get_within, same_Some}
use Rattle.wh_words.specs.Tuples.{TupleData, tuple_length, tuple_cmp}
use Rattle.wh_words.specs.Moves.{Move}
use Rattle.wh_words.specs.Action.{act}
use Rattle.wh_words.specs.Levels.{InLevel, IsLevel}
use Rattle.wh_words.specs.Levels.Reaches.{here}
use Rattle.wh_words.proofs.SameTuples.{tied, tied_with_itself}
use Rattle.wh_moves.proofs.Walks.{in_level_pushed}
use Rattle.wh_level.specs.Trees.{LeadsBack, HasWayBack}
use Rattle.wh_level.specs.Trees.LeadsBack.{root, step}
use Rattle.wh_stab.specs.SpanningTrees.{IsSpanningTree, IsLink}
use Rattle.wh_stab.proofs.Places.{contained, place_contained}
use Rattle.wh_data.specs.RootPlaces.{root_place}
use Rattle.wh_data.specs.AnswerData.{PartsData}
use Rattle.wh_data.specs.Numberings.{ArePartsOfRank, tree_lines}
use Rattle.wh_cert.specs.Demands.{IsTreeEdge, is_tree_edge, tree_vertex, tree_edge_asked, tree_asked, level_asked}
use Rattle.wh_cert.specs.Checks.{AreMet}
use Rattle.wh_cert.proofs.MetParts.{first_met, met_in}
use Rattle.wh_cert.proofs.MetLevels.{root_in, all_high, level_sorted, stays}

-- ---- how many lines
some_more : {X : Type 0} (x : Option X) (xs : List (Option X)) → count_by is_some (x ∷ xs) ≡ cond (is_some x) 1 0 + count_by is_some xs
some_more x xs = sum_by-cons (λ y. cond (is_some y) 1 0) x xs

all_some : {X : Type 0} (xs : List (Option X)) → ((v : ℕ) → slice_get xs v ≢ Some None) → count_by is_some xs ≡ length xs
all_some [] h = refl
all_some (None ∷ xs) h = absurd (h 0 refl)
all_some (Some x ∷ xs) h = omega (arith, some_more (Some x) xs, all_some xs (λ v. h (suc v)))

-- There is one entry less than places where one place has none.
pub one_less : {X : Type 0} (xs : List (Option X)) (r : ℕ) → r < length xs → ((v : ℕ) → (slice_get xs v ≡ Some None) ↔ (v ≡ r)) → count_by is_some xs + 1 ≡ length xs
one_less [] r l h = absurd (omega (arith, l))
one_less (None ∷ xs) zero l h = omega (arith, some_more None xs, all_some xs (λ v e. absurd (omega (arith, (h (suc v)).0 e))))
one_less (None ∷ xs) (suc r) l h = absurd (omega (arith, (h 0).0 refl))
one_less (Some x ∷ xs) zero l h = absurd (cc ((h 0).1 refl))
one_less (Some x ∷ xs) (suc r) l h = omega (arith, some_more (Some x) xs, one_less xs r (omega (arith, l)) (λ v. (λ e. omega (arith, (h (suc v)).0 e), λ e. (h (suc v)).1 (ap suc e))))

-- ---- the place of the root
no_position : (q : TupleData → Bool) (ts : List TupleData) → position q ts ≡ None → length ts ≤ position_or_len q ts
no_position q ts e = grind (arith, nat_tests)

abbrev is_end : TupleData → TupleData → Bool
is_end end t = is_eq (tuple_cmp t end)

-- The root stands at its place where it is in the list.
pub root_found : (end : TupleData) (ts : List TupleData) → Contains ts end → slice_get ts (root_place end ts) ≡ Some end
root_found end ts c = by (position (is_end end) ts) refl
  where
    by : (o : Option ℕ) → position (is_end end) ts ≡ o → slice_get ts (unwrap_or o 0) ≡ Some end
    by None e =
        absurd (true≢false (sym (ap is_eq (tied_with_itself end)) ∙ ap (is_end end) (sym c.2) ∙ fails_before_first (is_end end) ts c.0 end (omega (arith, c.1, no_position (is_end end) ts e))))
    by (Some v) e =
        let stands = position-Some (is_end end) ts v end e in
        slice_get-get_or ts v end stands.0 ∙ ap Some (tied (get_or ts v end) end stands.1)

-- Each other place is that of a line.
pub is_tree_vertex : (r n v : ℕ) → r < n + 1 → v < n + 1 → v ≢ r → (j : ℕ) × (j < n) × (tree_vertex r j ≡ v)
is_tree_vertex r n v low l other = elim (cases_lt v r) [
  | inl below ↦ (v, omega (arith, below, low), ap (λ b. cond b v (v + 1)) (lt-ltb v r below))
  | inr above ↦
      let more : r < v = omega (arith, above, other) in
      let before : r ≤ v - 1 = omega (arith, more) in
      let next : v - 1 + 1 ≡ v = omega (arith, more) in
      (v - 1, omega (arith, more, l), ap (λ b. cond b (v - 1) (v - 1 + 1)) (le-ltb (v - 1) r before) ∙ next)
]

module _ (place from : ℕ) (heads : List ℕ) (end : TupleData) (p : PartsData) (are : ArePartsOfRank end.rank end p)
    (level : AreMet (level_asked place end None p.vertices)) (tree : AreMet (tree_asked from heads (root_place end p.vertices) p)) where
  abbrev top : ℕ
  top = root_place end p.vertices

  has_top : slice_get p.tree top ≡ Some None
  has_top = (are.root top).1 refl

  top_within : top < length p.tree
  top_within = slice_get_within p.tree top None has_top

  lines : tree_lines p + 1 ≡ length p.tree
  lines = one_less p.tree top top_within are.root

  -- Each vertex but the root has a line.
  edge_of : (v : ℕ) → v < length p.tree → v ≢ top → (head : ℕ) × IsTreeEdge p head v
  edge_of v l other =
      let line : (j : ℕ) × (j < tree_lines p) × (tree_vertex top j ≡ v) = is_tree_vertex top (tree_lines p) v (omega (arith, top_within, lines)) (omega (arith, l, lines)) other in
      let j : ℕ = line.0 in
      let edge : IsTreeEdge p (get_or heads j 0) (tree_vertex top j) =
      first_met (from + j) (is_tree_edge p (get_or heads j 0) (tree_vertex top j)) [] (met_in (tree_edge_asked from heads top p) (tree_lines p) j line.1 tree) in
      (get_or heads j 0, subst (IsTreeEdge p (get_or heads j 0)) line.2 edge)

  same_entry : {a b : ℕ × Move} (v : ℕ) → slice_get p.tree v ≡ Some (Some a) → slice_get p.tree v ≡ Some (Some b) → a ≡ b
  same_entry {a} {b} v e f = same_Some a b (same_Some (Some a) (Some b) (sym e ∙ f))

  -- A place that has a parent isn't that of the root.
  off_top : (v : ℕ) (s : ℕ × Move) → slice_get p.tree v ≡ Some (Some s) → v ≢ top
  off_top v s e t = absurd (cc (e, (are.root v).1 t))

  high : (v : ℕ) (t : TupleData) → slice_get p.vertices v ≡ Some t → tuple_length t ≡ tuple_length end
  high v t e = All-contains (λ u. tuple_length u ≡ tuple_length end) p.vertices t (all_high place end None p.vertices level) (contained p.vertices v t e)

  linked : (v q : ℕ) (m : Move) → slice_get p.tree v ≡ Some (Some (q, m)) → IsLink p.vertices q m v
  linked v q m e =
      let (head, edge) = edge_of v (slice_get_within p.tree v (Some (q, m)) e) (off_top v (q, m) e) in
      let same : (edge.parent, edge.via) ≡ (q, m) = same_entry v edge.entry e in
      let here : Contains p.tree (Some (edge.parent, edge.via)) = contained p.tree v (Some (edge.parent, edge.via)) edge.entry in
      let rank : edge.via.rank ≡ end.rank = All-contains (λ o. IfSome o (λ s. s.1.rank ≡ end.rank)) p.tree (Some (edge.parent, edge.via)) are.parents here in
      let own : edge.from.rank ≡ end.rank = All-contains (λ t. t.rank ≡ end.rank) p.vertices edge.from are.vertices (contained p.vertices edge.parent edge.from edge.starts) in
      let link : IsLink p.vertices edge.parent edge.via v = record {
        tuple = edge.from;
        starts = edge.starts;
        moves = record { valid = edge.valid; rank = rank ∙ sym own; kept = high v (act edge.from edge.via) edge.ends ∙ sym (high edge.parent edge.from edge.starts); moves = edge.moves };
        ends = edge.ends;
      } in
      subst (λ (s : ℕ × Move). IsLink p.vertices s.0 s.1 v) same link

  root_stands : slice_get p.vertices top ≡ Some end
  root_stands = root_found end p.vertices (root_in place end None p.vertices level)

  at_root : (v : ℕ) → slice_get p.tree v ≡ Some None → slice_get p.vertices v ≡ Some end
  at_root v e = subst (λ (w : ℕ). slice_get p.vertices w ≡ Some end) (sym ((are.root v).0 e)) root_stands

  rooted : (v : ℕ) → v < length p.tree → HasWayBack p.tree v
  rooted v l = elim (cases_eq v top) [
    | inl same ↦ record { back = []; leads = root ((are.root v).1 same); short = omega (arith, l) }
    | inr other ↦ let (head, edge) = edge_of v l other in edge.back
  ]

  spanning : IsSpanningTree end p.vertices p.tree
  spanning = record { count = are.count; links = linked; at_root = at_root; rooted = rooted }

  -- The parents lead back along level moves.
  reached : (v : ℕ) (t : TupleData) (ms : List Move) → slice_get p.vertices v ≡ Some t → LeadsBack p.tree v ms → InLevel end t
  reached v t [] e (root f) = subst (InLevel end) (same_Some end t (sym (at_root v f) ∙ e)) ([], here)
  reached v t (m ∷ ms) e (step {p = q} f r) =
      let link : IsLink p.vertices q m v = linked v q m f in
      subst (InLevel end) (same_Some (act link.tuple m) t (sym link.ends ∙ e)) (in_level_pushed (reached q link.tuple ms link.starts r) link.moves)

  is_level : IsLevel end p.vertices
  is_level = record {
    sorted = level_sorted place end None p.vertices level;
    exact = λ t. (
      λ c.
          let (v, e) = place_contained p.vertices t c in
          let way : HasWayBack p.tree v = rooted v (omega (arith, slice_get_within p.vertices v t e, are.count)) in
          reached v t way.back e way.leads,
      λ walk. stays place end None p.vertices level (root_in place end None p.vertices level) walk.1,
    );
  }

  pub level_and_tree : IsLevel end p.vertices × IsSpanningTree end p.vertices p.tree
  level_and_tree = (is_level, spanning)
