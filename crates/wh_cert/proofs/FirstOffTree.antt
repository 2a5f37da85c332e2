-- The edges off a tree, one vertex after another.
use Rattle.std.proofs.Common.{◌≡◌, ◌↔◌, ℕ, ◌+◌, ◌<◌, ◌≤◌, Bool, true, false, IsTrue, List, [], ◌∷◌, ◌++◌, length, get_or, take, Some, slice_get, Contains, inl, inr, refl, sym, ap, ◌∙◌, subst, arith}
use Rattle.std.specs.declared.cmp.Ordering.{Ordering}
use Rattle.std.specs.declared.cmp.Ordering.TheVariants.{Less}
use Rattle.std.specs.Ordering.{nat_cmp, ordering_then}
use Rattle.std.specs.Cmp.{nat_cmp_total, nat_cmp_is}
use Rattle.std.specs.List.Sorted.{IsStrictlySortedBy}
use Rattle.std.specs.Bool.{MatchBool}
use Rattle.std.specs.List.{All}
use Rattle.std.proofs.lemmas.Bool.{cases_lt, true≢false}
use Rattle.std.proofs.lemmas.Cmp.{tied_itself}
use Rattle.std.proofs.lemmas.List.{length-take, take_more, take_all, get_or-take, get_or_read}
use Rattle.std.proofs.lemmas.List.Elements.{Contains-append_left, Contains-push, Contains-push_cases, Contains-get_or}
use Rattle.std.proofs.lemmas.Map.Keys.{Less-from_sorted}
use Rattle.std.proofs.lemmas.Option.{slice_get_within, same_Some}
use Rattle.wh_words.specs.Tuples.{TupleData, tuple_cmp}
use Rattle.wh_words.specs.Action.{act}
use Rattle.wh_words.proofs.SameTuples.{tuple_cmp_total}
use Rattle.wh_words.specs.Moves.{Move, move_cmp}
use Rattle.wh_words.specs.Levels.{IsLevelMove}
use Rattle.wh_words.proofs.Elements.{contains_none}
use Rattle.wh_expand.specs.Rows.{AreLevelMoves}
use Rattle.wh_expand.proofs.FirstMoves.{sorted_push}
use Rattle.wh_level.proofs.LawProofs.{sorted_within}
use Rattle.wh_stab.specs.Presentations.{Start, start_cmp, IsOfTree, IsOffTree, AreGenerators}
use Rattle.wh_stab.proofs.Places.{start_cmp_total, sorted_places, contained}
use Rattle.wh_stab.proofs.Words.{same_off}
use Rattle.wh_data.specs.AnswerData.{PartsData}
use Rattle.wh_cert.specs.Demands.{presented_by}
use Rattle.wh_cert.specs.VertexWays.{AreVertices}
use Rattle.wh_cert.specs.OffTree.{IsEarly, AreFirstOffTree, HasMoreOffTree}

module _ (p : PartsData) where
  none_first : AreFirstOffTree p 0 [] []
  unfolding IsStrictlySortedBy
  none_first = record {
    sorted = tt;
    exact = λ s. (
      λ c. absurd (contains_none s c),
      λ h. absurd (elim h.1 [
        | inl a ↦ omega (arith, a)
        | inr b ↦ contains_none s.1 b.1
      ]),
    );
  }

  pub first_none : (gs : List Start) → gs ≡ [] → AreFirstOffTree p 0 [] gs
  first_none gs is = subst (AreFirstOffTree p 0 []) (sym is) none_first

  module _ (n : ℕ) (t : TupleData) (at : slice_get p.vertices n ≡ Some t) where
    -- A move along the tree adds nothing.
    along : (ms : List Move) (m : Move) (gs : List Start) → IsOfTree (presented_by p []) t m → AreFirstOffTree p n ms gs → AreFirstOffTree p n (ms ++ m ∷ []) gs
    along ms m gs tree first = record { sorted = first.sorted; exact = λ s. (there s, back s) }
      where
        there : (s : Start) → Contains gs s → IsOffTree (presented_by p []) s × IsEarly n (ms ++ m ∷ []) s
        there s c = (
          ((first.exact s).0 c).0,
          elim ((first.exact s).0 c).1 [
            | inl a ↦ inl a
            | inr b ↦ inr (b.0, Contains-append_left ms (m ∷ []) s.1 b.1)
          ],
        )

        not_this : (s : Start) → IsOffTree (presented_by p []) s → s.0 ≡ n → m ≡ s.1 → ⊥
        not_this s off from via =
            let same : off.tuple ≡ t = same_Some off.tuple t (sym off.starts ∙ ap (slice_get p.vertices) from ∙ at) in
            off.off (subst (λ (u : TupleData). IsOfTree (presented_by p []) u s.1) (sym same) (subst (IsOfTree (presented_by p []) t) via tree))

        back : (s : Start) → IsOffTree (presented_by p []) s × IsEarly n (ms ++ m ∷ []) s → Contains gs s
        back s h = elim h.1 [
          | inl a ↦ (first.exact s).1 (h.0, inl a)
          | inr b ↦ elim (Contains-push_cases ms m s.1 b.1) [
            | inl k ↦ (first.exact s).1 (h.0, inr (b.0, k))
            | inr q ↦ absurd (not_this s h.0 b.0 q)
          ]
        ]

    -- Another level move adds its edge.
    off : (ms : List Move) (m : Move) (gs : List Start) → ((x : Move) → Contains ms x → move_cmp x m ≡ Less) → IsLevelMove t m → ¬ (IsOfTree (presented_by p []) t m) → AreFirstOffTree p n ms gs → AreFirstOffTree p n (ms ++ m ∷ []) (gs ++ (n, m) ∷ [])
    off ms m gs rising level not_tree first = record {
      sorted = sorted_push start_cmp gs (n, m) first.sorted (λ k d within. below (get_or gs k d) (Contains-get_or gs k d within));
      exact = λ s. (there s, back s);
    }
      where
        is : IsOffTree (presented_by p []) (n, m)
        is = record { tuple = t; starts = at; moves = level; off = not_tree }

        below : (s : Start) → Contains gs s → start_cmp s (n, m) ≡ Less
        below s c = elim ((first.exact s).0 c).1 [
          | inl less ↦ ap (λ (o : Ordering). ordering_then o (move_cmp s.1 m)) (sym (nat_cmp_is s.0 n Less less))
          | inr k ↦ ap (λ (o : Ordering). ordering_then o (move_cmp s.1 m)) (ap (nat_cmp s.0) (sym k.0) ∙ tied_itself nat_cmp_total s.0) ∙ rising s.1 k.1
        ]

        later : (s : Start) → IsEarly n ms s → IsEarly n (ms ++ m ∷ []) s
        later s (inl a) = inl a
        later s (inr b) = inr (b.0, Contains-append_left ms (m ∷ []) s.1 b.1)

        there : (s : Start) → Contains (gs ++ (n, m) ∷ []) s → IsOffTree (presented_by p []) s × IsEarly n (ms ++ m ∷ []) s
        there s c = elim (Contains-push_cases gs (n, m) s c) [
          | inl k ↦ (((first.exact s).0 k).0, later s ((first.exact s).0 k).1)
          | inr q ↦ subst (λ (y : Start). IsOffTree (presented_by p []) y × IsEarly n (ms ++ m ∷ []) y) q (is, inr (refl, Contains-push ms m))
        ]

        back : (s : Start) → IsOffTree (presented_by p []) s × IsEarly n (ms ++ m ∷ []) s → Contains (gs ++ (n, m) ∷ []) s
        back s h = elim h.1 [
          | inl a ↦ Contains-append_left gs ((n, m) ∷ []) s ((first.exact s).1 (h.0, inl a))
          | inr b ↦ elim (Contains-push_cases ms m s.1 b.1) [
            | inl k ↦ Contains-append_left gs ((n, m) ∷ []) s ((first.exact s).1 (h.0, inr (b.0, k)))
            | inr q ↦ subst (Contains (gs ++ (n, m) ∷ [])) (ap (λ (v : ℕ). (v, m)) (sym b.0) ∙ ap (λ (x : Move). (s.0, x)) q) (Contains-push gs (n, m))
          ]
        ]

    module _ (ms : List Move) (are : AreLevelMoves t ms) where
      rising_at : (k : ℕ) (m : Move) → k < length ms → m ≡ get_or ms k m → (x : Move) → Contains (take k ms) x → move_cmp x m ≡ Less
      rising_at k m within item x c =
          let low : c.0 < k = omega (arith, c.1, length-take k ms) in
          let here : get_or ms c.0 x ≡ x = sym (get_or-take k ms c.0 x low) ∙ c.2 in
          let there : get_or ms k x ≡ m = sym (get_or_read ms k m within item x) in
          ap (λ y. move_cmp y m) (sym here) ∙ ap (move_cmp (get_or ms c.0 x)) (sym there) ∙ Less-from_sorted move_cmp ms c.0 k x are.sorted low within

      more : (k : ℕ) (m : Move) → k < length ms → m ≡ get_or ms k m → take k ms ++ m ∷ [] ≡ take (k + 1) ms
      more k m within item = ap (λ (x : Move). take k ms ++ x ∷ []) item ∙ sym (take_more ms k m within)

      pub along_next : (k : ℕ) (m : Move) (gs : List Start) → k < length ms → m ≡ get_or ms k m → IsOfTree (presented_by p []) t m → AreFirstOffTree p n (take k ms) gs → AreFirstOffTree p n (take (k + 1) ms) gs
      along_next k m gs within item tree first = subst (λ (ns : List Move). AreFirstOffTree p n ns gs) (more k m within item) (along (take k ms) m gs tree first)

      pub off_next : (k : ℕ) (m : Move) (gs : List Start) → k < length ms → m ≡ get_or ms k m → ¬ (IsOfTree (presented_by p []) t m) → AreFirstOffTree p n (take k ms) gs → AreFirstOffTree p n (take (k + 1) ms) (gs ++ (n, m) ∷ [])
      off_next k m gs within item not_tree first =
          subst (λ (ns : List Move). AreFirstOffTree p n ns (gs ++ (n, m) ∷ [])) (more k m within item)
          (off (take k ms) m gs (rising_at k m within item) ((are.exact m).0 (k, within, sym item)) not_tree first)

      -- All moves of the vertex.
      pub first_row : (k : ℕ) (gs : List Start) → length ms ≤ k → AreFirstOffTree p n (take k ms) gs → AreFirstOffTree p (n + 1) [] gs
      first_row k gs all first = record { sorted = first.sorted; exact = λ s. (there s, back s) }
        where
          whole : AreFirstOffTree p n ms gs
          whole = subst (λ (ns : List Move). AreFirstOffTree p n ns gs) (take_all k ms all) first

          there : (s : Start) → Contains gs s → IsOffTree (presented_by p []) s × IsEarly (n + 1) [] s
          there s c = (
            ((whole.exact s).0 c).0,
            elim ((whole.exact s).0 c).1 [
              | inl a ↦ inl (omega (arith, a))
              | inr b ↦ inl (omega (arith, b.0))
            ],
          )

          at_last : (s : Start) → IsOffTree (presented_by p []) s → s.0 < n + 1 → Contains gs s
          at_last s edge a = elim (cases_lt s.0 n) [
            | inl low ↦ (whole.exact s).1 (edge, inl low)
            | inr high ↦
                let from : s.0 ≡ n = omega (arith, a, high) in
                let start : edge.tuple ≡ t = same_Some edge.tuple t (sym edge.starts ∙ ap (slice_get p.vertices) from ∙ at) in
                (whole.exact s).1 (edge, inr (from, (are.exact s.1).1 (subst (λ u. IsLevelMove u s.1) start edge.moves)))
          ]

          back : (s : Start) → IsOffTree (presented_by p []) s × IsEarly (n + 1) [] s → Contains gs s
          back s h = elim h.1 [
            | inl a ↦ at_last s h.0 a
            | inr b ↦ absurd (contains_none s.1 b.1)
          ]

  -- Those from all vertices are all edges off the tree.
  pub first_all : (n : ℕ) (gs : List Start) → length p.vertices ≤ n → AreFirstOffTree p n [] gs → AreGenerators (presented_by p gs)
  first_all n gs all first = record {
    sorted = first.sorted;
    exact = λ s. (
      λ c. same_off (presented_by p []) (presented_by p gs) s refl refl ((first.exact s).0 c).0,
      λ edge. (first.exact s).1 (same_off (presented_by p gs) (presented_by p []) s refl refl edge, inl (omega (arith, all, slice_get_within p.vertices s.0 edge.tuple edge.starts))),
    );
  }

  -- There are no fewer than those from the first vertices.
  pub more_off_tree : (n most : ℕ) (gs : List Start) → AreFirstOffTree p n [] gs → most < length gs → HasMoreOffTree p most
  more_off_tree n most gs first more es are =
      omega (arith, more, sorted_within start_cmp_total gs es first.sorted are.sorted (λ s c. (are.exact s).1 (same_off (presented_by p []) (presented_by p es) s refl refl ((first.exact s).0 c).0)))

-- ---- whether an edge is one of the tree
module _ (p : PartsData) (from : ℕ) (t : TupleData) (m : Move) (sorted : IsStrictlySortedBy tuple_cmp p.vertices) (at : slice_get p.vertices from ≡ Some t) where
  -- The image stands at a place.
  pub tree_told : (to : ℕ) (b : Bool) → slice_get p.vertices to ≡ Some (act t m) → IsTrue b ↔ (slice_get p.tree to ≡ Some (Some (from, m))) → MatchBool b (IsOfTree (presented_by p []) t m) (¬ (IsOfTree (presented_by p []) t m))
  tree_told to true ends told = record { from = from; to = to; starts = at; ends = ends; parent = told.0 refl }
  tree_told to false ends told = λ e.
      let a : e.from ≡ from = sorted_places tuple_cmp_total p.vertices e.from from t sorted e.starts at in
      let b : e.to ≡ to = sorted_places tuple_cmp_total p.vertices e.to to (act t m) sorted e.ends ends in
      true≢false (sym (told.1 (sym (ap (slice_get p.tree) b) ∙ e.parent ∙ ap (λ (v : ℕ). Some (Some (v, m))) a)))

  -- The image isn't a vertex.
  pub not_told : ¬ (Contains p.vertices (act t m)) → ¬ (IsOfTree (presented_by p []) t m)
  not_told off = λ e. off (contained p.vertices e.to (act t m) e.ends)

-- The level moves of a vertex are of the rank of all vertices.
pub moves_there : (n : ℕ) (ts : List TupleData) (t : TupleData) (ms : List Move) → AreVertices n ts → Contains ts t → AreLevelMoves t ms → All (λ m. AreVertices m.rank ts) ms
moves_there n ts t ms vertices there are k d within =
    let m : Move = get_or ms k d in
    let level : IsLevelMove t m = (are.exact m).0 (Contains-get_or ms k d within) in
    subst (λ (r : ℕ). AreVertices r ts) (sym (level.rank ∙ vertices.rank t there)) vertices
