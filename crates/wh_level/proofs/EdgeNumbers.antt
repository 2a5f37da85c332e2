-- The number of an edge, for `edge_number`.
use Rattle.std.proofs.Common.{◌≡◌, ℕ, ◌+◌, List, length, get_or, Option, Result, Ok, Err, sym, ap, ◌∙◌, subst, arith, inl, inr}
use Rattle.std.specs.Prelude.{MatchOption}
use Rattle.std.specs.Result.{result_ok}
use Rattle.std.specs.List.Sorted.{IsStrictlySortedBy, IsSortedBy, IsSearchInRange, IsBinarySearchResult}
use Rattle.std.specs.Ordering.{is_lt, is_gt, nat_cmp, ordering_then}
use Rattle.std.specs.Cmp.{IsTotalOrder, nat_cmp_total}
use Rattle.std.specs.FinMap.{nat_cmp-IsAntisymmetric}
use Rattle.std.specs.declared.cmp.Ordering.{Ordering}
use Rattle.std.specs.declared.cmp.Ordering.TheVariants.{Equal}
use Rattle.std.proofs.lemmas.Bool.{true≢false, cases_lt}
use Rattle.std.proofs.lemmas.Cmp.{tied_itself}
use Rattle.std.proofs.lemmas.Option.{slice_get-get_or, slice_get_within, get_or_from_slice_get}
use Rattle.std.proofs.lemmas.List.Sorted.{searchable_from_sorted}
use Rattle.std.proofs.lemmas.Map.Keys.{Less-from_sorted}
use Rattle.wh_words.specs.TupleTies.{then_equal}
use Rattle.wh_words.specs.Moves.{Move, move_cmp}
use Rattle.wh_moves.specs.MoveOrders.{move_cmp_total, same_move}
use Rattle.wh_level.specs.LevelEdges.{edge_cmp, IsEdgeNumber, LacksEdge}
use Rattle.wh_level.specs.declared.edge_list.Edge.{Edge}
use Rattle.wh_level.proofs.LevelEdges.{edge_cmp_total}
use Rattle.wh_level.proofs.Places.{not_lt_back}

-- Sorted edges are sorted as a search wants them.
searchable : (es : List Edge) → IsStrictlySortedBy edge_cmp es → IsSortedBy (λ a b. is_lt (edge_cmp a b)) es
searchable es s k d low l =
    not_lt_back (edge_cmp (get_or es k d) (get_or es (k + 1) d)) (edge_cmp (get_or es (k + 1) d) (get_or es k d)) (Less-from_sorted edge_cmp es k (k + 1) d s (omega arith) l)
    (IsTotalOrder.antisymm edge_cmp_total (get_or es k d) (get_or es (k + 1) d))

-- How an edge stands to one from a place by a move.
abbrev pub edge_order : ℕ → Move → Edge → Ordering
edge_order from via e = ordering_then (nat_cmp e.from from) (move_cmp e.via via)

module _ (es : List Edge) (from : ℕ) (via : Move) (sorted : IsStrictlySortedBy edge_cmp es) where
  at_edge : (k : ℕ) → IsEdgeNumber es from via k → (d : Edge) → edge_order from via (get_or es k d) ≡ Equal
  at_edge k is d =
      ap (edge_order from via) (get_or_from_slice_get es k is.edge d is.stands)
      ∙ ap (λ (o : Ordering). ordering_then o (move_cmp is.edge.via via)) (ap (λ n. nat_cmp n from) is.starts ∙ tied_itself nat_cmp_total from)
      ∙ ap (λ m. move_cmp m via) is.moves
      ∙ tied_itself move_cmp_total via

  pub numbered : (r : Result ℕ ℕ) (o : Option ℕ) → IsSearchInRange r (length es) → IsBinarySearchResult (edge_order from via) es r → o ≡ result_ok r
      → MatchOption o (LacksEdge es from via) (IsEdgeNumber es from via)
  numbered (Ok v) o range search is =
      let d : Edge = record { from = from; via = via; to = 0 } in
      let both = then_equal (nat_cmp (get_or es v d).from from) (move_cmp (get_or es v d).via via) (search d) in
      subst (λ (p : Option ℕ). MatchOption p (LacksEdge es from via) (IsEdgeNumber es from via)) (sym is) (record {
        edge = get_or es v d;
        stands = slice_get-get_or es v d range;
        starts = nat_cmp-IsAntisymmetric (get_or es v d).from from both.0;
        moves = same_move (get_or es v d).via via both.1;
      })
  numbered (Err i) o range search is =
      let d : Edge = record { from = from; via = via; to = 0 } in
      let parted = search (searchable_from_sorted edge_cmp_total (λ (y : Edge). y) es d (searchable es sorted)) in
      subst (λ (p : Option ℕ). MatchOption p (LacksEdge es from via) (IsEdgeNumber es from via)) (sym is) (λ k found.
      elim (cases_lt k i) [
        | inl below ↦ absurd (true≢false (ap is_lt (sym (parted.0 k d (omega arith) below) ∙ at_edge k found d)))
        | inr above ↦ absurd (true≢false (ap is_gt (sym (parted.1 k d above (slice_get_within es k found.edge found.stands)) ∙ at_edge k found d)))
      ])
