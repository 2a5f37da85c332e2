-- Edges of a tree, by paths: the path to the end of an edge is the path to its start and then the edge exactly where the edge is one of the tree.
use Rattle.std.proofs.Common.{◌≡◌, ℕ, List, [], ◌∷◌, ◌++◌, length, reverse, Some, None, slice_get, sym, ap, ◌∙◌, subst, arith}
use Rattle.std.proofs.lemmas.List.{reverse-append, reverse-reverse}
use Rattle.std.proofs.lemmas.Option.{same_Some}
use Rattle.wh_words.specs.Tuples.{TupleData}
use Rattle.wh_words.specs.Moves.{Move}
use Rattle.wh_words.specs.Action.{act}
use Rattle.wh_words.specs.Levels.{IsLevelMove, InLevel, IsLevel}
use Rattle.wh_moves.proofs.Walks.{in_level_pushed}
use Rattle.wh_level.specs.Trees.{Parents, LeadsBack, HasWayBack}
use Rattle.wh_level.specs.Trees.LeadsBack.{root as back_root, step as back_step}
use Rattle.wh_peak.proofs.ShortestTuples.{walk-end}
use Rattle.wh_stab.specs.SpanningTrees.{IsLink, IsSpanningTree, place_of}
use Rattle.wh_stab.specs.Presentations.{PresentationData, IsOfTree, path_of}
use Rattle.wh_stab.proofs.TuplePaths.{within, path_is, leads_there, listed}

same_parent : (parents : Parents) (v : ℕ) (q r : ℕ × Move) → slice_get parents v ≡ Some (Some q) → slice_get parents v ≡ Some (Some r) → q ≡ r
same_parent parents v q r e f = same_Some q r (same_Some (Some q) (Some r) (sym e ∙ f))

none_or_some : (parents : Parents) (v : ℕ) (q : ℕ × Move) → slice_get parents v ≡ Some None → slice_get parents v ≡ Some (Some q) → ⊥
none_or_some parents v q e f = absurd (cc)

module _ (root : TupleData) (p : PresentationData) (level : IsLevel root p.vertices) (tree : IsSpanningTree root p.vertices p.tree) where
  -- A way back from a place of which a parent is known.
  pub on_path : (t : TupleData) (m : Move) → IsOfTree p t m → path_of p (act t m) ≡ path_of p t ++ m ∷ []
  on_path t m e =
      let way : HasWayBack p.tree e.to = tree.rooted e.to (within root p.vertices p.tree level tree e.to (act t m) e.ends) in
      by way.back way.leads
    where
      by : (b : List Move) → LeadsBack p.tree e.to b → path_of p (act t m) ≡ path_of p t ++ m ∷ []
      by [] (back_root f) = absurd (none_or_some p.tree e.to (e.from, m) f e.parent)
      by (n ∷ ns) (back_step {p = q} f r) =
          let same : (q, n) ≡ (e.from, m) = same_parent p.tree e.to (q, n) (e.from, m) f e.parent in
          let before : LeadsBack p.tree e.from ns = subst (λ (k : ℕ). LeadsBack p.tree k ns) (ap (λ (x : ℕ × Move). x.0) same) r in
          path_is root p.vertices p.tree level tree e.to (n ∷ ns) (act t m) e.ends (back_step f r)
          ∙ (reverse-append (n ∷ []) ns
          ∙ (ap (λ (x : ℕ × Move). reverse ns ++ x.1 ∷ []) same
          ∙ ap (λ (k : List Move). k ++ m ∷ []) (sym (path_is root p.vertices p.tree level tree e.from ns t e.starts before))))

  pub of_tree : (t : TupleData) (m : Move) → InLevel root t → IsLevelMove t m → path_of p (act t m) ≡ path_of p t ++ m ∷ [] → IsOfTree p t m
  of_tree t m l edge e =
      let v : ℕ = place_of p.vertices t in
      let w : ℕ = place_of p.vertices (act t m) in
      let at_v : slice_get p.vertices v ≡ Some t = listed root p.vertices p.tree level tree t l in
      let at_w : slice_get p.vertices w ≡ Some (act t m) = listed root p.vertices p.tree level tree (act t m) (in_level_pushed l edge) in
      let back : HasWayBack p.tree v = tree.rooted v (within root p.vertices p.tree level tree v t at_v) in
      let end : HasWayBack p.tree w = tree.rooted w (within root p.vertices p.tree level tree w (act t m) at_w) in
      by v w at_v at_w back.back back.leads end.back end.leads
      (sym (path_is root p.vertices p.tree level tree w end.back (act t m) at_w end.leads) ∙ (e ∙ (ap (λ (k : List Move). k ++ m ∷ []) (path_is root p.vertices p.tree level tree v back.back t at_v back.leads) ∙ sym (reverse-append (m ∷ []) back.back))))
    where
      turned : (b c : List Move) → reverse b ≡ reverse c → b ≡ c
      turned b c h = sym (reverse-reverse b) ∙ (ap reverse h ∙ reverse-reverse c)

      first_of : Move → List Move → Move
      first_of d [] = d
      first_of d (n ∷ ns) = n

      rest_of : List Move → List Move
      rest_of [] = []
      rest_of (n ∷ ns) = ns

      by : (v w : ℕ) → slice_get p.vertices v ≡ Some t → slice_get p.vertices w ≡ Some (act t m) → (b : List Move) → LeadsBack p.tree v b → (c : List Move) → LeadsBack p.tree w c → reverse c ≡ reverse (m ∷ b) → IsOfTree p t m
      by v w at_v at_w b r [] s h = absurd (omega (arith, ap length (turned [] (m ∷ b) h)))
      by v w at_v at_w b r (n ∷ ns) (back_step {p = q} f s) h =
          let same : n ∷ ns ≡ m ∷ b = turned (n ∷ ns) (m ∷ b) h in
          let named : n ≡ m = ap (first_of m) same in
          let link : IsLink p.vertices q n w = tree.links w q n f in
          let before : LeadsBack p.tree q b = subst (LeadsBack p.tree q) (ap rest_of same) s in
          let start : link.tuple ≡ t =
          sym (walk-end (leads_there root p.vertices p.tree level tree q b link.tuple before link.starts)) ∙ walk-end (leads_there root p.vertices p.tree level tree v b t r at_v) in
          record { from = q; to = w; starts = link.starts ∙ ap Some start; ends = at_w; parent = f ∙ ap (λ (k : Move). Some (Some (q, k))) named }
