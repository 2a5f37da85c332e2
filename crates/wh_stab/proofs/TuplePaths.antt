-- The paths of a spanning tree lead to the tuples of the level.
use Rattle.std.proofs.Common.{◌≡◌, ℕ, zero, suc, cond, ◌<◌, Bool, true, false, List, [], ◌∷◌, ◌++◌, length, reverse, Some, None, slice_get, Contains, refl, sym, ap, ◌∙◌, subst, arith, inl, inr}
use Rattle.std.proofs.lemmas.Bool.{false≢true}
use Rattle.std.proofs.lemmas.List.{reverse-append}
use Rattle.std.proofs.lemmas.Option.{slice_get_within, same_Some}
use Rattle.std.specs.List.Sorted.{IsStrictlySortedBy}
use Rattle.std.specs.Ordering.{is_eq}
use Rattle.wh_words.specs.Tuples.{TupleData, tuple_cmp}
use Rattle.wh_words.specs.Moves.{Move}
use Rattle.wh_words.specs.Action.{act}
use Rattle.wh_words.specs.Levels.{Reaches, InLevel, IsLevel}
use Rattle.wh_words.specs.Levels.Reaches.{here}
use Rattle.wh_words.proofs.Elements.{contains_none, contains_cases}
use Rattle.wh_words.proofs.SameTuples.{tied, tied_with_itself}
use Rattle.wh_moves.proofs.Walks.{reaches_pushed}
use Rattle.wh_level.specs.Trees.{Parents, LeadsBack, HasWayBack, path_to}
use Rattle.wh_level.specs.Trees.LeadsBack.{root as back_root, step as back_step}
use Rattle.wh_level.proofs.SearchEnds.{same_places}
use Rattle.wh_level.proofs.Paths.{path_is as place_path}
use Rattle.wh_peak.specs.Stabilisers.{ArePaths}
use Rattle.wh_stab.specs.SpanningTrees.{IsLink, IsSpanningTree, place_of, tuple_path}
use Rattle.wh_stab.proofs.Places.{contained}

-- ---- places of tuples
pub place_there : (ts : List TupleData) (t : TupleData) → Contains ts t → slice_get ts (place_of ts t) ≡ Some t
place_there [] t c = absurd (contains_none t c)
place_there (u ∷ us) t c = by (place_there us t) (is_eq (tuple_cmp u t)) refl
  where
    by : (Contains us t → slice_get us (place_of us t) ≡ Some t) → (b : Bool) → is_eq (tuple_cmp u t) ≡ b → slice_get (u ∷ us) (cond b zero (suc (place_of us t))) ≡ Some t
    by later_there true e = ap Some (tied u t e)
    by later_there false e = later_there (elim (contains_cases u us t c) [
      | inl same ↦ absurd (false≢true (sym e ∙ ap (λ (x : TupleData). is_eq (tuple_cmp x t)) same ∙ ap is_eq (tied_with_itself t)))
      | inr later ↦ later
    ])

pub place_is : (ts : List TupleData) (v : ℕ) (t : TupleData) → IsStrictlySortedBy tuple_cmp ts → slice_get ts v ≡ Some t → place_of ts t ≡ v
place_is ts v t sorted h = same_places ts (place_of ts t) v t sorted (place_there ts t (contained ts v t h)) h

-- ---- paths
module _ (root : TupleData) (ts : List TupleData) (parents : Parents) (level : IsLevel root ts) (tree : IsSpanningTree root ts parents) where
  -- The way back from a place, turned round, leads from the root to its tuple.
  pub leads_there : (v : ℕ) (back : List Move) (t : TupleData) → LeadsBack parents v back → slice_get ts v ≡ Some t → Reaches root (reverse back) t
  leads_there v [] t (back_root e) h = subst (Reaches root []) (same_Some root t (sym (tree.at_root v e) ∙ h)) here
  leads_there v (m ∷ ms) t (back_step {p = p} e r) h =
      let link : IsLink ts p m v = tree.links v p m e in
      subst (λ (q : List Move). Reaches root q t) (sym (reverse-append (m ∷ []) ms))
      (subst (Reaches root (reverse ms ++ m ∷ [])) (same_Some (act link.tuple m) t (sym link.ends ∙ h))
      (reaches_pushed m (leads_there p ms link.tuple r link.starts) link.moves))

  -- The path to a tuple is the way back from its place, turned round.
  pub path_is : (v : ℕ) (back : List Move) (t : TupleData) → slice_get ts v ≡ Some t → LeadsBack parents v back → tuple_path ts parents t ≡ reverse back
  path_is v back t h leads = ap (path_to parents) (place_is ts v t level.sorted h) ∙ place_path parents v back tree.rooted leads

  pub within : (v : ℕ) (t : TupleData) → slice_get ts v ≡ Some t → v < length parents
  within v t h = omega (arith, slice_get_within ts v t h, tree.count)

  -- The place and the tuple where the parents end.
  ends_at_root : (v : ℕ) (back : List Move) → LeadsBack parents v back → (r : ℕ) × (slice_get parents r ≡ Some None)
  ends_at_root v [] (back_root e) = (v, e)
  ends_at_root v (m ∷ ms) (back_step {p = p} e r) = ends_at_root p ms r

  -- The root has no parent, so that its way back is empty.
  pub root_back : (v : ℕ) (back : List Move) → slice_get ts v ≡ Some root → LeadsBack parents v back → back ≡ []
  root_back v [] h (back_root e) = refl
  root_back v (m ∷ ms) h (back_step {p = p} e r) =
      let end : (r : ℕ) × (slice_get parents r ≡ Some None) = ends_at_root p ms r in
      let same : end.0 ≡ v = same_places ts end.0 v root level.sorted (tree.at_root end.0 end.1) h in
      absurd (not_both (p, m) (sym (ap (slice_get parents) same) ∙ end.1) e)
    where
      not_both : (q : ℕ × Move) → slice_get parents v ≡ Some None → slice_get parents v ≡ Some (Some q) → ⊥
      not_both q f g = absurd (cc)

  pub listed : (t : TupleData) → InLevel root t → slice_get ts (place_of ts t) ≡ Some t
  listed t l = place_there ts t ((level.exact t).1 l)

  -- The paths of the tree are a choice of paths.
  pub tree_paths : ArePaths root (tuple_path ts parents)
  tree_paths = record {
    leads = λ t l.
        let v : ℕ = place_of ts t in
        let way : HasWayBack parents v = tree.rooted v (within v t (listed t l)) in
        subst (λ (p : List Move). Reaches root p t) (sym (path_is v way.back t (listed t l) way.leads)) (leads_there v way.back t way.leads (listed t l));
    at_root =
        let l : InLevel root root = ([], here) in
        let v : ℕ = place_of ts root in
        let way : HasWayBack parents v = tree.rooted v (within v root (listed root l)) in
        path_is v way.back root (listed root l) way.leads ∙ ap reverse (root_back v way.back (listed root l) way.leads);
  }
