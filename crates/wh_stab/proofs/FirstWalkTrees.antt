-- The parents of a level are a tree of it.
use Rattle.std.proofs.Common.{◌≡◌, ℕ, ◌<◌, List, [], ◌∷◌, ◌++◌, length, reverse, get_or, Some, None, slice_get, sym, ap, ◌∙◌, subst, arith}
use Rattle.std.proofs.lemmas.List.{reverse-append}
use Rattle.std.proofs.lemmas.Option.{slice_get-get_or, slice_get_within, same_Some}
use Rattle.wh_words.specs.Tuples.{TupleData}
use Rattle.wh_words.specs.Moves.{Move}
use Rattle.wh_words.specs.Action.{act}
use Rattle.wh_words.specs.Levels.{IsLevelMove, Reaches}
use Rattle.wh_words.specs.Levels.Reaches.{here, step}
use Rattle.wh_moves.proofs.Walks.{reached_itself}
use Rattle.wh_peak.proofs.ShortestTuples.{walk-end}
use Rattle.wh_level.specs.Trees.{LeadsBack, IsWalkedTo}
use Rattle.wh_level.proofs.Paths.{leads_within, leads_one, closed_rooted}
use Rattle.wh_level.specs.Trees.LeadsBack.{root as back_root, step as back_step}
use Rattle.wh_stab.specs.SpanningTrees.{IsLink}
use Rattle.wh_stab.specs.Laws.{FirstWalksSpan}

-- A walk that ends with a move: where it was before, and that the move is a level move there.
record Parted (t u : TupleData) (ms : List Move) (m : Move) : Type 0 where
  before : TupleData
  leads : Reaches t ms before
  moves : IsLevelMove before m
  is : act before m ≡ u

part : (t u : TupleData) (ms : List Move) (m : Move) → Reaches t (ms ++ m ∷ []) u → Parted t u ms m
part t u [] m (step l r) = record { before = t; leads = here; moves = l; is = sym (reached_itself r) }
part t u (n ∷ ns) m (step l r) =
    let rest : Parted (act t n) u ns m = part (act t n) u ns m r in
    record { before = rest.before; leads = step l rest.leads; moves = rest.moves; is = rest.is }

one_end : {t u v : TupleData} {ms : List Move} → Reaches t ms u → Reaches t ms v → u ≡ v
one_end r s = sym (walk-end r) ∙ walk-end s

pub first_walks_span : FirstWalksSpan
first_walks_span l closed = record {
  count = closed.parents.count;
  links = linked;
  at_root = λ v e.
      let t : TupleData = get_or l.tuples v l.root in
      let at : slice_get l.tuples v ≡ Some t = slice_get-get_or l.tuples v l.root (omega (arith, slice_get_within l.parents v None e, closed.parents.count)) in
      at ∙ ap Some ((closed.parents.none v t at).0 e);
  rooted = closed_rooted l closed;
}
  where
    at_place : (v : ℕ) → v < length l.parents → slice_get l.tuples v ≡ Some (get_or l.tuples v l.root)
    at_place v h = slice_get-get_or l.tuples v l.root (omega (arith, h, closed.parents.count))

    linked : (v p : ℕ) (m : Move) → slice_get l.parents v ≡ Some (Some (p, m)) → IsLink l.tuples p m v
    linked v p m e =
        let t : TupleData = get_or l.tuples v l.root in
        let at : slice_get l.tuples v ≡ Some t = at_place v (slice_get_within l.parents v (Some (p, m)) e) in
        let walk : IsWalkedTo l.root l.parents v t = closed.parents.walks v t at in
        by t at walk.back walk.leads walk.first.leads
      where
        by : (t : TupleData) → slice_get l.tuples v ≡ Some t → (b : List Move) → LeadsBack l.parents v b → Reaches l.root (reverse b) t → IsLink l.tuples p m v
        by t at [] (back_root f) w = absurd (cc)
        by t at (n ∷ ns) (back_step {p = q} f r) w =
            let same : (q, n) ≡ (p, m) = same_Some (q, n) (p, m) (same_Some (Some (q, n)) (Some (p, m)) (sym f ∙ e)) in
            let back : LeadsBack l.parents p ns = subst (λ (k : ℕ). LeadsBack l.parents k ns) (ap (λ (x : ℕ × Move). x.0) same) r in
            let s : TupleData = get_or l.tuples p l.root in
            let at_p : slice_get l.tuples p ≡ Some s = at_place p (leads_within l.parents p ns back) in
            let walk : IsWalkedTo l.root l.parents p s = closed.parents.walks p s at_p in
            let parted : Parted l.root t (reverse ns) m =
            part l.root t (reverse ns) m (subst (λ (k : List Move). Reaches l.root k t) (reverse-append (n ∷ []) ns ∙ ap (λ (x : ℕ × Move). reverse ns ++ x.1 ∷ []) same) w) in
            let same_back : walk.back ≡ ns = leads_one l.parents p walk.back ns walk.leads back in
            let before : parted.before ≡ s = one_end parted.leads (subst (λ (k : List Move). Reaches l.root (reverse k) s) same_back walk.first.leads) in
            record {
              tuple = s;
              starts = at_p;
              moves = subst (λ (x : TupleData). IsLevelMove x m) before parted.moves;
              ends = at ∙ ap Some (sym parted.is ∙ ap (λ (x : TupleData). act x m) before);
            }
