-- Paths along the parents of a tree, and first walks.
use Rattle.std.proofs.Common.{◌≡◌, ℕ, zero, suc, ◌+◌, ◌<◌, List, [], ◌∷◌, ◌++◌, length, reverse, get_or, refl, sym, ap, ◌∙◌, subst, arith, Some, None}
use Rattle.std.specs.Prelude.{slice_get}
use Rattle.std.proofs.lemmas.List.{append-nil, append_assoc, length-append}
use Rattle.std.proofs.lemmas.Option.{slice_get_within, slice_get-get_or, same_Some}
use Rattle.wh_words.specs.Tuples.{TupleData}
use Rattle.wh_words.specs.Moves.{Move}
use Rattle.wh_words.specs.Levels.{IsFirstWalk}
use Rattle.wh_level.specs.Trees.{Parents, LeadsBack, LevelData, IsClosedLevel, back_over, back_from, path_to, HasWayBack, IsRooted}
use Rattle.wh_level.specs.Trees.LeadsBack.{root, step}

pub leads_within : (parents : Parents) (v : ℕ) (ms : List Move) → LeadsBack parents v ms → v < length parents
leads_within parents v [] (root e) = slice_get_within parents v None e
leads_within parents v (m ∷ ms) (step {p = p} e r) = slice_get_within parents v (Some (p, m)) e

-- From a place there is one way back.
pub leads_one : (parents : Parents) (v : ℕ) (ms ns : List Move) → LeadsBack parents v ms → LeadsBack parents v ns → ms ≡ ns
leads_one parents v [] [] (root e) (root f) = refl
leads_one parents v [] (n ∷ ns) (root e) (step f s) = absurd (cc)
leads_one parents v (m ∷ ms) [] (step e r) (root f) = absurd (cc)
leads_one parents v (m ∷ ms) (n ∷ ns) (step {p = p} e r) (step {p = q} f s) =
    let same : (p, m) ≡ (q, n) = same_Some (p, m) (q, n) (same_Some (Some (p, m)) (Some (q, n)) (sym e ∙ f)) in
    let rest : ms ≡ ns = leads_one parents p ms ns r (subst (λ k. LeadsBack parents k ns) (sym (ap (λ (x : ℕ × Move). x.0) same)) s) in
    ap (λ k. k ∷ ms) (ap (λ (x : ℕ × Move). x.1) same) ∙ ap (λ k. n ∷ k) rest

-- The way back is what is computed.
back_is : (parents : Parents) (n v : ℕ) (ms : List Move) → LeadsBack parents v ms → length ms < n → back_from parents n v ≡ ms
unfolding back_from
back_is parents zero v ms h short = absurd (omega (arith, short))
back_is parents (suc n) v [] (root e) short = ap (back_over (back_from parents n)) e
back_is parents (suc n) v (m ∷ ms) (step {p = p} e r) short = ap (back_over (back_from parents n)) e ∙ ap (λ k. m ∷ k) (back_is parents n p ms r (omega (arith, short)))

-- So the path is the way back turned round.
pub path_is : (parents : Parents) (v : ℕ) (back : List Move) → IsRooted parents → LeadsBack parents v back → path_to parents v ≡ reverse back
path_is parents v back rooted leads =
    let way : HasWayBack parents v = rooted v (leads_within parents v back leads) in
    ap reverse (back_is parents (length parents) v way.back way.leads way.short ∙ leads_one parents v way.back back way.leads leads)

-- The parents of a closed level are rooted.
pub closed_rooted : (l : LevelData) → IsClosedLevel l → IsRooted l.parents
closed_rooted l closed v within =
    let walk = closed.parents.walks v (get_or l.tuples v l.root) (slice_get-get_or l.tuples v l.root (omega (arith, within, closed.parents.count))) in
    record { back = walk.back; leads = walk.leads; short = walk.short }

-- The path to a tuple of a closed level is its first walk.
pub first_path : (l : LevelData) (v : ℕ) (t : TupleData) → IsClosedLevel l → slice_get l.tuples v ≡ Some t → IsFirstWalk l.root t (path_to l.parents v)
first_path l v t closed at =
    let walk = closed.parents.walks v t at in
    subst (IsFirstWalk l.root t) (sym (path_is l.parents v walk.back (closed_rooted l closed) walk.leads)) walk.first

-- ---- the way back, for `tree_path`
-- After these moves back from a place the search is here, and the rest of the way leads to the root.
pub record IsOnTheWayBack (parents : Parents) (place here : ℕ) (moves : List Move) : Type 0 where
  pub rest : List Move
  pub leads : LeadsBack parents here rest
  pub whole : LeadsBack parents place (moves ++ rest)
  pub short : length moves + length rest < length parents
  pub within : here < length parents

pub way_start : (parents : Parents) (place : ℕ) (moves : List Move) → IsRooted parents → place < length parents → moves ≡ [] → IsOnTheWayBack parents place place moves
way_start parents place moves rooted within e =
    let way : HasWayBack parents place = rooted place within in
    record {
      rest = way.back;
      leads = way.leads;
      whole = subst (λ ms. LeadsBack parents place (ms ++ way.back)) (sym e) way.leads;
      short = omega (arith, way.short, ap length e);
      within = within;
    }

pub way_step : (parents : Parents) (place here parent : ℕ) (moves : List Move) (m : Move) → slice_get parents here ≡ Some (Some (parent, m)) → IsOnTheWayBack parents place here moves →
    IsOnTheWayBack parents place parent (moves ++ m ∷ [])
way_step parents place here parent moves m e way = stepped way.rest way.leads way.whole way.short
  where
    stepped : (rest : List Move) → LeadsBack parents here rest → LeadsBack parents place (moves ++ rest) → length moves + length rest < length parents → IsOnTheWayBack parents place parent (moves ++ m ∷ [])
    stepped [] (root f) whole short = absurd (cc)
    stepped (n ∷ ns) (step {p = q} f r) whole short =
        let same : (q, n) ≡ (parent, m) = same_Some (q, n) (parent, m) (same_Some (Some (q, n)) (Some (parent, m)) (sym f ∙ e)) in
        let leads : LeadsBack parents parent ns = subst (λ k. LeadsBack parents k ns) (ap (λ (x : ℕ × Move). x.0) same) r in
        record {
          rest = ns;
          leads = leads;
          whole = subst (λ ms. LeadsBack parents place ms) (ap (λ k. moves ++ k ∷ ns) (ap (λ (x : ℕ × Move). x.1) same) ∙ sym (append_assoc moves (m ∷ []) ns)) whole;
          short = omega (arith, short, length-append moves (m ∷ []));
          within = leads_within parents parent ns leads;
        }

pub way_end : (parents : Parents) (place here : ℕ) (moves : List Move) → IsRooted parents → slice_get parents here ≡ Some None → IsOnTheWayBack parents place here moves → reverse moves ≡ path_to parents place
way_end parents place here moves rooted e way = ended way.rest way.leads way.whole
  where
    ended : (rest : List Move) → LeadsBack parents here rest → LeadsBack parents place (moves ++ rest) → reverse moves ≡ path_to parents place
    ended [] (root f) whole = sym (path_is parents place moves rooted (subst (λ ms. LeadsBack parents place ms) (append-nil moves) whole))
    ended (n ∷ ns) (step f r) whole = absurd (cc)
