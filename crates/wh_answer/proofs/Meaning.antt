-- What a valid certificate shows, whoever wrote it.
use Rattle.std.proofs.Common.{◌≡◌, ◌≢◌, ℕ, Some, ◌+◌, ◌*◌, ◌<◌, List, [], ◌∷◌, length, refl, sym, subst, arith}
use Rattle.std.specs.List.{All}
use Rattle.std.proofs.lemmas.List.Elements.{All-from_get_or, All-contains}
use Rattle.wh_words.specs.Tuples.{TupleData, tuple_length}
use Rattle.wh_words.specs.Moves.{Move}
use Rattle.wh_words.specs.Levels.{InLevel}
use Rattle.wh_data.specs.AnswerData.VerdictData.{yes, no_length, no_level, undecided}
use Rattle.wh_data.specs.AnswerData.StabVerdictData.{done, stopped}
use Rattle.wh_data.specs.AnswerData.AnswerData.{reduce, decide, straighten, stabiliser}
use Rattle.wh_data.specs.Numberings.{side_lines}
use Rattle.wh_cert.specs.Demands.{Placed, fit_on_the_way, moves_carry, lengths_differ, lengths_agree, rises, has_height, is_absent, is_closed, tuple_at, sides_asked, level_asked}
use Rattle.wh_cert.specs.Checks.{AreMet}
use Rattle.wh_cert.proofs.MetParts.{first_part, rest_part, first_met, rest_met}
use Rattle.wh_cert.proofs.MetLevels.{root_in, tuple_met, stays}
use Rattle.wh_peak.specs.Equivalence.{AreMovesOfRank}
use Rattle.wh_peak.specs.Stabilisers.{LeadsToFlat}
use Rattle.wh_answer.specs.Laws.{ValidShows}
use Rattle.wh_answer.proofs.ShownSides.{side_shown, sides_shown}
use Rattle.wh_answer.proofs.ShownStabilisers.{stab_shown}
use Rattle.wh_answer.proofs.TrueVerdicts.{shortest_of, carried_by, none_off_level, none_of_length}

-- ---- levels
module _ (place : ℕ) (root second : TupleData) (ts : List TupleData) (met : AreMet (level_asked place root (Some second) ts)) where
  absent_at : (k : ℕ) → k < length ts → tuple_at ts k ≢ second
  absent_at k l =
      let at : ℕ = place + 1 + k in
      let t : TupleData = tuple_at ts k in
      let last : List Placed = (at, is_absent second t) ∷ (at, is_closed ts t) ∷ [] in
      first_met at (is_absent second t) ((at, is_closed ts t) ∷ []) (rest_met at (has_height root t) last (rest_met at (rises ts k) ((at, has_height root t) ∷ last) (tuple_met place root (Some second) ts met k l)))

  all_absent : All (λ t. t ≢ second) ts
  all_absent = All-from_get_or (λ t. t ≢ second) ts (record { rank = 0; words = [] }) absent_at

  off_level : ¬ (InLevel root second)
  off_level walk = All-contains (λ t. t ≢ second) ts second all_absent (stays place root (Some second) ts met (root_in place root (Some second) ts met) walk.1) refl

-- ---- answers
-- Moves of a rank are moves of an equal one.
of_other_rank : (n m : ℕ) (ms : List Move) → m ≡ n → AreMovesOfRank n ms → AreMovesOfRank m ms
of_other_rank n m ms same are = subst (λ (k : ℕ). AreMovesOfRank k ms) (sym same) are

pub valid_shows : ValidShows
valid_shows heads tree_heads (reduce t s) one are moves met =
    let leads = side_shown 3 heads t s moves are.2 (omega (arith, one.end, are.1)) met in
    (leads, shortest_of t s.end s.trace are.0 are.1 leads)
valid_shows heads tree_heads (decide s t (yes ms)) one are moves met =
    carried_by s t ms are.0 moves (first_met 5 (moves_carry s ms t) [] (rest_met 5 (fit_on_the_way s ms) ((5, moves_carry s ms t) ∷ []) met))
valid_shows heads tree_heads (decide s t (no_length a b)) one are moves met =
    let sides = sides_shown 5 s.rank heads s t a b lengths_differ moves.0 (of_other_rank s.rank t.rank b.trace one.0 moves.1)
    are.3.0 are.3.1 (omega (arith, one.1.0.end, are.2)) (omega (arith, one.1.1.end, are.2)) met in
    (sides.0, sides.1, sides.2, none_of_length s t a.end b.end a.trace b.trace are.0 are.1 (sym one.0) are.2 sides.0 sides.1 sides.2)
valid_shows heads tree_heads (decide s t (no_level a b ts)) one are moves met =
    let at : ℕ = 5 + 2 * side_lines s.rank in
    let sides : List Placed = sides_asked 5 s.rank heads s t a b lengths_agree in
    let level : List Placed = level_asked at a.end (Some b.end) ts in
    let shown : LeadsToFlat s a.trace a.end × LeadsToFlat t b.trace b.end × (tuple_length a.end ≡ tuple_length b.end) =
    sides_shown 5 s.rank heads s t a b lengths_agree moves.0 (of_other_rank s.rank t.rank b.trace one.0 moves.1)
    are.3.0 are.3.1 (omega (arith, one.1.0.end, are.2)) (omega (arith, one.1.1.end, are.2)) (first_part sides level met) in
    let off = off_level at a.end b.end ts (rest_part sides level met) in
    (shown.0, shown.1, shown.2, off, none_off_level s t a.end b.end a.trace b.trace are.0 are.1 (sym one.0) are.2 shown.0 shown.1 off)
valid_shows heads tree_heads (decide s t (undecided bound)) one are moves met = tt
valid_shows heads tree_heads (straighten t given ms end) one are moves met = tt
valid_shows heads tree_heads (stabiliser t (done s p)) one are moves met = stab_shown heads tree_heads t s p one are.0 are.1 are.2 moves met
valid_shows heads tree_heads (stabiliser t (stopped bound)) one are moves met = tt
