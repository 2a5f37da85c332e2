-- The search goes over a place, move by move.
use Rattle.std.proofs.Common.{inl, inr, ◌≡◌, ℕ, ◌+◌, ◌<◌, ◌≤◌, Bool, true, false, cond, List, [], ◌∷◌, ◌++◌, length, get_or, set, Some, slice_get, sym, ◌∙◌, subst}
use Rattle.std.proofs.lemmas.Bool.{cases_Bool}
use Rattle.std.proofs.lemmas.List.{length-set, get_or_read}
use Rattle.std.proofs.lemmas.Option.{slice_get_within, get_or_from_slice_get}
use Rattle.wh_words.specs.Tuples.{TupleData, IsTuple}
use Rattle.wh_words.specs.Moves.{Move}
use Rattle.wh_words.specs.Action.{act}
use Rattle.wh_expand.specs.Rows.{AreLevelMoves}
use Rattle.wh_expand.specs.TurnedCuts.{IsTurnedCut}
use Rattle.wh_expand.proofs.TurnedMoves.{turned_acts_before}
use Rattle.wh_level.specs.Searches.{SearchData, follow, IsSearched, HasCells, GoesOver}
use Rattle.wh_level.proofs.Stops.{IsUnderway, underway_before, underway_more}
use Rattle.wh_level.proofs.SearchEnds.{underway_start, underway_end}

-- The first moves of a place were followed, so many of them, from where the search had come to it.
pub record IsGoingOver (tuples : List TupleData) (v : ℕ) (t : TupleData) (moves : List Move) (first s : SearchData) (j : ℕ) : Type 0 where
  pub cells : HasCells (length tuples) s
  pub over : (root : TupleData) (at : ℕ) → slice_get first.queue at ≡ Some v → IsSearched root tuples first at → IsUnderway root tuples s at v t moves j

pub over_start : (tuples : List TupleData) (v : ℕ) (t : TupleData) (moves : List Move) (s : SearchData) → slice_get tuples v ≡ Some t → HasCells (length tuples) s → IsGoingOver tuples v t moves s s 0
over_start tuples v t moves s at_v cells = record {
  cells = cells;
  over = λ root at h u. underway_start u v t moves (slice_get_within s.queue at v h) (get_or_from_slice_get s.queue at v v h) at_v;
}

follow_cells : (n : ℕ) (s : SearchData) (v : ℕ) (m : Move) (to : ℕ) → HasCells n s → HasCells n (follow s v m to)
follow_cells n s v m to cells = elim (cases_Bool (get_or s.seen to false)) [
  | inl e ↦ subst (λ (b : Bool). HasCells n (cond b s (record { parents = set s.parents to (Some (v, m)); seen = set s.seen to true; queue = s.queue ++ to ∷ [] }))) (sym e) cells
  | inr e ↦ subst (λ (b : Bool). HasCells n (cond b s (record { parents = set s.parents to (Some (v, m)); seen = set s.seen to true; queue = s.queue ++ to ∷ [] }))) (sym e)
      (record { parents = length-set s.parents to (Some (v, m)) ∙ cells.parents; seen = length-set s.seen to true ∙ cells.seen })
]

pub over_more : (tuples : List TupleData) (v : ℕ) (t : TupleData) (moves : List Move) (first s next : SearchData) (j : ℕ) (m : Move) (to : ℕ)
    → AreLevelMoves t moves → j < length moves → m ≡ get_or moves j m → slice_get tuples to ≡ Some (act t m) → next ≡ follow s v m to
    → IsGoingOver tuples v t moves first s j → IsGoingOver tuples v t moves first next (j + 1)
over_more tuples v t moves first s next j m to row within item leads e u =
    subst (λ (x : SearchData). IsGoingOver tuples v t moves first x (j + 1)) (sym e) (record {
      cells = follow_cells (length tuples) s v m to u.cells;
      over = λ root at h w.
          underway_more (u.over root at h w) m to within (λ d. sym (get_or_read moves j m within item d)) row.sorted
          ((row.exact m).0 (j, within, sym item)) leads;
    })

-- A turned cut needn't be followed.
pub over_turned : (tuples : List TupleData) (v : ℕ) (t : TupleData) (moves : List Move) (first s : SearchData) (j : ℕ) (m : Move)
    → IsTuple t → AreLevelMoves t moves → j < length moves → m ≡ get_or moves j m → IsTurnedCut m.kind → IsGoingOver tuples v t moves first s j → IsGoingOver tuples v t moves first s (j + 1)
over_turned tuples v t moves first s j m is row within item turned u = record {
  cells = u.cells;
  over = λ root at h w.
      underway_before (u.over root at h w) m (λ d. sym (get_or_read moves j m within item d)) within row.sorted
      (turned_acts_before t moves j m is row within item turned);
}

pub over_end : (tuples : List TupleData) (v : ℕ) (t : TupleData) (moves : List Move) (first s : SearchData) (j : ℕ) → AreLevelMoves t moves → length moves ≤ j → IsGoingOver tuples v t moves first s j → GoesOver tuples v first s
over_end tuples v t moves first s j row all u = λ root at h w. underway_end (u.over root at h w) all (λ m l. (row.exact m).1 l)
