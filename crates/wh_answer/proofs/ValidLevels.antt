-- The `level` line and the `at` lines of an answer are as they are asked to be.
use Rattle.std.proofs.Common.{ℕ, zero, suc, ◌+◌, ◌<◌, List, [], ◌∷◌, ◌++◌, length, subst, arith, Option, None, Some}
use Rattle.std.specs.Prelude.{IfSome}
use Rattle.std.specs.List.Sorted.{IsStrictlySortedBy}
use Rattle.std.proofs.lemmas.List.Elements.{All-nil, Contains-get_or}
use Rattle.std.proofs.lemmas.Map.Keys.{Less-from_sorted}
use Rattle.wh_words.specs.Tuples.{TupleData, tuple_cmp}
use Rattle.wh_words.specs.Action.{act}
use Rattle.wh_words.specs.Levels.{InLevel, IsLevel}
use Rattle.wh_words.specs.Levels.Reaches.{here}
use Rattle.wh_moves.proofs.Walks.{in_level_pushed, reached_length}
use Rattle.wh_cert.specs.Demands.{Placed, IsMet, has_root, rises, has_height, is_absent, is_closed, tuple_at, Rises, absent_asked, at_asked, level_asked, asked_below}
use Rattle.wh_cert.specs.Checks.{AreMet}
use Rattle.wh_cert.proofs.Judging.{one_met, both_met}
use Rattle.wh_answer.proofs.ValidSides.{each_met}

sorted_rises : (ts : List TupleData) (k : ℕ) → IsStrictlySortedBy tuple_cmp ts → k < length ts → Rises ts k
sorted_rises ts zero sorted l = tt
sorted_rises ts (suc k) sorted l = Less-from_sorted tuple_cmp ts k (suc k) (record { rank = 0; words = [] }) sorted (omega arith) l

absent_met : (root : TupleData) (second : Option TupleData) (place : ℕ) (t : TupleData) → IfSome second (λ s. ¬ (InLevel root s)) → InLevel root t → AreMet (absent_asked place second t)
absent_met root None place t off there = All-nil (λ (d : Placed). IsMet d.1)
absent_met root (Some second) place t off there = one_met place (is_absent second t) (λ e. off (subst (InLevel root) e there))

-- Where there is a second end, it isn't in the level.
module _ (root : TupleData) (second : Option TupleData) (ts : List TupleData) (level : IsLevel root ts) (off : IfSome second (λ s. ¬ (InLevel root s))) where
  inside : (k : ℕ) → k < length ts → InLevel root (tuple_at ts k)
  inside k l = (level.exact (tuple_at ts k)).0 (Contains-get_or ts k (record { rank = 0; words = [] }) l)

  at_met : (place k : ℕ) → k < length ts → AreMet (at_asked place root second ts k)
  at_met place k l =
      let t : TupleData = tuple_at ts k in
      let there : InLevel root t = inside k l in
      let last : List Placed = absent_asked (place + k) second t ++ (place + k, is_closed ts t) ∷ [] in
      both_met ((place + k, rises ts k) ∷ []) ((place + k, has_height root t) ∷ last) (one_met (place + k) (rises ts k) (sorted_rises ts k level.sorted l))
      (both_met ((place + k, has_height root t) ∷ []) last (one_met (place + k) (has_height root t) (reached_length there.1))
      (both_met (absent_asked (place + k) second t) ((place + k, is_closed ts t) ∷ []) (absent_met root second (place + k) t off there)
      (one_met (place + k) (is_closed ts t) (λ m moves. (level.exact (act t m)).1 (in_level_pushed there moves)))))

  pub level_met : (place : ℕ) → AreMet (level_asked place root second ts)
  level_met place =
      both_met ((place, has_root root ts) ∷ []) (asked_below (at_asked (place + 1) root second ts) (length ts)) (one_met place (has_root root ts) ((level.exact root).1 ([], here)))
      (each_met (at_asked (place + 1) root second ts) (length ts) (at_met (place + 1)))
