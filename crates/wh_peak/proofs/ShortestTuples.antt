-- Flat tuples are the shortest of their class, and share a level.
use Rattle.std.proofs.Common.{◌≡◌, ℕ, ◌≤◌, List, [], ◌∷◌, refl, sym, ap, subst, ◌∙◌, arith}
use Rattle.std.specs.Prelude.{◌++◌}
use Rattle.wh_words.proofs.MoveLists.{act_all-append}
use Rattle.wh_words.specs.Tuples.{TupleData, IsTuple, tuple_length}
use Rattle.wh_words.specs.Moves.{Kind, Move, cut_move}
use Rattle.wh_words.specs.Moves.Kind.{swap, invert, cut}
use Rattle.wh_words.specs.MoveLists.{inverse_list}
use Rattle.wh_words.specs.Action.{act, act_all}
use Rattle.wh_words.specs.Traces.{IsFlat, IsTrace}
use Rattle.wh_words.specs.Traces.IsTrace.{done, step}
use Rattle.wh_words.specs.Levels.{InLevel, Reaches, KeepsLength}
use Rattle.wh_words.specs.Levels.Reaches.{here, step as further}
use Rattle.wh_graph.proofs.Agreement.{flat_by_capacities, traces_agree}
use Rattle.wh_words.specs.Levels.KeepsLength.{done as kept_done, step as kept_step}
use Rattle.wh_moves.proofs.Walks.{reached_length, in_level_from_kept}
use Rattle.wh_peak.specs.Equivalence.{IsMoveOfRank, AreMovesOfRank, AreEquivalent, IsShortest}
use Rattle.wh_peak.specs.Laws.{EquivalenceIsReflexive, EquivalenceIsSymmetric, EquivalenceIsTransitive, FlatIsShortest, TightIsShortest, ShortestShareALevel, FlatEndsTell, TraceEndsTell, OtherLengthsTellApart, OtherLevelsTellApart}
use Rattle.wh_peak.proofs.Actions.{AreCyclic}
use Rattle.wh_peak.proofs.Lengths.{len, len-is}
use Rattle.wh_peak.proofs.KindLists.{act_kind, act_kinds, AreKinds, AreOfRank}
use Rattle.wh_peak.proofs.ExpandedSteps.{act_kinds-of_rank, turn_length}
use Rattle.wh_peak.proofs.FlatKinds.{Flat, flat_is_minimal}
use Rattle.wh_peak.proofs.OneLevel.{Keeps, LevelKinds, inverse_kinds, inverse_kinds-kinds, list_back, act_kinds-cyclic, flat_level}
use Rattle.wh_peak.proofs.MovesOfRank.{kinds, move_of, moves_of, are_kinds, move_of_rank, none_of_rank, more_of_rank, both_of_rank, inverse_of_rank, acted, acted_by, act_all-rank, cyclic_words, words_of_rank, acted_length, acted_tuple, list_undone}

-- ---- equivalence
pub equivalence_reflexive : EquivalenceIsReflexive
equivalence_reflexive t = record { moves = []; of_rank = none_of_rank t.rank; leads = refl }

pub equivalent-rank : (t u : TupleData) → AreEquivalent t u → u.rank ≡ t.rank
equivalent-rank t u e = ap (λ (s : TupleData). s.rank) (sym e.leads) ∙ act_all-rank t e.moves

pub equivalence_symmetric : EquivalenceIsSymmetric
equivalence_symmetric t u is e = record {
  moves = inverse_list e.moves;
  of_rank = subst (λ (n : ℕ). AreMovesOfRank n (inverse_list e.moves)) (sym (equivalent-rank t u e)) (inverse_of_rank t.rank e.moves e.of_rank);
  leads = ap (λ (s : TupleData). act_all s (inverse_list e.moves)) (sym e.leads) ∙ list_undone t e.moves is e.of_rank;
}

pub equivalence_transitive : EquivalenceIsTransitive
equivalence_transitive t u v e f = record {
  moves = e.moves ++ f.moves;
  of_rank = both_of_rank t.rank e.moves f.moves e.of_rank (subst (λ (n : ℕ). AreMovesOfRank n f.moves) (equivalent-rank t u e) f.of_rank);
  leads = act_all-append t e.moves f.moves ∙ (ap (λ (s : TupleData). act_all s f.moves) e.leads ∙ f.leads);
}

-- ---- flat tuples
-- No move shortens a flat tuple.
pub flat_words : (t : TupleData) → AreCyclic t.words → IsFlat t → Flat t.rank t.words
flat_words t c f (swap k) h = omega (arith, turn_length t.rank (swap k) h t.words c)
flat_words t c f (invert k) h = omega (arith, turn_length t.rank (invert k) h t.words c)
flat_words t c f (cut a set) h = omega (arith, f a set h, len-is t.words, len-is (act_kind (cut a set) t.words))

pub flat_shortest : (t : TupleData) → IsTuple t → IsFlat t → IsShortest t
flat_shortest t is f u e =
    omega (
      arith,
      flat_is_minimal t.rank t.words (cyclic_words t is) (words_of_rank t is) (flat_words t (cyclic_words t is) f) (kinds e.moves) (are_kinds t.rank e.moves e.of_rank),
      len-is t.words,
      acted_length t e.moves,
      ap tuple_length e.leads,
    )

shortest_flat : (t : TupleData) → t.rank ≤ 26 → IsShortest t → IsFlat t
shortest_flat t low s a set v =
    let m : Move = cut_move t.rank a set in
    s (act t m) (record { moves = m ∷ []; of_rank = more_of_rank t.rank m [] (move_of_rank t.rank (cut a set) low v) (none_of_rank t.rank); leads = refl })

pub flat_is_shortest : FlatIsShortest
flat_is_shortest t is low = (flat_shortest t is, shortest_flat t low)

pub tight_is_shortest : TightIsShortest
tight_is_shortest t is low = (λ h. flat_shortest t is ((flat_by_capacities t is).1 h), λ s. (flat_by_capacities t is).0 (shortest_flat t low s))

-- A flat tuple that a tuple is equivalent to isn't too long.
pub flat_tuple : (s u : TupleData) → IsTuple s → AreEquivalent s u → IsFlat u → IsTuple u
flat_tuple s u is e f =
    let words : List (List ℕ) = act_kinds (kinds e.moves) s.words in
    let hk : AreKinds s.rank (kinds e.moves) = are_kinds s.rank e.moves e.of_rank in
    let c : AreCyclic (act_kinds (kinds e.moves) s.words) = act_kinds-cyclic (kinds e.moves) s.words (cyclic_words s is) in
    let r : AreOfRank s.rank (act_kinds (kinds e.moves) s.words) = act_kinds-of_rank s.rank (kinds e.moves) s.words hk (words_of_rank s is) in
    let same : record { rank = s.rank; words = act_kinds (kinds e.moves) s.words } ≡ u = sym (acted s e.moves) ∙ e.leads in
    let low : len (act_kinds (kinds e.moves) s.words) ≤ len (act_kinds (inverse_kinds (kinds e.moves)) (act_kinds (kinds e.moves) s.words)) =
    flat_is_minimal s.rank (act_kinds (kinds e.moves) s.words) c r
    (flat_words (record { rank = s.rank; words = act_kinds (kinds e.moves) s.words }) c (subst IsFlat (sym same) f))
    (inverse_kinds (kinds e.moves)) (inverse_kinds-kinds s.rank (kinds e.moves) hk) in
    subst IsTuple e.leads (acted_tuple s e.moves is e.of_rank
    (omega (arith, acted_length s e.moves, low, ap len (list_back s.rank (kinds e.moves) hk s.words (cyclic_words s is)), len-is s.words, is.short)))

-- ---- one level
pub kept_moves : (t : TupleData) (L : ℕ) (ks : List Kind) → t.rank ≤ 26 → AreKinds t.rank ks → tuple_length t ≡ L → Keeps L ks t.words → KeepsLength t (moves_of t.rank ks)
kept_moves t L [] low h e k = kept_done
kept_moves t L (j ∷ ks) low h e k =
    let m : Move = move_of t.rank j in
    let same : tuple_length (act t m) ≡ L = sym (len-is (act_kind j t.words)) ∙ k.0 in
    kept_step (move_of_rank t.rank j low h.0).valid refl (same ∙ sym e) (kept_moves (act t m) L ks low h.1 same k.1)

pub shortest_share : ShortestShareALevel
shortest_share t u is low f g e =
    let hk : AreKinds t.rank (kinds e.moves) = are_kinds t.rank e.moves e.of_rank in
    let c : AreCyclic t.words = cyclic_words t is in
    let same : record { rank = t.rank; words = act_kinds (kinds e.moves) t.words } ≡ u = sym (acted t e.moves) ∙ e.leads in
    let l : LevelKinds t.rank (kinds e.moves) t.words =
    flat_level t.rank (kinds e.moves) t.words c (words_of_rank t is) hk (flat_words t c f)
    (flat_words (record { rank = t.rank; words = act_kinds (kinds e.moves) t.words }) (act_kinds-cyclic (kinds e.moves) t.words c) (subst IsFlat (sym same) g)) in
    let ends : act_all t (moves_of t.rank l.list) ≡ u = acted_by t t.rank l.list ∙ (ap (λ (ws : List (List ℕ)). record { rank = t.rank; words = ws }) l.leads ∙ same) in
    subst (InLevel t) ends (in_level_from_kept is (kept_moves t (tuple_length t) l.list low l.kinds refl (subst (λ (n : ℕ). Keeps n l.list t.words) (len-is t.words) l.keeps)))

-- ---- what tells that tuples aren't equivalent
pub walk-of_rank : {t u : TupleData} {ms : List Move} → Reaches t ms u → AreMovesOfRank t.rank ms
walk-of_rank {t} here = none_of_rank t.rank
walk-of_rank {t} (further {m = m} {ms = ms} l r) = more_of_rank t.rank m ms (record { valid = l.valid; rank = l.rank }) (walk-of_rank r)

pub walk-end : {t u : TupleData} {ms : List Move} → Reaches t ms u → act_all t ms ≡ u
walk-end here = refl
walk-end (further l r) = walk-end r

pub level_equivalent : (t u : TupleData) → InLevel t u → AreEquivalent t u
level_equivalent t u l = record { moves = l.0; of_rank = walk-of_rank l.1; leads = walk-end l.1 }

pub flat_ends_tell : FlatEndsTell
flat_ends_tell s t u v is other same low e f flat flat' = (
  λ q. shortest_share u v (flat_tuple s u is e flat) (omega (arith, low, equivalent-rank s u e)) flat flat'
      (equivalence_transitive u s v (equivalence_symmetric s u is e) (equivalence_transitive s t v q f)),
  λ l. equivalence_transitive s u t e (equivalence_transitive u v t (level_equivalent u v l) (equivalence_symmetric t v other f)),
)

pub trace_equivalent : {t u : TupleData} {ms : List Move} → t.rank ≤ 26 → IsTrace t ms u → AreEquivalent t u × IsFlat u
trace_equivalent {t} low (done f) = (equivalence_reflexive t, f)
trace_equivalent {t} {u} low (step {m = m} s r) =
    let rest : AreEquivalent (act t m) u × IsFlat u = trace_equivalent low r in
    let move : IsMoveOfRank t.rank m = subst (IsMoveOfRank t.rank) (sym s.is) (move_of_rank t.rank (cut s.multiplier s.set) low s.cut.valid) in
    (equivalence_transitive t (act t m) u (record { moves = m ∷ []; of_rank = more_of_rank t.rank m [] move (none_of_rank t.rank); leads = refl }) rest.0, rest.1)

pub trace_ends_tell : TraceEndsTell
trace_ends_tell s t u v ms ns is other same low p q =
    let low' : t.rank ≤ 26 = omega (arith, same, low) in
    let e : AreEquivalent s u × IsFlat u = trace_equivalent low ((traces_agree s u ms is low).1 p) in
    let f : AreEquivalent t v × IsFlat v = trace_equivalent low' ((traces_agree t v ns other low').1 q) in
    flat_ends_tell s t u v is other same low e.0 f.0 e.1 f.1

pub other_lengths : OtherLengthsTellApart
other_lengths s t u v ms ns is other same low p q n e = n (sym (reached_length ((trace_ends_tell s t u v ms ns is other same low p q).0 e).1))

pub other_levels : OtherLevelsTellApart
other_levels s t u v ms ns is other same low p q n e = n ((trace_ends_tell s t u v ms ns is other same low p q).0 e)
