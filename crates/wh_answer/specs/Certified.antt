-- Answers as certificates: their text can be read back, and is valid; and what valid ones show.
use Rattle.std.specs.Prelude.{◌≡◌, ◌≢◌, ℕ, ◌≤◌, List, length}
use Rattle.wh_words.specs.Limits.{most_rank}
use Rattle.wh_words.specs.Tuples.{TupleData, IsTuple, tuple_length}
use Rattle.wh_words.specs.Moves.{Move}
use Rattle.wh_words.specs.Action.{act_all}
use Rattle.wh_words.specs.Levels.{InLevel}
use Rattle.wh_peak.specs.Equivalence.{AreMovesOfRank}
use Rattle.wh_words.specs.Composites.{composite}
use Rattle.wh_peak.specs.Stabilisers.{LeadsToFlat}
use Rattle.wh_nielsen.specs.Automorphisms.{IsAutomorphism, act_by, IsCarried}
use Rattle.wh_data.specs.AnswerTexts.{answer_text}
use Rattle.wh_data.specs.AnswerData.{VerdictData, StabVerdictData, AnswerData}
use Rattle.wh_data.specs.AnswerData.VerdictData.{yes, no_length, no_level, undecided}
use Rattle.wh_data.specs.AnswerData.StabVerdictData.{done, stopped}
use Rattle.wh_data.specs.AnswerData.AnswerData.{reduce, decide, straighten, stabiliser}
use Rattle.wh_data.specs.Limits.{most_answer_bytes}
use Rattle.wh_data.specs.AnswerParts.{IsCertificate, heads_of, tree_heads_of}
use Rattle.wh_cert.specs.Demands.{asked}
use Rattle.wh_cert.specs.Checks.{AreMet}
use Rattle.wh_answer.specs.StabiliserMeanings.{PresentsStabiliser}

-- The answer can be checked: it isn't undecided, and it isn't one of `straighten`.
abbrev pub IsDecided : AnswerData → Type 0
IsDecided (reduce t s) = Unit {0}
IsDecided (decide s t (undecided bound)) = ⊥
IsDecided (decide s t v) = Unit {0}
IsDecided (straighten t given ms end) = ⊥
IsDecided (stabiliser t (done s p)) = Unit {0}
IsDecided (stabiliser t (stopped bound)) = ⊥

-- The text of the answer is a certificate that isn't too long.
pub record IsReadable (a : AnswerData) : Type 0 where
  pub certificate : IsCertificate a
  pub short : length (answer_text a) ≤ most_answer_bytes

-- All that is asked of the lines of its text is so.
abbrev pub IsValid : AnswerData → Type 0
IsValid a = AreMet (asked (heads_of a) (tree_heads_of a) a)

-- ---- what a certificate shows, whoever wrote it
-- The ends of the sides of a verdict are tuples.
abbrev pub EndsAreTuples : VerdictData → Type 0
EndsAreTuples (yes ms) = Unit {0}
EndsAreTuples (no_length a b) = IsTuple a.end × IsTuple b.end
EndsAreTuples (no_level a b ts) = IsTuple a.end × IsTuple b.end
EndsAreTuples (undecided bound) = Unit {0}

-- The end of the side of a tuple is a tuple.
abbrev pub EndIsTuple : StabVerdictData → Type 0
EndIsTuple (done s p) = IsTuple s.end
EndIsTuple (stopped bound) = Unit {0}

-- The tuples of an answer and the ends of its sides are tuples, and the rank of its first tuple is at most 26.
abbrev pub HasTuples : AnswerData → Type 0
HasTuples (reduce t s) = IsTuple t × (t.rank ≤ most_rank) × IsTuple s.end
HasTuples (decide s t v) = IsTuple s × IsTuple t × (s.rank ≤ most_rank) × EndsAreTuples v
HasTuples (straighten t given ms end) = IsTuple t × (t.rank ≤ most_rank) × IsTuple end
HasTuples (stabiliser t v) = IsTuple t × (t.rank ≤ most_rank) × EndIsTuple v

-- The moves of a verdict, those of its sides among them, are moves of rank n.
abbrev pub HasMovesOfRank : ℕ → VerdictData → Type 0
HasMovesOfRank n (yes ms) = AreMovesOfRank n ms
HasMovesOfRank n (no_length a b) = AreMovesOfRank n a.trace × AreMovesOfRank n b.trace
HasMovesOfRank n (no_level a b ts) = AreMovesOfRank n a.trace × AreMovesOfRank n b.trace
HasMovesOfRank n (undecided bound) = Unit {0}

-- The moves of a trace are moves of rank n.
abbrev pub HasTraceOfRank : ℕ → StabVerdictData → Type 0
HasTraceOfRank n (done s p) = AreMovesOfRank n s.trace
HasTraceOfRank n (stopped bound) = Unit {0}

-- The moves of an answer are moves of its rank.
abbrev pub HasMoves : AnswerData → Type 0
HasMoves (reduce t s) = AreMovesOfRank t.rank s.trace
HasMoves (decide s t v) = HasMovesOfRank s.rank v
HasMoves (straighten t given ms end) = AreMovesOfRank t.rank given × AreMovesOfRank t.rank ms
HasMoves (stabiliser t v) = HasTraceOfRank t.rank v

-- No automorphism takes the first tuple to one that is shorter than the second.
abbrev pub IsShortestOf : TupleData → TupleData → Type 0
IsShortestOf t end = (u : TupleData) → IsCarried t u → tuple_length end ≤ tuple_length u

-- The moves carry the first tuple onto the second, and their composite is an automorphism that takes the one to the other.
pub record IsCarriedBy (s t : TupleData) (ms : List Move) : Type 0 where
  pub moves : act_all s ms ≡ t
  pub automorphism : IsAutomorphism s.rank (composite s.rank ms)
  pub carries : act_by (composite s.rank ms) s ≡ t

-- What a valid answer shows: for a tuple that is to be reduced, that its trace leads to an end that no cut shortens, and that no automorphism takes it to a shorter tuple; for a yes, that its moves are an automorphism that takes the first tuple to the second; and for a no, that the two traces lead to ends that no cut shortens, which have different lengths, or have one length where the second isn't in the level of the first, that no automorphism takes the first tuple to the second; and for a stabiliser, that the trace leads to an end that no cut shortens, and that what is told presents the stabiliser of the tuple.
abbrev pub Shows : AnswerData → Type 0
Shows (reduce t s) = LeadsToFlat t s.trace s.end × IsShortestOf t s.end
Shows (decide s t (yes ms)) = IsCarriedBy s t ms
Shows (decide s t (no_length a b)) = LeadsToFlat s a.trace a.end × LeadsToFlat t b.trace b.end × (tuple_length a.end ≢ tuple_length b.end) × ¬ (IsCarried s t)
Shows (decide s t (no_level a b ts)) = LeadsToFlat s a.trace a.end × LeadsToFlat t b.trace b.end × (tuple_length a.end ≡ tuple_length b.end) × ¬ (InLevel a.end b.end) × ¬ (IsCarried s t)
Shows (decide s t (undecided bound)) = Unit {0}
Shows (straighten t given ms end) = Unit {0}
Shows (stabiliser t (done s p)) = LeadsToFlat t s.trace s.end × PresentsStabiliser t s p
Shows (stabiliser t (stopped bound)) = Unit {0}
