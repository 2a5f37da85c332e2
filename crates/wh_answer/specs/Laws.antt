-- What holds of all answers, and of all valid certificates, as statements that contracts name.
use Rattle.std.specs.Prelude.{◌≡◌, ℕ, ◌≤◌, List, length}
use Rattle.wh_words.specs.Limits.{most_rank, most_level_rank, most_level_tuples, most_stabiliser_rank}
use Rattle.wh_words.specs.Tuples.{IsTuple}
use Rattle.wh_data.specs.declared.answer.Answer.{Answer}
use Rattle.wh_data.specs.ProblemData.{ProblemData}
use Rattle.wh_data.specs.ProblemData.ProblemData.{reduce, decide, straighten, stabiliser}
use Rattle.wh_data.specs.AnswerData.{AnswerData, answer_of}
use Rattle.wh_data.specs.AnswerTexts.{answer_text}
use Rattle.wh_data.specs.Statuses.{answer_status}
use Rattle.wh_data.specs.Numberings.{IsAnswerOfOneRank}
use Rattle.wh_peak.specs.Equivalence.{AreMovesOfRank}
use Rattle.wh_cert.specs.Demands.{asked}
use Rattle.wh_cert.specs.Checks.{AreMet}
use Rattle.wh_answer.specs.Answers.{Answers}
use Rattle.wh_answer.specs.Certified.{IsDecided, IsReadable, HasTuples, HasMoves, Shows}

-- What is known of a problem that was read: its tuples are of a rank that its command allows, two tuples have one rank and equally many words, and moves are of the rank of their tuple.
abbrev pub IsProblem : ProblemData → Type 0
IsProblem (reduce t) = IsTuple t × (1 ≤ t.rank) × (t.rank ≤ most_rank)
IsProblem (decide s t) = IsTuple s × IsTuple t × (s.rank ≡ t.rank) × (1 ≤ s.rank) × (s.rank ≤ most_level_rank) × (length s.words ≡ length t.words)
IsProblem (straighten t list) = IsTuple t × (1 ≤ t.rank) × (t.rank ≤ most_rank) × AreMovesOfRank t.rank list
IsProblem (stabiliser t) = IsTuple t × (1 ≤ t.rank) × (t.rank ≤ most_stabiliser_rank)

-- The problem asks for one answer: it isn't one of `straighten`, where each straight list serves.
abbrev pub AsksForOne : ProblemData → Type 0
AsksForOne (reduce t) = Unit {0}
AsksForOne (decide s t) = Unit {0}
AsksForOne (straighten t list) = ⊥
AsksForOne (stabiliser t) = Unit {0}

-- One status answers a problem, and one text, where it asks for one answer.
abbrev pub AnswerIsUnique : Type 0
AnswerIsUnique = (limit : ℕ) (p : ProblemData) (a b : Answer) → IsProblem p → Answers limit p a → Answers limit p b → (AsksForOne p → answer_text (answer_of a) ≡ answer_text (answer_of b)) × (answer_status a ≡ answer_status b)

-- What is answered to a problem that was read is a certificate whose text isn't too long, where it can be checked.
abbrev pub AnswersAreReadable : Type 0
AnswersAreReadable = (limit : ℕ) (p : ProblemData) (a : Answer) → limit ≤ most_level_tuples → IsProblem p → Answers limit p a → IsDecided (answer_of a) → IsReadable (answer_of a)

-- A certificate of which all that is asked is so, whoever wrote it, shows this, whatever letters and values its `flow` lines tell, and whatever vertices its `tree` lines name.
abbrev pub ValidShows : Type 0
ValidShows = (heads : List (ℕ × ℕ)) (tree_heads : List ℕ) (a : AnswerData) → IsAnswerOfOneRank a → HasTuples a → HasMoves a → AreMet (asked heads tree_heads a) → Shows a
