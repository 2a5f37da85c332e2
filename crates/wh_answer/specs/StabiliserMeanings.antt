-- What an answer on a stabiliser says, after McCool 1975.
use Rattle.std.specs.Prelude.{◌≡◌, ℕ, List, map}
use Rattle.std.specs.List.{All}
use Rattle.wh_words.specs.Words.{free_reduction}
use Rattle.wh_words.specs.Tuples.{TupleData}
use Rattle.wh_words.specs.Composites.{composite}
use Rattle.wh_peak.specs.Automorphisms.{Fixes}
use Rattle.wh_nielsen.specs.Automorphisms.{IsAutomorphism, act_by}
use Rattle.wh_stab.specs.Presentations.{PresentationData, generator_moves, word_moves, IsNumber}
use Rattle.wh_stab.specs.Laws.{IsRelator}
use Rattle.wh_data.specs.AnswerData.{SideData, PartsData, StabVerdictData}
use Rattle.wh_data.specs.AnswerData.StabVerdictData.{done, stopped}
use Rattle.wh_answer.specs.StabiliserAnswers.{told_loop}

-- What the side and the parts of an answer present.
abbrev pub told_presentation : SideData → PartsData → PresentationData
told_presentation s p = record { trace = s.trace; vertices = p.vertices; tree = p.tree; generators = p.generators }

-- The side and the parts present the stabiliser of the tuple: each generator fixes it, each automorphism that fixes it is a word of generators, and each relator is a relation between them.
pub record PresentsStabiliser (t : TupleData) (s : SideData) (p : PartsData) : Type 0 where
  pub fix : (k : ℕ) → IsNumber (told_presentation s p) k → Fixes (generator_moves (told_presentation s p) k) t
  pub generate : (ws : List (List ℕ)) → IsAutomorphism t.rank ws → act_by ws t ≡ t →
      (ks : List ℕ) × All (IsNumber (told_presentation s p)) ks × (composite t.rank (word_moves (told_presentation s p) ks) ≡ map free_reduction ws)
  pub relators : All (λ r. IsRelator t.rank (told_presentation s p) (told_loop r)) p.relators

-- What is found of a stabiliser says this: where it is made, that it is one.
abbrev pub SaysOfStabiliser : TupleData → StabVerdictData → Type 0
SaysOfStabiliser t (done s p) = PresentsStabiliser t s p
SaysOfStabiliser t (stopped bound) = Unit {0}
