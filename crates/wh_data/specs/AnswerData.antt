-- What a text tells of an answer: all but the room of its tuples.
use Rattle.std.specs.Prelude.{ℕ, List, Option, map}
use Rattle.wh_words.specs.Tuples.{TupleData, Tuple}
use Rattle.wh_words.specs.Moves.{Move}
use Rattle.wh_data.specs.declared.answer.Side.{Side}
use Rattle.wh_data.specs.declared.answer.Bound.{Bound}
use Rattle.wh_data.specs.declared.answer.Verdict.{Verdict}
use Rattle.wh_data.specs.declared.answer.Verdict.TheVariants as verdicts
use Rattle.wh_data.specs.declared.answer.Loop.{Loop}
use Rattle.wh_data.specs.declared.answer.Parts.{Parts}
use Rattle.wh_data.specs.declared.answer.StabVerdict.{StabVerdict}
use Rattle.wh_data.specs.declared.answer.StabVerdict.TheVariants as stabs
use Rattle.wh_data.specs.declared.answer.Answer.{Answer}
use Rattle.wh_data.specs.declared.answer.Answer.TheVariants as answers
use Rattle.wh_data.specs.declared.numbered.Numbered.{Numbered}

-- The data of tuples.
abbrev pub plains : List Tuple → List TupleData
plains ts = map (λ t. t.plain) ts

-- A trace, its end, and a table of a flow for each generator.
pub record SideData : Type 0 where
  pub trace : List Move
  pub end : TupleData
  pub flows : List (List ℕ)

-- The moves of a yes, the sides and perhaps the level of a no, or the bound that was met.
pub data VerdictData : Type 0 where
  yes : List Move → VerdictData
  no_length : SideData → SideData → VerdictData
  no_level : SideData → SideData → List TupleData → VerdictData
  undecided : Bound → VerdictData

-- The vertices of a level, for each the parent and the move that leads from it, the generators and the relators.
pub record PartsData : Type 0 where
  pub vertices : List TupleData
  pub tree : List (Option (ℕ × Move))
  pub generators : List (ℕ × Move)
  pub relators : List Loop

-- The side of a tuple and what presents its stabiliser, or the bound that was met.
pub data StabVerdictData : Type 0 where
  done : SideData → PartsData → StabVerdictData
  stopped : Bound → StabVerdictData

-- The answer of a command.
pub data AnswerData : Type 0 where
  reduce : TupleData → SideData → AnswerData
  decide : TupleData → TupleData → VerdictData → AnswerData
  straighten : TupleData → List Move → List Move → TupleData → AnswerData
  stabiliser : TupleData → StabVerdictData → AnswerData

-- An answer, the numbers of the lines of its text that aren't skipped, the letter and the value that each `flow` line names, and the number of the vertex that each `tree` line names.
pub record CertificateData : Type 0 where
  pub answer : AnswerData
  pub lines : List ℕ
  pub flow_heads : List (ℕ × ℕ)
  pub tree_heads : List ℕ

-- ---- what values tell
abbrev pub side_of : Side → SideData
side_of s = record { trace = s.trace; end = s.end.plain; flows = s.flows }

abbrev pub verdict_of : Verdict → VerdictData
verdict_of (verdicts.Yes ms) = yes ms
verdict_of (verdicts.NoLength a b) = no_length (side_of a) (side_of b)
verdict_of (verdicts.NoLevel a b ts) = no_level (side_of a) (side_of b) (plains ts)
verdict_of (verdicts.Undecided bound) = undecided bound

abbrev pub parts_of : Parts → PartsData
parts_of p = record { vertices = plains p.vertices; tree = p.tree; generators = p.generators; relators = p.relators }

abbrev pub stab_verdict_of : StabVerdict → StabVerdictData
stab_verdict_of (stabs.Done s p) = done (side_of s) (parts_of p)
stab_verdict_of (stabs.Undecided bound) = stopped bound

abbrev pub answer_of : Answer → AnswerData
answer_of (answers.Reduce t s) = reduce t.plain (side_of s)
answer_of (answers.Decide s t v) = decide s.plain t.plain (verdict_of v)
answer_of (answers.Straighten t given ms end) = straighten t.plain given ms end.plain
answer_of (answers.Stabiliser t v) = stabiliser t.plain (stab_verdict_of v)

abbrev pub certificate_of : Numbered → CertificateData
certificate_of n = record { answer = answer_of n.answer; lines = n.lines; flow_heads = n.flow_heads; tree_heads = n.tree_heads }
