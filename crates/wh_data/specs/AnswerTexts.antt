-- The text of an answer: its rows.
use Rattle.std.specs.Prelude.{ℕ, List, [], ◌∷◌, ◌++◌, length, codes, decimal}
use Rattle.wh_words.specs.Limits.{most_level_edges, most_relators}
use Rattle.wh_words.specs.Tuples.{TupleData}
use Rattle.wh_lines.specs.Rows.{Row, number_row, rows_text}
use Rattle.wh_fields.specs.TupleFields.{words_row}
use Rattle.wh_fields.specs.MoveFields.{moves_row}
use Rattle.wh_fields.specs.FlowFields.{flow_rows, HaveLines}
use Rattle.wh_data.specs.declared.command.Command.{Command}
use Rattle.wh_data.specs.declared.command.Command.TheVariants as commands
use Rattle.wh_data.specs.declared.answer.Bound.{Bound}
use Rattle.wh_data.specs.declared.answer.Bound.TheVariants as bounds
use Rattle.wh_data.specs.Commands.{heading_row}
use Rattle.wh_data.specs.AnswerData.{SideData, VerdictData, StabVerdictData, AnswerData}
use Rattle.wh_data.specs.AnswerData.VerdictData.{yes, no_length, no_level, undecided}
use Rattle.wh_data.specs.AnswerData.StabVerdictData.{done, stopped}
use Rattle.wh_data.specs.AnswerData.AnswerData.{reduce, decide, straighten, stabiliser}
use Rattle.wh_data.specs.PresentationTexts.{presentation_rows, HaveNumbers}

-- ---- sides and levels
-- The rows of a side: its trace, its end, and a flow for each generator.
abbrev pub side_rows : SideData → List Row
side_rows s = moves_row (codes "trace") s.trace ∷ words_row (codes "end") s.end.words ∷ flow_rows s.end.rank 0 s.flows

-- The rows of the tuples of a level.
abbrev pub at_rows : List TupleData → List Row
at_rows [] = []
at_rows (t ∷ ts) = words_row (codes "at") t.words ∷ at_rows ts

-- The rows of a level: how many tuples it has, and each of them.
abbrev pub level_rows : List TupleData → List Row
level_rows ts = number_row (codes "level") (length ts) ∷ at_rows ts

-- ---- verdicts
-- The bound that was met, as fields.
abbrev pub bound_fields : Bound → List (List ℕ)
bound_fields (bounds.Length n) = codes "length" ∷ decimal n ∷ []
bound_fields (bounds.Level n) = codes "level" ∷ decimal n ∷ []
bound_fields bounds.Edges = codes "edges" ∷ decimal most_level_edges ∷ []
bound_fields bounds.Relators = codes "relators" ∷ decimal most_relators ∷ []

-- The words of a verdict.
abbrev pub verdict_fields : VerdictData → List (List ℕ)
verdict_fields (yes ms) = codes "yes" ∷ []
verdict_fields (no_length a b) = codes "no" ∷ codes "length" ∷ []
verdict_fields (no_level a b ts) = codes "no" ∷ codes "level" ∷ []
verdict_fields (undecided bound) = codes "undecided" ∷ bound_fields bound

abbrev pub verdict_row : VerdictData → Row
verdict_row v = record { keyword = codes "verdict"; fields = verdict_fields v }

-- The rows after a verdict: the moves of a yes, or the two sides and, where their ends have one length, the level of a no.
abbrev pub verdict_rows : VerdictData → List Row
verdict_rows (yes ms) = moves_row (codes "moves") ms ∷ []
verdict_rows (no_length a b) = side_rows a ++ side_rows b
verdict_rows (no_level a b ts) = (side_rows a ++ side_rows b) ++ level_rows ts
verdict_rows (undecided bound) = []

-- The rows of a stabiliser: the side of the tuple, the level of its end, and what presents the stabiliser. Where a bound was met, the row of an undecided verdict.
abbrev pub stab_rows : StabVerdictData → List Row
stab_rows (done s p) = (side_rows s ++ level_rows p.vertices) ++ presentation_rows p
stab_rows (stopped bound) = verdict_row (undecided bound) ∷ []

-- ---- answers
abbrev pub done_row : Row
done_row = record { keyword = codes "done"; fields = [] }

-- The rows of a heading, a rank and a tuple.
abbrev pub tuple_rows : Command → TupleData → List Row
tuple_rows command t = heading_row command ∷ number_row (codes "rank") t.rank ∷ words_row (codes "tuple") t.words ∷ []

-- The rows before the sides: the heading, the rank, the tuples, and the verdict.
abbrev pub head_rows : AnswerData → List Row
head_rows (reduce t s) = tuple_rows commands.Reduce t
head_rows (straighten t given ms end) = tuple_rows commands.Straighten t
head_rows (stabiliser t v) = tuple_rows commands.Stabiliser t
head_rows (decide s t v) =
    heading_row commands.Decide ∷ number_row (codes "rank") s.rank
    ∷ words_row (codes "first") s.words ∷ words_row (codes "second") t.words ∷ verdict_row v ∷ []

-- The rows between these and the last.
abbrev pub body_rows : AnswerData → List Row
body_rows (reduce t s) = side_rows s
body_rows (decide s t v) = verdict_rows v
body_rows (straighten t given ms end) = moves_row (codes "given") given ∷ moves_row (codes "moves") ms ∷ words_row (codes "end") end.words ∷ []
body_rows (stabiliser t v) = stab_rows v

-- All rows of an answer.
abbrev pub rows_of : AnswerData → List Row
rows_of a = head_rows a ++ body_rows a ++ done_row ∷ []

-- The text of an answer.
unfoldable pub answer_text : AnswerData → List ℕ
answer_text a = rows_text (rows_of a)

-- ---- what can be printed
-- A side can be printed: it has a flow for each generator of the rank of its end, with a value that a line can tell.
abbrev pub IsPrintableSide : SideData → Type 0
IsPrintableSide s = HaveLines s.end.rank s.flows

abbrev pub IsPrintableVerdict : VerdictData → Type 0
IsPrintableVerdict (yes ms) = Unit {0}
IsPrintableVerdict (no_length a b) = IsPrintableSide a × IsPrintableSide b
IsPrintableVerdict (no_level a b ts) = IsPrintableSide a × IsPrintableSide b
IsPrintableVerdict (undecided bound) = Unit {0}

abbrev pub IsPrintableStab : StabVerdictData → Type 0
IsPrintableStab (done s p) = IsPrintableSide s × HaveNumbers p
IsPrintableStab (stopped bound) = Unit {0}

-- An answer can be printed: each of its sides can, and the vertices that it names have numbers of lines.
abbrev pub IsPrintable : AnswerData → Type 0
IsPrintable (reduce t s) = IsPrintableSide s
IsPrintable (decide s t v) = IsPrintableVerdict v
IsPrintable (straighten t given ms end) = Unit {0}
IsPrintable (stabiliser t v) = IsPrintableStab v
