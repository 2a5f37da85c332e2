-- The text of an answer that can be checked, of `reduce`, `decide` or `stabiliser`, and the first refusal of a text that isn't one.
use Rattle.std.specs.Prelude.{ℕ, ◌-◌, ◌==◌, leb, ltb, ◌&&◌, ◌||◌, Bool, false, cond, List, [], ◌∷◌, ◌++◌, length, map, take, drop, Option, Some, None, is_some, Result, Ok, Err, codes, decimal}
use Rattle.wh_data.specs.Limits.{most_answer_bytes}
use Rattle.wh_words.specs.Limits.{most_level_tuples, most_level_edges, most_relators}
use Rattle.wh_words.specs.Tuples.{TupleData}
use Rattle.wh_words.specs.Moves.{Move}
use Rattle.wh_data.specs.declared.command.Command.{Command}
use Rattle.wh_data.specs.declared.command.Command.TheVariants as commands
use Rattle.wh_lines.specs.declared.read_error.ReadError.{ReadError}
use Rattle.wh_lines.specs.declared.read_error.ReadError.TheVariants as errors
use Rattle.wh_lines.specs.Lines.{Field, are}
use Rattle.wh_lines.specs.Readings.{◌>>=◌, or_bad_line, refused_as}
use Rattle.wh_lines.specs.Numbers.{number}
use Rattle.wh_lines.specs.KeptLines.{Kept, Rest}
use Rattle.wh_lines.specs.KeptLines.Rest.{line as a_line, bad_byte, end as at_end}
use Rattle.wh_fields.specs.TupleFields.{tuple_at}
use Rattle.wh_fields.specs.FlowFields.{FlowData, flow_in}
use Rattle.wh_fields.specs.StabiliserFields.{TreeEdgeData, tree_edge_in, generator_in, RelatorLineData, relator_in}
use Rattle.wh_data.specs.Commands.{command_named, is_checked, is_unchecked_name, answer_version}
use Rattle.wh_text.specs.RankLines.{rank_after}
use Rattle.wh_data.specs.declared.answer.Loop.{Loop}
use Rattle.wh_data.specs.RootPlaces.{root_place}
use Rattle.wh_data.specs.AnswerData.{SideData, VerdictData, PartsData, AnswerData, CertificateData}
use Rattle.wh_data.specs.AnswerData.VerdictData.{yes, no_length, no_level}
use Rattle.wh_data.specs.AnswerData.StabVerdictData.{done}
use Rattle.wh_data.specs.AnswerData.AnswerData.{reduce, decide, stabiliser}
use Rattle.wh_lines.specs.LineReadings.{Reading, start, line_after, end_after, times}
use Rattle.wh_fields.specs.MoveFields.{moves_at}

-- A refusal of a line with a cause of its own in problems. Here such a line doesn't continue the text.
abbrev pub in_answer : ReadError → ReadError
in_answer (errors.NoRank l) = errors.BadLine l
in_answer (errors.RankRange l) = errors.BadLine l
in_answer (errors.TooManyWords l count) = errors.BadLine l
in_answer (errors.BadLetter l c) = errors.BadLine l
in_answer (errors.LongTuple l length) = errors.BadLine l
in_answer (errors.BadMove l c) = errors.BadLine l
in_answer e = e

-- The next line has this keyword and a tuple of rank n.
unfoldable pub tuple_after : List ℕ → ℕ → Reading → Result (TupleData × Reading) ReadError
tuple_after keyword n p =
    line_after keyword p >>= λ k.
    refused_as in_answer (tuple_at n k.0.number k.0.fields) >>= λ t.
    Ok (t, k.1)

-- The tuple of rank n of a line, which has as many words as the first tuple of the text.
unfoldable pub like_of : ℕ → ℕ → Kept → Result TupleData ReadError
like_of n count k =
    refused_as in_answer (tuple_at n k.number k.fields) >>= λ t.
    cond (length t.words == count) (Ok t) (Err (errors.BadLine k.number))

-- The next line has this keyword and such a tuple.
unfoldable pub like_after : List ℕ → ℕ → ℕ → Reading → Result (TupleData × Reading) ReadError
like_after keyword n count p =
    line_after keyword p >>= λ k.
    like_of n count k.0 >>= λ t.
    Ok (t, k.1)

-- The next line has this keyword and moves of rank n.
unfoldable pub moves_after : List ℕ → ℕ → Reading → Result (List Move × Reading) ReadError
moves_after keyword n p =
    line_after keyword p >>= λ k.
    refused_as in_answer (moves_at n k.0.number k.0.fields) >>= λ ms.
    Ok (ms, k.1)

-- The next line tells a flow in rank n.
unfoldable pub flow_after : ℕ → Reading → Result (FlowData × Reading) ReadError
flow_after n p =
    line_after (codes "flow") p >>= λ k.
    or_bad_line k.0.number (flow_in n k.0.fields) >>= λ f.
    Ok (f, k.1)

-- ---- sides and levels
-- A side, and the letters and values that its `flow` lines name.
pub record SideRead : Type 0 where
  pub side : SideData
  pub heads : List (ℕ × ℕ)

-- The side of a trace, an end and flows.
abbrev pub side_with : List Move → TupleData → List FlowData → SideRead
side_with ms t fs = record { side = record { trace = ms; end = t; flows = map (λ f. f.table) fs }; heads = map (λ f. f.head) fs }

-- The side of a trace and an end, with the flows of the next lines.
abbrev pub with_flows : ℕ → List Move → TupleData → Reading → Result (SideRead × Reading) ReadError
with_flows n ms t p =
    times (flow_after n) n p >>= λ fs.
    Ok (side_with ms t fs.0, fs.1)

-- The side of a trace, with the end and the flows of the next lines.
abbrev pub ended_after : ℕ → ℕ → List Move → Reading → Result (SideRead × Reading) ReadError
ended_after n count ms p =
    like_after (codes "end") n count p >>= λ t.
    with_flows n ms t.0 t.1

-- The next lines are a side in rank n: `trace`, `end`, and a `flow` line for each generator.
unfoldable pub side_after : ℕ → ℕ → Reading → Result (SideRead × Reading) ReadError
side_after n count p =
    moves_after (codes "trace") n p >>= λ ms.
    ended_after n count ms.0 ms.1

-- A number of a range.
abbrev pub within : ℕ → ℕ → Option ℕ → Option ℕ
within least most None = None
within least most (Some n) = cond (leb least n && leb n most) (Some n) None

-- The number of a range that the one field tells.
abbrev pub number_in : ℕ → ℕ → List Field → Option ℕ
number_in least most [] = None
number_in least most (f ∷ []) = within least most (number f.bytes)
number_in least most (f ∷ g ∷ fs) = None

-- The level of a `level` line, with its tuples of the next lines: as many `at` lines as it tells.
abbrev pub level_with : ℕ → ℕ → Kept → Reading → Result (List TupleData × Reading) ReadError
level_with n count k p =
    or_bad_line k.number (number_in 1 most_level_tuples k.fields) >>= λ size.
    times (like_after (codes "at") n count) size p

-- The next lines are a level in rank n: `level` with the number of its tuples, and an `at` line for each of them.
unfoldable pub level_after : ℕ → ℕ → Reading → Result (List TupleData × Reading) ReadError
level_after n count p =
    line_after (codes "level") p >>= λ k.
    level_with n count k.0 k.1

-- ---- verdicts
-- What a `verdict` line tells of a certificate.
pub data VerdictWord : Type 0 where
  a_yes : VerdictWord
  a_no_length : VerdictWord
  a_no_level : VerdictWord

-- Whether two fields tell a bound: a word and a number.
abbrev pub is_bound : List ℕ → List ℕ → Bool
is_bound word n = (are word (codes "length") || are word (codes "level")) && is_some (number n)

-- The verdict of the fields of line l. An undecided one is no certificate.
unfoldable pub verdict_in : ℕ → List Field → Result VerdictWord ReadError
verdict_in l [] = Err (errors.BadLine l)
verdict_in l (f ∷ []) = cond (are f.bytes (codes "yes")) (Ok a_yes) (Err (errors.BadLine l))
verdict_in l (f ∷ g ∷ []) =
    cond (are f.bytes (codes "no") && are g.bytes (codes "length")) (Ok a_no_length)
    (cond (are f.bytes (codes "no") && are g.bytes (codes "level")) (Ok a_no_level)
    (Err (errors.BadLine l)))
verdict_in l (f ∷ g ∷ h ∷ []) = cond (are f.bytes (codes "undecided") && is_bound g.bytes h.bytes) (Err (errors.NoCertificate l)) (Err (errors.BadLine l))
verdict_in l (f ∷ g ∷ h ∷ i ∷ fs) = Err (errors.BadLine l)

-- A verdict, and the letters and values that its `flow` lines name.
pub record VerdictRead : Type 0 where
  pub verdict : VerdictData
  pub heads : List (ℕ × ℕ)

-- The next lines are those of a yes.
abbrev pub yes_after : ℕ → Reading → Result (VerdictRead × Reading) ReadError
yes_after n p = moves_after (codes "moves") n p >>= λ ms. Ok (record { verdict = yes ms.0; heads = [] }, ms.1)

-- The next lines are two sides.
unfoldable pub sides_after : ℕ → ℕ → Reading → Result ((SideRead × SideRead) × Reading) ReadError
sides_after n count p =
    side_after n count p >>= λ a.
    side_after n count a.1 >>= λ b.
    Ok ((a.0, b.0), b.1)

-- The next lines are those of a no by lengths.
abbrev pub no_length_after : ℕ → ℕ → Reading → Result (VerdictRead × Reading) ReadError
no_length_after n count p = sides_after n count p >>= λ s. Ok (record { verdict = no_length s.0.0.side s.0.1.side; heads = s.0.0.heads ++ s.0.1.heads }, s.1)

-- The next lines are those of a no by a level.
abbrev pub no_level_after : ℕ → ℕ → Reading → Result (VerdictRead × Reading) ReadError
no_level_after n count p =
    sides_after n count p >>= λ s.
    level_after n count s.1 >>= λ ts.
    Ok (record { verdict = no_level s.0.0.side s.0.1.side ts.0; heads = s.0.0.heads ++ s.0.1.heads }, ts.1)

-- The lines after a verdict line.
abbrev pub verdict_with : ℕ → ℕ → VerdictWord → Reading → Result (VerdictRead × Reading) ReadError
verdict_with n count a_yes p = yes_after n p
verdict_with n count a_no_length p = no_length_after n count p
verdict_with n count a_no_level p = no_level_after n count p

-- The next lines are a verdict.
unfoldable pub verdict_after : ℕ → ℕ → Reading → Result (VerdictRead × Reading) ReadError
verdict_after n count p =
    line_after (codes "verdict") p >>= λ k.
    verdict_in k.0.number k.0.fields >>= λ word.
    verdict_with n count word k.1

-- ---- stabilisers
-- Whether two fields tell a bound of `stabiliser`: a word, and a number, which the word may tell.
abbrev pub is_stab_bound : List ℕ → List ℕ → Bool
is_stab_bound word n =
    is_bound word n
    || ((are word (codes "edges") && are n (decimal most_level_edges))
    || (are word (codes "relators") && are n (decimal most_relators)))

-- Whether fields tell an undecided verdict of `stabiliser`.
abbrev pub is_undecided_in : List Field → Bool
is_undecided_in [] = false
is_undecided_in (f ∷ []) = false
is_undecided_in (f ∷ g ∷ []) = false
is_undecided_in (f ∷ g ∷ h ∷ []) = are f.bytes (codes "undecided") && is_stab_bound g.bytes h.bytes
is_undecided_in (f ∷ g ∷ h ∷ i ∷ fs) = false

-- What is read, where the next line isn't a `verdict` line with an undecided verdict. Such an answer is no certificate.
abbrev pub unless_undecided : {A : Type 0} → Rest → Result A ReadError → Result A ReadError
unless_undecided (a_line k later) r = cond (are k.keyword (codes "verdict") && is_undecided_in k.fields) (Err (errors.NoCertificate k.number)) r
unless_undecided (bad_byte l c) r = r
unless_undecided (at_end l) r = r

-- The next line has the moves of a trace, with which a stabiliser begins that isn't undecided.
unfoldable pub stab_trace_after : ℕ → Reading → Result (List Move × Reading) ReadError
stab_trace_after n p = unless_undecided p.rest (moves_after (codes "trace") n p)

-- The next line tells an edge of a tree in rank n.
unfoldable pub tree_edge_after : ℕ → Reading → Result (TreeEdgeData × Reading) ReadError
tree_edge_after n p =
    line_after (codes "tree") p >>= λ k.
    or_bad_line k.0.number (tree_edge_in n k.0.fields) >>= λ e.
    Ok (e, k.1)

-- The next line tells a generator in rank n.
unfoldable pub generator_after : ℕ → Reading → Result ((ℕ × Move) × Reading) ReadError
generator_after n p =
    line_after (codes "generator") p >>= λ k.
    or_bad_line k.0.number (generator_in n k.0.fields) >>= λ g.
    Ok (g, k.1)

-- The next line tells a relator in rank n.
unfoldable pub relator_after : ℕ → Reading → Result (RelatorLineData × Reading) ReadError
relator_after n p =
    line_after (codes "relator") p >>= λ k.
    or_bad_line k.0.number (relator_in n k.0.fields) >>= λ r.
    Ok (r, k.1)

-- As many readings as a line tells that counts them, at most so many.
abbrev pub counted_with : {A : Type 0} → ℕ → (Reading → Result (A × Reading) ReadError) → Kept → Reading → Result (List A × Reading) ReadError
counted_with most each k p =
    or_bad_line k.number (number_in 0 most k.fields) >>= λ size.
    times each size p

-- The next line has this keyword and counts the readings of the lines after it.
abbrev pub counted_after : {A : Type 0} → List ℕ → ℕ → (Reading → Result (A × Reading) ReadError) → Reading → Result (List A × Reading) ReadError
counted_after keyword most each p =
    line_after keyword p >>= λ k.
    counted_with most each k.0 k.1

-- What presents a stabiliser, and the numbers of the vertices that its `tree` lines name.
pub record PartsRead : Type 0 where
  pub parts : PartsData
  pub heads : List ℕ

-- The parents of a tree: those of the edges that were read, one after another, where the root has none.
abbrev pub tree_with : ℕ → List TreeEdgeData → List (Option (ℕ × Move))
tree_with root es = map (λ e. Some (e.parent, e.move)) (take root es) ++ None ∷ map (λ e. Some (e.parent, e.move)) (drop root es)

-- The relator that a line tells.
abbrev pub loop_of : RelatorLineData → Loop
loop_of r = record { at = r.at; moves = r.moves; word = r.word }

-- What presents the stabiliser of an end by these vertices.
abbrev pub parts_with : TupleData → List TupleData → List TreeEdgeData → List (ℕ × Move) → List RelatorLineData → PartsRead
parts_with end vs es gs rs = record {
  parts = record { vertices = vs; tree = tree_with (root_place end vs) es; generators = gs; relators = map loop_of rs };
  heads = map (λ e. e.head) es;
}

-- The next lines present the stabiliser of an end by these vertices, in rank n: a `tree` line for each but one, then the generators and the relators, each with a line that counts them.
unfoldable pub parts_after : ℕ → TupleData → List TupleData → Reading → Result (PartsRead × Reading) ReadError
parts_after n end vs p =
    times (tree_edge_after n) (length vs - 1) p >>= λ es.
    counted_after (codes "generators") most_level_edges (generator_after n) es.1 >>= λ gs.
    counted_after (codes "relators") most_relators (relator_after n) gs.1 >>= λ rs.
    Ok (parts_with end vs es.0 gs.0 rs.0, rs.1)

-- ---- the text
-- An answer, the letters and values that its `flow` lines name, and the numbers of the vertices that its `tree` lines name.
pub record AnswerRead : Type 0 where
  pub answer : AnswerData
  pub heads : List (ℕ × ℕ)
  pub tree_heads : List ℕ

-- The lines of an answer of `reduce`, after that of the rank n.
unfoldable pub reduced_after : ℕ → Reading → Result (AnswerRead × Reading) ReadError
reduced_after n p =
    tuple_after (codes "tuple") n p >>= λ t.
    side_after n (length t.0.words) t.1 >>= λ s.
    Ok (record { answer = reduce t.0 s.0.side; heads = s.0.heads; tree_heads = [] }, s.1)

-- The answer of two tuples, with the verdict of the next lines.
abbrev pub with_verdict : ℕ → TupleData → TupleData → Reading → Result (AnswerRead × Reading) ReadError
with_verdict n s t p =
    verdict_after n (length s.words) p >>= λ v.
    Ok (record { answer = decide s t v.0.verdict; heads = v.0.heads; tree_heads = [] }, v.1)

-- The answer of a first tuple, with the second of the next line, and the verdict.
abbrev pub with_second : ℕ → TupleData → Reading → Result (AnswerRead × Reading) ReadError
with_second n s p =
    like_after (codes "second") n (length s.words) p >>= λ t.
    with_verdict n s t.0 t.1

-- The lines of an answer of `decide`.
unfoldable pub decided_after : ℕ → Reading → Result (AnswerRead × Reading) ReadError
decided_after n p =
    tuple_after (codes "first") n p >>= λ s.
    with_second n s.0 s.1

-- The answer of a tuple and its side, with the level and what presents the stabiliser of the next lines.
abbrev pub with_parts : ℕ → TupleData → SideRead → Reading → Result (AnswerRead × Reading) ReadError
with_parts n t s p =
    level_after n (length t.words) p >>= λ vs.
    parts_after n s.side.end vs.0 vs.1 >>= λ ps.
    Ok (record { answer = stabiliser t (done s.side ps.0.parts); heads = s.heads; tree_heads = ps.0.heads }, ps.1)

-- The answer of a tuple, with the side and all that follows it of the next lines.
abbrev pub with_stab : ℕ → TupleData → Reading → Result (AnswerRead × Reading) ReadError
with_stab n t p =
    stab_trace_after n p >>= λ ms.
    ended_after n (length t.words) ms.0 ms.1 >>= λ s.
    with_parts n t s.0 s.1

-- The lines of an answer of `stabiliser`.
unfoldable pub stabilised_after : ℕ → Reading → Result (AnswerRead × Reading) ReadError
stabilised_after n p =
    tuple_after (codes "tuple") n p >>= λ t.
    with_stab n t.0 t.1

-- The lines of an answer of a command. No heading that is read tells a command whose answers can't be checked.
abbrev pub answer_with : Command → ℕ → Reading → Result (AnswerRead × Reading) ReadError
answer_with commands.Reduce n p = reduced_after n p
answer_with commands.Decide n p = decided_after n p
answer_with commands.Straighten n p = Err (errors.NoCertificate 1)
answer_with commands.Stabiliser n p = stabilised_after n p

-- The command of a name in line l. Answers of other commands are no certificates.
abbrev pub checked_command : ℕ → List ℕ → Option Command → Result Command ReadError
checked_command l name (Some command) = cond (is_checked command) (Ok command) (Err (errors.NoCertificate l))
checked_command l name None = cond (is_unchecked_name name) (Err (errors.NoCertificate l)) (Err (errors.BadLine l))

abbrev pub command_at : ℕ → List ℕ → Result Command ReadError
command_at l name = checked_command l name (command_named name)

-- The command that the fields of line l tell after the keyword `whitehead`.
abbrev pub heading_in : ℕ → List Field → Result Command ReadError
heading_in l [] = Err (errors.BadLine l)
heading_in l (f ∷ []) = Err (errors.BadLine l)
heading_in l (f ∷ g ∷ []) = cond (are f.bytes answer_version) (command_at l g.bytes) (Err (errors.BadLine l))
heading_in l (f ∷ g ∷ h ∷ fs) = Err (errors.BadLine l)

-- The next line is a heading.
unfoldable pub heading_after : Reading → Result (Command × Reading) ReadError
heading_after p =
    line_after (codes "whitehead") p >>= λ k.
    heading_in k.0.number k.0.fields >>= λ command.
    Ok (command, k.1)

-- The last line is `done`.
unfoldable pub done_after : Reading → Result (Unit {0} × Reading) ReadError
done_after p =
    line_after (codes "done") p >>= λ k.
    cond (length k.0.fields == 0) (end_after k.1) (Err (errors.BadLine k.0.number))

-- An answer, where the text ends behind it.
abbrev pub with_end : AnswerRead → Reading → Result (AnswerRead × Reading) ReadError
with_end answer p = done_after p >>= λ end. Ok (answer, end.1)

-- The lines of a text, from the heading to the last.
unfoldable pub answer_after : Reading → Result (AnswerRead × Reading) ReadError
answer_after p =
    heading_after p >>= λ command.
    refused_as in_answer (rank_after command.0 command.1) >>= λ n.
    answer_with command.0 n.0 n.1 >>= λ answer.
    with_end answer.0 answer.1

-- The certificate that a text is, or its first refusal: its size first, then its lines in order. Its numbers are those of the lines that were taken.
unfoldable pub certificate : List ℕ → Result CertificateData ReadError
certificate bytes =
    cond (ltb most_answer_bytes (length bytes)) (Err (errors.InputTooLong most_answer_bytes))
    (answer_after (start bytes) >>= λ read.
    Ok (record { answer = read.0.answer; lines = read.1.taken; flow_heads = read.0.heads; tree_heads = read.0.tree_heads }))
