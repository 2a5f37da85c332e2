-- What is answered to a problem that was read is a certificate whose text isn't too long, unless it is undecided.
use Rattle.std.proofs.Common.{◌≡◌, ℕ, ◌+◌, ◌≤◌, List, [], ◌∷◌, ◌++◌, length, get_or, reverse, refl, sym, ap, ◌∙◌, subst, arith, length-append}
use Rattle.std.specs.Prelude.{codes}
use Rattle.std.specs.List.{All}
use Rattle.std.proofs.lemmas.List.{length-map, length-reverse}
use Rattle.std.proofs.lemmas.List.Elements.{All-nil, All-append, All-weaker}
use Rattle.wh_words.specs.Tuples.{TupleData, Tuple, IsTuple}
use Rattle.wh_words.specs.Moves.{Move, inverse_move}
use Rattle.wh_words.specs.MoveLists.{inverse_list}
use Rattle.wh_words.specs.CapacityTraces.{IsCapacityTrace}
use Rattle.wh_level.specs.Trees.{LevelData}
use Rattle.wh_stab.specs.Relators.{relator_count}
use Rattle.wh_stab.specs.Stabilisers.{HasFewEdges}
use Rattle.wh_data.specs.declared.answer.Side.{Side}
use Rattle.wh_data.specs.declared.answer.Verdict.{Verdict}
use Rattle.wh_data.specs.declared.answer.Verdict.TheVariants.{Yes}
use Rattle.wh_data.specs.declared.answer.Parts.{Parts}
use Rattle.wh_data.specs.declared.answer.StabVerdict.{StabVerdict}
use Rattle.wh_data.specs.declared.answer.Answer.TheVariants as answers
use Rattle.wh_data.specs.ProblemData.ProblemData.{reduce, decide, straighten, stabiliser}
use Rattle.wh_lines.specs.Rows.{row_text, rows_text, number_row}
use Rattle.wh_lines.proofs.PrintedRows.{rows_append}
use Rattle.wh_fields.specs.TupleFields.{words_row, IsTupleOf}
use Rattle.wh_data.specs.declared.command.Command.TheVariants as commands
use Rattle.wh_data.specs.Commands.{heading_row}
use Rattle.wh_data.specs.AnswerTexts.{side_rows, level_rows, stab_rows, verdict_row, verdict_rows, done_row, head_rows, body_rows, answer_text}
use Rattle.wh_data.specs.AnswerData.{plains, side_of, verdict_of, parts_of, answer_of}
use Rattle.wh_data.specs.AnswerData.{AnswerData}
use Rattle.wh_data.specs.Limits.{most_answer_bytes}
use Rattle.wh_data.specs.AnswerData.StabVerdictData.{done}
use Rattle.wh_data.specs.AnswerData.AnswerData.{reduce as reduced, decide as decided, stabiliser as presented_of}
use Rattle.wh_fields.specs.MoveFields.{moves_row, IsMoveOf}
use Rattle.wh_fields.specs.FlowFields.{IsFlowOf}
use Rattle.wh_data.specs.AnswerParts.{IsVerdictOf, IsSideOf as IsSideOfRank, ArePartsOf as ArePartsOfRank, IsStabOf}
use Rattle.wh_data.specs.PresentationTexts.{presentation_rows}
use Rattle.wh_answer.specs.Sides.{IsSideOf}
use Rattle.wh_answer.specs.Answers.{Decides}
use Rattle.wh_answer.specs.Answers.Decides.{other_lengths, one_end, too_long, too_many, joined, off_level}
use Rattle.wh_answer.specs.StabiliserAnswers.{HasLevel, ArePartsOf, Presents}
use Rattle.wh_answer.specs.StabiliserAnswers.Presents.{too_long as too_long_end, too_many as too_many_tuples, many_edges, many_relators, presented}
use Rattle.wh_answer.specs.Certified.{IsDecided, IsReadable}
use Rattle.wh_answer.specs.Laws.{IsProblem, AnswersAreReadable}
use Rattle.wh_answer.proofs.OwnParts.{trace_moves, walk_moves, inverse_moves, trace_end, trace_length, flow_of_generator}
use Rattle.wh_answer.proofs.WalkLengths.{first_walk-length}
use Rattle.wh_answer.proofs.OneSide.{trace_one}
use Rattle.wh_answer.proofs.LevelSizes.{few_tuples}
use Rattle.wh_answer.proofs.ReadableParts.{root_of, vertices_are, parents_placed, generators_placed, generators_few, loops_good, relators_few, parts_are}
use Rattle.wh_answer.proofs.PartLengths.{presentation_rows-length}
use Rattle.wh_answer.proofs.LevelTuples.{level_tuples, level_some}
use Rattle.wh_answer.proofs.TextLengths.{IsShort, words_row-length, number_row-length, moves_row-length, side_rows-length, level_rows-length}

-- ---- sides
module _ (n count : ℕ) (low : n ≤ 26) (t : TupleData) (is : IsTupleOf n count t) where
  own_side : (s : Side) → IsSideOf t s → IsSideOfRank n count (side_of s)
  own_side s own = record {
    trace = trace_moves n t s.end.plain s.trace is.rank low own.trace;
    end = end;
    flows = own.flows.count ∙ end.rank;
    each = λ g l. subst (λ k. IsFlowOf k g (get_or s.flows g [])) end.rank (flow_of_generator s.end.plain s.flows g end.tuple own.flows (omega (arith, l, end.rank)));
  }
    where
      end : IsTupleOf n count s.end.plain
      end = trace_end n count t s.end.plain s.trace is low own.trace

  few_moves : (u : TupleData) (ms : List Move) → IsCapacityTrace t ms u → length ms ≤ 4096
  few_moves u ms r = omega (arith, trace_length n count t u ms is low r, is.tuple.short)

  side_short : (s : Side) → IsSideOf t s → length (rows_text (side_rows (side_of s))) ≤ 1250000
  side_short s own = side_rows-length n count (side_of s) low (own_side s own) (few_moves s.end.plain s.trace own.trace)

-- ---- verdicts
-- The verdict is one in rank n on tuples with so many words, and its text leaves room for the other lines of the answer.
record IsReadableVerdict (n count : ℕ) (v : Verdict) : Type 0 where
  parts : IsVerdictOf n count (verdict_of v)
  short : length (rows_text (verdict_rows (verdict_of v))) ≤ 60000000
  word : length (row_text (verdict_row (verdict_of v))) ≤ 100

module _ (n count : ℕ) (low : n ≤ 26) (s t : TupleData) (is : IsTupleOf n count s) (js : IsTupleOf n count t) where
  -- The moves of a trace, then moves between the ends, and then the inverse of a trace.
  yes_readable : (u w : TupleData) (ms between ns : List Move) → IsCapacityTrace s ms u → IsCapacityTrace t ns w → All (IsMoveOf n) between → length between ≤ 131072 → IsReadableVerdict n count (Yes (ms ++ (between ++ inverse_list ns)))
  yes_readable u w ms between ns r q are few =
      let all : All (IsMoveOf n) (ms ++ (between ++ inverse_list ns)) =
      All-append (IsMoveOf n) ms (between ++ inverse_list ns) (trace_moves n s u ms is.rank low r)
      (All-append (IsMoveOf n) between (inverse_list ns) are (inverse_moves n ns (trace_moves n t w ns js.rank low q))) in
      record {
        parts = all;
        short = omega (
          arith,
          moves_row-length (codes "moves") n (ms ++ (between ++ inverse_list ns)) all,
          length-append (row_text (moves_row (codes "moves") (ms ++ (between ++ inverse_list ns)))) [],
          length-append ms (between ++ inverse_list ns),
          length-append between (inverse_list ns),
          length-map (reverse ns) inverse_move,
          length-reverse ns,
          few_moves n count low s is u ms r,
          few_moves n count low t js w ns q,
          few,
        );
        word = omega arith;
      }

  -- The text of two sides.
  sides_short : (a b : Side) → IsSideOf s a → IsSideOf t b → length (rows_text (side_rows (side_of a) ++ side_rows (side_of b))) ≤ 2500000
  sides_short a b i j =
      omega (
        arith,
        ap length (rows_append (side_rows (side_of a)) (side_rows (side_of b))),
        length-append (rows_text (side_rows (side_of a))) (rows_text (side_rows (side_of b))),
        side_short n count low s is a i,
        side_short n count low t js b j,
      )

  verdict_readable : (limit : ℕ) (v : Verdict) → limit ≤ 131072 → Decides limit s t v → IsDecided (decided s t (verdict_of v)) → IsReadableVerdict n count v
  verdict_readable limit v h (other_lengths {first = a} {second = b} i j differ) x = record {
    parts = (own_side n count low s is a i, own_side n count low t js b j);
    short = omega (arith, sides_short a b i j);
    word = omega arith;
  }
  verdict_readable limit v h (one_end {ms = ms} {ns = ns} {u = u} r q) x = yes_readable u u ms [] ns r q (All-nil (IsMoveOf n)) (omega arith)
  verdict_readable limit v h (too_long apart long) x = absurd x
  verdict_readable limit v h (too_many apart small more) x = absurd x
  verdict_readable limit v h (joined {ms = ms} {ns = ns} {walk = walk} {u = u} {v = w} {ts = ts} apart small level few first) x =
      yes_readable u w ms walk ns apart.first apart.second (walk_moves n u w walk (trace_end n count s u ms is low apart.first).rank first.leads)
      (omega (arith, first_walk-length u w ts walk level first, few, h))
  verdict_readable limit v h (off_level {first = a} {second = b} {level = ts} i j apart small level few off) x =
      let end : IsTupleOf n count a.end.plain = trace_end n count s a.end.plain a.trace is low i.trace in
      let tuples : All (λ t. IsTupleOf n count t × IsShort t) (plains ts) = level_tuples n count a.end.plain end small (plains ts) level in
      let count_of : length (plains ts) ≡ length ts = length-map ts (λ (t : Tuple). t.plain) in
      record {
        parts = (
          own_side n count low s is a i,
          own_side n count low t js b j,
          All-weaker (λ t. IsTupleOf n count t × IsShort t) (IsTupleOf n count) (λ t both. both.0) (plains ts) tuples,
          level_some n count a.end.plain end small (plains ts) level,
          omega (arith, count_of, few, h),
        );
        short = omega (
          arith,
          ap length (rows_append (side_rows (side_of a) ++ side_rows (side_of b)) (level_rows (plains ts))),
          length-append (rows_text (side_rows (side_of a) ++ side_rows (side_of b))) (rows_text (level_rows (plains ts))),
          sides_short a b i j,
          level_rows-length (plains ts) (All-weaker (λ t. IsTupleOf n count t × IsShort t) IsShort (λ t both. both.1) (plains ts) tuples) (omega (arith, count_of, few, h)),
          count_of,
          few,
          h,
        );
        word = omega arith;
      }

-- ---- answers
-- The text of all rows.
whole_length : (a : AnswerData) (head body : ℕ) → length (rows_text (head_rows a)) ≤ head → length (rows_text (body_rows a)) ≤ body → length (answer_text a) ≤ head + body + 5
unfolding answer_text
whole_length a head body h b =
    omega (
      arith,
      ap length (rows_append (head_rows a ++ body_rows a) (done_row ∷ [])),
      length-append (rows_text (head_rows a ++ body_rows a)) (rows_text (done_row ∷ [])),
      ap length (rows_append (head_rows a) (body_rows a)),
      length-append (rows_text (head_rows a)) (rows_text (body_rows a)),
      h,
      b,
    )

reduce_readable : (t : Tuple) (s : Side) → IsProblem (reduce t.plain) → IsSideOf t.plain s → IsReadable (reduced t.plain (side_of s))
reduce_readable t s (is, least, low) own =
    let of : IsTupleOf t.plain.rank (length t.plain.words) t.plain = record { tuple = is; rank = refl; size = refl } in
    let rank = row_text (number_row (codes "rank") t.plain.rank) in
    let tuple = row_text (words_row (codes "tuple") t.plain.words) in
    let head : length (rows_text (head_rows (reduced t.plain (side_of s)))) ≤ 5000 = omega (
      arith,
      length-append (row_text (heading_row commands.Reduce)) (rank ++ (tuple ++ [])),
      length-append rank (tuple ++ []),
      length-append tuple [],
      number_row-length (codes "rank") 2 t.plain.rank (omega arith) (omega (arith, low)) (omega (arith, low)),
      words_row-length (codes "tuple") t.plain,
      is.few,
      is.short,
    ) in
    record {
      certificate = (is, least, low, own_side t.plain.rank (length t.plain.words) low t.plain of s own);
      short = omega (arith, whole_length (reduced t.plain (side_of s)) 5000 1250000 head (side_short t.plain.rank (length t.plain.words) low t.plain of s own));
    }

decide_readable : (limit : ℕ) (s t : Tuple) (v : Verdict) → limit ≤ 131072 → IsProblem (decide s.plain t.plain) → Decides limit s.plain t.plain v → IsDecided (answer_of (answers.Decide s t v)) → IsReadable (decided s.plain t.plain (verdict_of v))
decide_readable limit s t v h (is, js, ranks, least, low, counts) d x =
    let of : IsTupleOf s.plain.rank (length s.plain.words) s.plain = record { tuple = is; rank = refl; size = refl } in
    let other : IsTupleOf s.plain.rank (length s.plain.words) t.plain = record { tuple = js; rank = sym ranks; size = sym counts } in
    let verdict : IsReadableVerdict s.plain.rank (length s.plain.words) v = verdict_readable s.plain.rank (length s.plain.words) (omega (arith, low)) s.plain t.plain of other limit v h d x in
    let rank = row_text (number_row (codes "rank") s.plain.rank) in
    let first = row_text (words_row (codes "first") s.plain.words) in
    let second = row_text (words_row (codes "second") t.plain.words) in
    let word = row_text (verdict_row (verdict_of v)) in
    let head : length (rows_text (head_rows (decided s.plain t.plain (verdict_of v)))) ≤ 10000 = omega (
      arith,
      length-append (row_text (heading_row commands.Decide)) (rank ++ (first ++ (second ++ (word ++ [])))),
      length-append rank (first ++ (second ++ (word ++ []))),
      length-append first (second ++ (word ++ [])),
      length-append second (word ++ []),
      length-append word [],
      number_row-length (codes "rank") 2 s.plain.rank (omega arith) (omega (arith, low)) (omega (arith, low)),
      words_row-length (codes "first") s.plain,
      words_row-length (codes "second") t.plain,
      is.few,
      is.short,
      js.few,
      js.short,
      verdict.word,
    ) in
    record {
      certificate = (is, least, low, other, verdict.parts);
      short = omega (arith, whole_length (decided s.plain t.plain (verdict_of v)) 10000 60000000 head verdict.short);
    }

-- ---- stabilisers
module _ (limit : ℕ) (h : limit ≤ 131072) (t : Tuple) (is : IsTuple t.plain) (least : 1 ≤ t.plain.rank) (low : t.plain.rank ≤ 4) (s : Side) (p : Parts) (l : LevelData) (has : HasLevel limit t.plain s.trace l) (few : HasFewEdges l 65536)
    (less : relator_count l.tuples ≤ 393216) (own : IsSideOf t.plain s) (are : ArePartsOf t.plain s.trace l p) where
  abbrev n : ℕ
  n = t.plain.rank

  abbrev count : ℕ
  count = length t.plain.words

  of : IsTupleOf n count t.plain
  of = record { tuple = is; rank = refl; size = refl }

  -- The end of the side is the root of the level.
  end_is : l.root ≡ s.end.plain
  end_is = (trace_one t.plain l.root s.end.plain s.trace s.trace is (omega (arith, low)) has.leads own.trace).1

  parts_readable : ArePartsOfRank n count s.end.plain (parts_of p)
  parts_readable = subst (λ (u : TupleData). ArePartsOfRank n count u (parts_of p)) end_is (parts_are limit n count low h t.plain of s.trace l p has few are less)

  few_places : length (plains p.vertices) ≤ 32768
  few_places =
      let root : IsTupleOf n count l.root = root_of limit n count low h t.plain of s.trace l p has few are in
      omega (arith, few_tuples l has.closed few root.tuple (omega (arith, root.rank, least)), ap length are.vertices)

  level_short : length (rows_text (level_rows (plains p.vertices))) ≤ 12700000
  level_short =
      omega (
        arith,
        level_rows-length (plains p.vertices)
            (All-weaker (λ u. IsTupleOf n count u × IsShort u) IsShort (λ u both. both.1) (plains p.vertices) (vertices_are limit n count low h t.plain of s.trace l p has few are)) (omega (arith, few_places)),
        few_places,
      )

  presentation_short : length (rows_text (presentation_rows (parts_of p))) ≤ 50800000
  presentation_short =
      presentation_rows-length n (length (plains p.vertices)) (parts_of p) low (omega (arith, few_places)) (omega (arith, are.presented.tree.count, few_places)) (parents_placed limit n count low h t.plain of s.trace l p has few are)
      (generators_few limit n count low h t.plain of s.trace l p has few are) (generators_placed limit n count low h t.plain of s.trace l p has few are) (relators_few limit n count low h t.plain of s.trace l p has few are less)
      (loops_good limit n count low h t.plain of s.trace l p has few are)

  stab_short : length (rows_text (stab_rows (done (side_of s) (parts_of p)))) ≤ 64750000
  stab_short =
      omega (
        arith,
        ap length (rows_append (side_rows (side_of s) ++ level_rows (plains p.vertices)) (presentation_rows (parts_of p))),
        length-append (rows_text (side_rows (side_of s) ++ level_rows (plains p.vertices))) (rows_text (presentation_rows (parts_of p))),
        ap length (rows_append (side_rows (side_of s)) (level_rows (plains p.vertices))),
        length-append (rows_text (side_rows (side_of s))) (rows_text (level_rows (plains p.vertices))),
        side_short n count (omega (arith, low)) t.plain of s own,
        level_short,
        presentation_short,
      )

  head_short : length (rows_text (head_rows (presented_of t.plain (done (side_of s) (parts_of p))))) ≤ 5000
  head_short =
      let rank = row_text (number_row (codes "rank") t.plain.rank) in
      let tuple = row_text (words_row (codes "tuple") t.plain.words) in
      omega (
        arith,
        length-append (row_text (heading_row commands.Stabiliser)) (rank ++ (tuple ++ [])),
        length-append rank (tuple ++ []),
        length-append tuple [],
        number_row-length (codes "rank") 2 t.plain.rank (omega arith) (omega (arith, low)) (omega (arith, low)),
        words_row-length (codes "tuple") t.plain,
        is.few,
        is.short,
      )

  -- The text of what is answered can be read back.
  presented_readable : IsStabOf t.plain.rank (length t.plain.words) (done (side_of s) (parts_of p)) × (length (answer_text (presented_of t.plain (done (side_of s) (parts_of p)))) ≤ most_answer_bytes)
  presented_readable = (
    (own_side n count (omega (arith, low)) t.plain of s own, parts_readable),
    omega (arith, whole_length (presented_of t.plain (done (side_of s) (parts_of p))) 5000 64750000 head_short stab_short),
  )

stabiliser_readable : (limit : ℕ) (t : Tuple) (v : StabVerdict) → limit ≤ 131072 → IsProblem (stabiliser t.plain) → Presents limit t.plain v → IsDecided (answer_of (answers.Stabiliser t v)) → IsReadable (answer_of (answers.Stabiliser t v))
stabiliser_readable limit t v h is (presented {side = s} {parts = p} {l = l} has few less own are) x =
    let read = presented_readable limit h t is.0 is.1 is.2 s p l has few less own are in
    record { certificate = (is.0, is.1, is.2, read.0); short = read.1 }
stabiliser_readable limit t v h is (too_long_end leads long) x = absurd x
stabiliser_readable limit t v h is (too_many_tuples leads short more) x = absurd x
stabiliser_readable limit t v h is (many_edges has more) x = absurd x
stabiliser_readable limit t v h is (many_relators has few more) x = absurd x

pub answers_readable : AnswersAreReadable
answers_readable limit (reduce t) (answers.Reduce u s) h is own x = reduce_readable u s (subst (λ d. IsProblem (reduce d)) (sym own.0) is) (subst (λ d. IsSideOf d s) (sym own.0) own.1)
answers_readable limit (reduce t) (answers.Decide a b v) h is own x = absurd own
answers_readable limit (reduce t) (answers.Straighten u g ms e) h is own x = absurd own
answers_readable limit (reduce t) (answers.Stabiliser u v) h is own x = absurd own
answers_readable limit (decide s t) (answers.Stabiliser u v) h is own x = absurd own
answers_readable limit (straighten t list) (answers.Stabiliser u v) h is own x = absurd own
answers_readable limit (stabiliser t) (answers.Reduce u c) h is own x = absurd own
answers_readable limit (stabiliser t) (answers.Decide a b v) h is own x = absurd own
answers_readable limit (stabiliser t) (answers.Straighten u g ms e) h is own x = absurd own
answers_readable limit (stabiliser t) (answers.Stabiliser u v) h is own x =
    stabiliser_readable limit u v h (subst (λ d. IsProblem (stabiliser d)) (sym own.0) is) (subst (λ d. Presents limit d v) (sym own.0) own.1) x
answers_readable limit (decide s t) (answers.Reduce u c) h is own x = absurd own
answers_readable limit (decide s t) (answers.Straighten u g ms e) h is own x = absurd own
answers_readable limit (straighten t list) (answers.Reduce u c) h is own x = absurd own
answers_readable limit (straighten t list) (answers.Decide a b v) h is own x = absurd own
answers_readable limit (straighten t list) (answers.Straighten u g ms e) h is own x = absurd x
answers_readable limit (decide s t) (answers.Decide a b v) h is own x =
    decide_readable limit a b v h
    (subst (λ d. IsProblem (decide d b.plain)) (sym own.0) (subst (λ d. IsProblem (decide s d)) (sym own.1) is))
    (subst (λ d. Decides limit d b.plain v) (sym own.0) (subst (λ d. Decides limit s d v) (sym own.1) own.2.0)) x
