-- Every answer that isn't undecided is a valid certificate.
use Rattle.std.proofs.Common.{◌≡◌, ℕ, ◌+◌, ◌*◌, ◌≤◌, List, [], ◌∷◌, ◌++◌, sym, subst, arith, Some}
use Rattle.wh_words.specs.Tuples.{TupleData, IsTuple}
use Rattle.wh_words.specs.Moves.{Move}
use Rattle.wh_words.specs.Action.{act_all}
use Rattle.wh_moves.specs.Acts.{FitsOnTheWay}
use Rattle.wh_data.specs.declared.answer.Verdict.{Verdict}
use Rattle.wh_data.specs.declared.answer.StabVerdict.{StabVerdict}
use Rattle.wh_data.specs.declared.answer.Answer.{Answer}
use Rattle.wh_data.specs.declared.answer.Answer.TheVariants as answers
use Rattle.wh_data.specs.ProblemData.{ProblemData}
use Rattle.wh_data.specs.ProblemData.ProblemData.{reduce as to_reduce, decide as to_decide, straighten as to_straighten, stabiliser as to_stabiliser}
use Rattle.wh_data.specs.AnswerData.{plains, side_of, verdict_of, stab_verdict_of, answer_of}
use Rattle.wh_data.specs.AnswerData.VerdictData.{yes}
use Rattle.wh_data.specs.AnswerData.AnswerData.{decide, stabiliser}
use Rattle.wh_data.specs.Numberings.{side_lines}
use Rattle.wh_fields.specs.FlowFields.{heads_from}
use Rattle.wh_cert.specs.Demands.{fit_on_the_way, moves_carry, lengths_differ, lengths_agree, side_asked, sides_asked, level_asked}
use Rattle.wh_cert.specs.Checks.{AreMet}
use Rattle.wh_cert.proofs.Judging.{one_met, both_met}
use Rattle.wh_answer.specs.Answers.{Answers, Decides, Carries}
use Rattle.wh_answer.specs.Answers.Decides.{other_lengths, one_end, too_long, too_many, joined, off_level}
use Rattle.wh_answer.specs.StabiliserAnswers.{Presents}
use Rattle.wh_answer.specs.StabiliserAnswers.Presents.{too_long as too_long_end, too_many as too_many_tuples, many_edges, many_relators, presented}
use Rattle.wh_answer.specs.Certified.{IsDecided, IsValid}
use Rattle.wh_answer.specs.Laws.{IsProblem}
use Rattle.wh_answer.proofs.ValidWays.{way_at_once, way_by_walk}
use Rattle.wh_answer.proofs.ValidSides.{side_met, sides_met}
use Rattle.wh_answer.proofs.ValidLevels.{level_met}
use Rattle.wh_answer.proofs.ValidParts.{stab_met}

yes_valid : (s t : TupleData) (ms : List Move) → FitsOnTheWay s ms → act_all s ms ≡ t → IsValid (decide s t (yes ms))
yes_valid s t ms fits carried = both_met ((5, fit_on_the_way s ms) ∷ []) ((5, moves_carry s ms t) ∷ []) (one_met 5 (fit_on_the_way s ms) fits) (one_met 5 (moves_carry s ms t) carried)

verdict_valid : (limit : ℕ) (s t : TupleData) (v : Verdict) → IsTuple s → IsTuple t → s.rank ≤ 26 → t.rank ≤ 26 → Decides limit s t v → Carries s t v → IsDecided (decide s t (verdict_of v)) → IsValid (decide s t (verdict_of v))
verdict_valid limit s t v is other low other_low (other_lengths {first = a} {second = b} left right differ) carried decided = sides_met 5 s t a b lengths_differ is other low other_low left right differ
verdict_valid limit s t v is other low other_low (one_end {ms = ms} {ns = ns} {u = u} r q) carried decided = yes_valid s t _ (way_at_once s t is other low other_low u ms ns r q) carried
verdict_valid limit s t v is other low other_low (too_long apart long) carried decided = absurd decided
verdict_valid limit s t v is other low other_low (too_many apart short more) carried decided = absurd decided
verdict_valid limit s t v is other low other_low (joined {ms = ms} {ns = ns} {walk = walk} {u = u} {v = w} apart short level few first) carried decided =
    yes_valid s t _ (way_by_walk s t is other low other_low u w ms ns walk apart.first apart.second first.leads) carried
verdict_valid limit s t v is other low other_low (off_level {first = a} {second = b} {level = ts} left right apart short level few off) carried decided =
    both_met (sides_asked 5 s.rank (heads_from 0 a.flows ++ heads_from 0 b.flows) s t (side_of a) (side_of b) lengths_agree) (level_asked (5 + 2 * side_lines s.rank) a.end.plain (Some b.end.plain) (plains ts))
    (sides_met 5 s t a b lengths_agree is other low other_low left right apart.level) (level_met a.end.plain (Some b.end.plain) (plains ts) level off (5 + 2 * side_lines s.rank))

pub stab_valid : (limit : ℕ) (t : TupleData) (v : StabVerdict) → IsTuple t → t.rank ≤ 4 → Presents limit t v → IsDecided (stabiliser t (stab_verdict_of v)) → IsValid (stabiliser t (stab_verdict_of v))
stab_valid limit t v is low (presented {side = s} {parts = p} {l = l} has few less own are) decided = stab_met limit t s p is low (presented has few less own are)
stab_valid limit t v is low (too_long_end leads long) decided = absurd decided
stab_valid limit t v is low (too_many_tuples leads short more) decided = absurd decided
stab_valid limit t v is low (many_edges has more) decided = absurd decided
stab_valid limit t v is low (many_relators has few more) decided = absurd decided

pub answers_valid : (limit : ℕ) (p : ProblemData) (a : Answer) → IsProblem p → Answers limit p a → IsDecided (answer_of a) → IsValid (answer_of a)
answers_valid limit (to_reduce t) (answers.Reduce tuple side) is own decided =
    subst (λ u. AreMet (side_asked 3 (heads_from 0 side.flows) u (side_of side))) (sym own.0) (side_met 3 t side is.0 is.2 own.1)
answers_valid limit (to_reduce t) (answers.Decide first second verdict) is own decided = absurd own
answers_valid limit (to_reduce t) (answers.Straighten tuple given ms end) is own decided = absurd own
answers_valid limit (to_reduce t) (answers.Stabiliser tuple verdict) is own decided = absurd own
answers_valid limit (to_decide s t) (answers.Stabiliser tuple verdict) is own decided = absurd own
answers_valid limit (to_straighten t list) (answers.Stabiliser tuple verdict) is own decided = absurd own
answers_valid limit (to_stabiliser t) (answers.Reduce tuple side) is own decided = absurd own
answers_valid limit (to_stabiliser t) (answers.Decide first second verdict) is own decided = absurd own
answers_valid limit (to_stabiliser t) (answers.Straighten tuple given ms end) is own decided = absurd own
answers_valid limit (to_stabiliser t) (answers.Stabiliser tuple verdict) is own decided =
    subst (λ u. IsDecided (stabiliser u (stab_verdict_of verdict)) → IsValid (stabiliser u (stab_verdict_of verdict))) (sym own.0) (stab_valid limit t verdict is.0 is.2 own.1) decided
answers_valid limit (to_decide s t) (answers.Reduce tuple side) is own decided = absurd own
answers_valid limit (to_decide s t) (answers.Straighten tuple given ms end) is own decided = absurd own
answers_valid limit (to_straighten t list) (answers.Reduce tuple side) is own decided = absurd own
answers_valid limit (to_straighten t list) (answers.Decide first second verdict) is own decided = absurd own
answers_valid limit (to_straighten t list) (answers.Straighten tuple given ms end) is own decided = absurd decided
answers_valid limit (to_decide s t) (answers.Decide first second verdict) is own decided =
    subst (λ u. IsDecided (decide u second.plain (verdict_of verdict)) → IsValid (decide u second.plain (verdict_of verdict))) (sym own.0)
    (subst (λ u. IsDecided (decide s u (verdict_of verdict)) → IsValid (decide s u (verdict_of verdict))) (sym own.1)
    (verdict_valid limit s t verdict is.0 is.1 (omega (arith, is.4)) (omega (arith, is.2, is.4)) own.2.0 own.2.1)) decided
