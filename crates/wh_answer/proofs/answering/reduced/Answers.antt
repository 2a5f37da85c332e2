use Rattle.std.proofs.Common.{◌≤◌, rules, ap}
use Rattle.wh_words.specs.Tuples.{Tuple}
use Rattle.wh_data.specs.declared.answer.Answer.TheVariants as answers
use Rattle.wh_data.specs.ProblemData.ProblemData.{reduce}
use Rattle.wh_answer.proofs.Valid.{answers_valid}
use Rattle.wh_answer.proofs.answering.reduced.Goals as goal

pub returns-in-Ok-clause-valid : goal.returns-in-Ok-clause-valid
returns-in-Ok-clause-valid c =
    let least : 1 ≤ c.args.tuple.now.plain.rank = search rules in
    let low : c.args.tuple.now.plain.rank ≤ 26 = search rules in
    answers_valid 0 (reduce c.args.tuple.now.plain) (answers.Reduce c.in-Ok.tuple c.in_ok-side.side) (c.rank.ensures.roomed.tuple, least, low)
    (ap (λ (u : Tuple). u.plain) c.in-Ok.ensures.same, c.in_ok-side.ensures.side c.args.tuple.now.plain c.in_ok-trace.ensures.trace)
