use Rattle.std.proofs.Common.{◌≤◌, rules}
use Rattle.std.proofs.lemmas.Result.{IfOk-weaker}
use Rattle.wh_words.specs.Limits.{most_level_rank}
use Rattle.wh_data.specs.AnswerData.{answer_of}
use Rattle.wh_data.specs.ProblemData.ProblemData.{decide}
use Rattle.wh_answer.specs.Answers.{Answers}
use Rattle.wh_answer.specs.Certified.{IsDecided, IsValid}
use Rattle.wh_answer.proofs.Valid.{answers_valid}
use Rattle.wh_answer.proofs.answering.decided.Goals as goal

pub returns-clause-valid : goal.returns-clause-valid
returns-clause-valid c =
    let least : 1 ≤ c.args.first.now.plain.rank = search rules in
    let low : c.args.first.now.plain.rank ≤ most_level_rank = search rules in
    let asked = decide c.args.first.now.plain c.args.second.now.plain in
    IfOk-weaker c.answer_with.result (Answers c.args.limit asked) (λ a. IsDecided (answer_of a) → IsValid (answer_of a))
    (λ a is. answers_valid c.args.limit asked a (c.rank.ensures.roomed.tuple, c.rank-2.ensures.roomed.tuple, c.requires.0, least, low, c.requires.2) is)
    (c.answer_with.ensures.answers c.args.limit c.in_ok-verdict.ensures.verdict)
