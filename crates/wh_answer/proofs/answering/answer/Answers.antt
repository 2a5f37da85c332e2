use Rattle.std.proofs.Common.{IfOk, sym, subst}
use Rattle.wh_data.specs.ProblemData.{problem_of}
use Rattle.wh_answer.specs.Answers.{Answers}
use Rattle.wh_answer.proofs.answering.answer.Goals as goal

pub returns-in-Reduce-clause-answers : goal.returns-in-Reduce-clause-answers
returns-in-Reduce-clause-answers c = subst (λ p. IfOk c.reduced.result (Answers c.args.limit (problem_of p))) (sym c.in-Reduce.is) (c.reduced.ensures.answers c.args.limit)
