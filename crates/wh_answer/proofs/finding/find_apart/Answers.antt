use Rattle.std.proofs.Common.{rules, arith}
use Rattle.wh_answer.proofs.Verdicts.{undecided_length, undecided_level}
use Rattle.wh_answer.proofs.finding.find_apart.Goals as goal

pub returns-then-letters-gt-MOST_LEVEL_LENGTH : goal.returns-then-letters-gt-MOST_LEVEL_LENGTH
returns-then-letters-gt-MOST_LEVEL_LENGTH c s t traced = undecided_length c.args.limit s t c.args.first.now c.args.second.now c.length-letters.result traced c.requires.apart c.length-letters.ensures.length (search rules)

pub returns-in-Passed : goal.returns-in-Passed
returns-in-Passed c s t traced = undecided_level c.args.limit s t c.args.first.now c.args.second.now traced c.requires.apart (omega (arith, c.if-letters-gt-MOST_LEVEL_LENGTH.false, c.length-letters.ensures.length)) (search rules)

pub returns-in-Closed : goal.returns-in-Closed
returns-in-Closed c = c.find_in.ensures c.args.limit (search rules)
