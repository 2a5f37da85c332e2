use Rattle.std.proofs.Common.{arith}
use Rattle.wh_answer.proofs.Verdicts.{trace_rank}
use Rattle.wh_answer.proofs.deciding.decide.Goals as goal

pub decide_traced-requires-clause-rank : goal.decide_traced-requires-clause-rank
decide_traced-requires-clause-rank c = omega (arith, trace_rank c.args.first.now.plain c.in_ok-first.first.end.plain c.in_ok-first.first.moves c.in_ok-first.ensures.trace, c.requires.rank)
