use Rattle.std.proofs.Common.{ℕ, sym, ap, subst, arith}
use Rattle.wh_words.specs.Tuples.{tuple_length}
use Rattle.wh_words.specs.CapacityTraces.{IsCapacityTrace}
use Rattle.wh_workers.specs.Explorations.{Explores}
use Rattle.wh_data.specs.declared.answer.Bound.TheVariants.{Length}
use Rattle.wh_data.specs.declared.answer.StabVerdict.TheVariants.{Undecided}
use Rattle.wh_answer.specs.StabiliserAnswers.{Presents}
use Rattle.wh_answer.specs.StabiliserAnswers.Presents.{too_long, too_many}
use Rattle.wh_answer.proofs.Verdicts.{trace_rank}
use Rattle.wh_answer.proofs.presenting.find.Goals as goal

pub returns-then-letters-gt-MOST_LEVEL_LENGTH : goal.returns-then-letters-gt-MOST_LEVEL_LENGTH
returns-then-letters-gt-MOST_LEVEL_LENGTH c =
    subst (λ (n : ℕ). Presents c.args.limit c.args.tuple.now.plain (Undecided (Length n))) (sym c.length-letters.ensures.length)
    (too_long c.requires.trace (omega (arith, c.if-letters-gt-MOST_LEVEL_LENGTH.true, c.length-letters.ensures.length)))

pub explore-requires : goal.explore-requires
explore-requires c = omega (arith, trace_rank c.args.tuple.now.plain c.args.trace.now.end.plain c.args.trace.now.moves c.requires.trace, c.requires.rank)

pub returns-in-Passed : goal.returns-in-Passed
returns-in-Passed c =
    too_many c.requires.trace (omega (arith, c.if-letters-gt-MOST_LEVEL_LENGTH.false, c.length-letters.ensures.length))
    (subst (Explores c.args.trace.now.end.plain c.args.limit) c.in-Passed.is c.in_ok-explore.ensures)

pub returns-in-Closed : goal.returns-in-Closed
returns-in-Closed c =
    let found = subst (Explores c.args.trace.now.end.plain c.args.limit) c.in-Closed.is c.in_ok-explore.ensures in
    c.find_in-found.ensures c.args.limit
    (record {
      leads = subst (IsCapacityTrace c.args.tuple.now.plain c.args.trace.now.moves) (sym found.1) c.requires.trace;
      low = omega (arith, c.if-letters-gt-MOST_LEVEL_LENGTH.false, c.length-letters.ensures.length, ap tuple_length found.1);
      closed = found.0;
      few = found.2;
    })
