use Rattle.std.proofs.Common.{rules, arith}
use Rattle.wh_data.proofs.PrintedAnswers.{tuples_more}
use Rattle.wh_data.proofs.printer.print_tuples.Goals as goal

pub loop-tuple-preserved : goal.loop-tuple-preserved
loop-tuple-preserved c =
    tuples_more c.args.level.now c.loop-tuple.tuple-index c.tuple-item.result c.loop-tuple.out.items c.print_words.new.out.items c.args.out.now.items (omega arith) (search rules) c.in_ok-print_words.ensures c.loop-tuple.invariant
