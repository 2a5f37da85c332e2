use Rattle.std.proofs.Common.{◌≡◌, ◌++◌, take}
use Rattle.wh_lines.specs.Rows.{rows_text}
use Rattle.wh_data.specs.AnswerData.{plains}
use Rattle.wh_data.specs.AnswerTexts.{at_rows}
use Rattle.wh_data.proofs.printer.print_tuples.Given as goal

abbrev pub invariant-loop-tuple : goal.invariant-loop-tuple
invariant-loop-tuple l = l.out.items ≡ l.initial.out.items ++ rows_text (at_rows (plains (take l.tuple-index l.level)))
