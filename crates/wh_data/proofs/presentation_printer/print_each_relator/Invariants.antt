use Rattle.std.proofs.Common.{◌≡◌, ◌++◌, drop, map}
use Rattle.wh_lines.specs.Rows.{rows_text}
use Rattle.wh_fields.specs.StabiliserFields.{relator_row}
use Rattle.wh_data.proofs.presentation_printer.print_each_relator.Given as goal

abbrev pub invariant-loop-relator : goal.invariant-loop-relator
invariant-loop-relator l =
    l.out.items ++ rows_text (map (λ r. relator_row r.at r.moves r.word) (drop l.relator-index l.relators)) ≡ l.initial.out.items ++ rows_text (map (λ r. relator_row r.at r.moves r.word) l.relators)
