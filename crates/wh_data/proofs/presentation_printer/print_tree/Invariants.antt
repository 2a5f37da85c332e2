use Rattle.std.proofs.Common.{◌≡◌, ◌++◌, drop}
use Rattle.wh_lines.specs.Rows.{rows_text}
use Rattle.wh_data.specs.PresentationTexts.{tree_rows}
use Rattle.wh_data.proofs.presentation_printer.print_tree.Given as goal

abbrev pub invariant-loop-vertex : goal.invariant-loop-vertex
invariant-loop-vertex l = l.out.items ++ rows_text (tree_rows l.vertex (drop l.vertex l.tree)) ≡ l.initial.out.items ++ rows_text (tree_rows 0 l.tree)
