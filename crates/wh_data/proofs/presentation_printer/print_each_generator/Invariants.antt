use Rattle.std.proofs.Common.{◌≡◌, ◌++◌, drop, map}
use Rattle.wh_lines.specs.Rows.{rows_text}
use Rattle.wh_fields.specs.StabiliserFields.{generator_row}
use Rattle.wh_data.proofs.presentation_printer.print_each_generator.Given as goal

abbrev pub invariant-loop-vertex : goal.invariant-loop-vertex
invariant-loop-vertex l =
    l.out.items ++ rows_text (map (λ g. generator_row g.0 g.1) (drop l.vertex-index l.generators)) ≡ l.initial.out.items ++ rows_text (map (λ g. generator_row g.0 g.1) l.generators)
