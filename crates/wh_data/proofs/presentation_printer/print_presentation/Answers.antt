use Rattle.std.proofs.Common.{◌∙◌, ◌++◌, ap}
use Rattle.wh_lines.specs.Rows.{rows_text}
use Rattle.wh_data.specs.PresentationTexts.{tree_rows, generator_rows, relator_rows}
use Rattle.wh_data.proofs.PrintedPresentations.{three_parts}
use Rattle.wh_data.proofs.presentation_printer.print_presentation.Goals as goal

pub returns : goal.returns
returns c =
    let old = c.args.out.now.items in
    let tree = tree_rows 0 c.items.result.now in
    let generators = generator_rows c.items-2.result.now in
    let relators = relator_rows c.items-3.result.now in
    c.in_ok-print_relators.ensures ∙ ap (λ v. v ++ rows_text relators) (c.in_ok-print_generators.ensures ∙ ap (λ v. v ++ rows_text generators) c.in_ok-print_tree.ensures)
    ∙ three_parts old tree generators relators
    ∙ ap (λ ts. old ++ rows_text ((tree_rows 0 ts ++ generators) ++ relators)) c.items.ensures
    ∙ ap (λ gs. old ++ rows_text ((tree_rows 0 c.args.parts.now.tree ++ generator_rows gs) ++ relators)) c.items-2.ensures
    ∙ ap (λ rs. old ++ rows_text ((tree_rows 0 c.args.parts.now.tree ++ generator_rows c.args.parts.now.generators) ++ relator_rows rs)) c.items-3.ensures
