use Rattle.std.proofs.Common.{◌∙◌, ◌++◌, ap}
use Rattle.std.specs.Prelude.{codes}
use Rattle.wh_lines.specs.Rows.{row_text, number_row}
use Rattle.wh_fields.specs.TupleFields.{words_row}
use Rattle.wh_data.specs.Commands.{heading_row}
use Rattle.wh_data.proofs.PrintedAnswers.{three_texts}
use Rattle.wh_data.proofs.printer.print_tuple_head.Goals as goal

pub returns : goal.returns
returns c =
    let tuple = row_text (words_row (codes "tuple") c.args.tuple.now.plain.words) in
    c.in_ok-print_words.ensures
    ∙ ap (λ v. v ++ tuple) (c.in_ok-print_number_row.ensures ∙ ap (λ n. c.print_heading.new.out.items ++ row_text (number_row (codes "rank") n)) (c.get.ensures.same ∙ c.rank.ensures.rank)
    ∙ ap (λ v. v ++ row_text (number_row (codes "rank") c.args.tuple.now.plain.rank)) c.in_ok-print_heading.ensures)
    ∙ three_texts c.args.out.now.items (row_text (heading_row c.args.command)) (row_text (number_row (codes "rank") c.args.tuple.now.plain.rank)) tuple
