use Rattle.std.proofs.Common.{◌∙◌, ◌++◌, ap}
use Rattle.std.specs.Prelude.{codes}
use Rattle.wh_lines.specs.Rows.{row_text, number_row}
use Rattle.wh_fields.specs.TupleFields.{words_row}
use Rattle.wh_data.specs.AnswerData.{verdict_of}
use Rattle.wh_data.specs.declared.command.Command.TheVariants as commands
use Rattle.wh_data.specs.Commands.{heading_row}
use Rattle.wh_data.specs.AnswerTexts.{verdict_row}
use Rattle.wh_data.proofs.PrintedAnswers.{five_texts}
use Rattle.wh_data.proofs.printer.print_decided_head.Goals as goal

pub returns : goal.returns
returns c =
    let first = row_text (words_row (codes "first") c.args.first.now.plain.words) in
    let second = row_text (words_row (codes "second") c.args.second.now.plain.words) in
    let verdict = row_text (verdict_row (verdict_of c.args.verdict.now)) in
    let rank = row_text (number_row (codes "rank") c.args.first.now.plain.rank) in
    c.in_ok-print_verdict.ensures ∙ ap (λ v. v ++ verdict) (c.in_ok-print_words-2.ensures ∙ ap (λ v. v ++ second) (c.in_ok-print_words.ensures
    ∙ ap (λ v. v ++ first) (c.in_ok-print_number_row.ensures ∙ ap (λ n. c.print_heading.new.out.items ++ row_text (number_row (codes "rank") n)) (c.get.ensures.same ∙ c.rank.ensures.rank)
    ∙ ap (λ v. v ++ rank) c.in_ok-print_heading.ensures)))
    ∙ five_texts c.args.out.now.items (row_text (heading_row commands.Decide)) rank first second verdict
