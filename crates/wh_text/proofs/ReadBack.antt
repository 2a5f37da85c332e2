-- What is printed for an answer that is a certificate is read back as that answer: for the law on printed answers.
use Rattle.std.proofs.Common.{◌≡◌, ℕ, ◌≤◌, ltb, List, [], length, map, ap, ◌∙◌, refl, Result, Ok, Err}
use Rattle.std.proofs.lemmas.Bool.{cond-false}
use Rattle.wh_lines.specs.declared.read_error.ReadError.TheVariants as errors
use Rattle.wh_lines.specs.Lines.{lines}
use Rattle.wh_lines.specs.Readings.{◌>>=◌}
use Rattle.wh_lines.specs.declared.read_error.ReadError.{ReadError}
use Rattle.wh_lines.specs.KeptLines.{rest}
use Rattle.wh_lines.specs.KeptLines.Rest.{end}
use Rattle.wh_lines.specs.LineReadings.{Reading, start}
use Rattle.wh_lines.specs.Laws.{numbers_from}
use Rattle.wh_data.specs.AnswerData.{CertificateData}
use Rattle.wh_text.specs.Certificates.{AnswerRead, answer_after, certificate}
use Rattle.wh_data.specs.Limits.{most_answer_bytes}
use Rattle.wh_data.specs.AnswerParts.{heads_of, tree_heads_of}
use Rattle.wh_text.specs.ReadingBack.{ReadsBack}
use Rattle.wh_lines.proofs.Equations.{is_not_more}
use Rattle.wh_lines.specs.Rows.{Row, row_bytes, rows_text}
use Rattle.wh_lines.proofs.PrintedRows.{rows_lines}
use Rattle.wh_lines.proofs.RestRows.{rows_pass}
use Rattle.wh_data.specs.AnswerTexts.{rows_of, answer_text}
use Rattle.wh_text.proofs.ReadAnswers.{TellAnswer, answer_read}

-- the certificate of an answer that was read, where none of these lines is skipped
abbrev whole : AnswerRead → List ℕ → CertificateData
whole told numbers = record { answer = told.answer; lines = numbers; flow_heads = told.heads; tree_heads = told.tree_heads }

rows_read : (told : AnswerRead) (rows : List Row) → TellAnswer told rows → length (rows_text rows) ≤ most_answer_bytes → certificate (rows_text rows) ≡ Ok (whole told (numbers_from 1 (length rows)))
unfolding certificate
rows_read told rows h l =
    let bytes = rows_text rows in
    let next : Result (AnswerRead × Reading) ReadError → Result CertificateData ReadError = λ r. r >>= λ read. Ok (whole read.0 read.1.taken) in
    let ls : lines bytes ≡ map row_bytes rows = rows_lines rows h.shown in
    let passes = rows_pass 1 [] rows h.shown in
    let p : Reading = record { taken = []; rest = rest 1 (map row_bytes rows) } in
    let q : Reading = record { taken = numbers_from 1 (length rows); rest = end passes.0 } in
    cond-false (ltb most_answer_bytes (length bytes)) (Err (errors.InputTooLong most_answer_bytes)) (next (answer_after (start bytes))) (is_not_more most_answer_bytes (length bytes) l)
    ∙ ap (λ ls. next (answer_after (record { taken = []; rest = rest 1 ls }))) ls
    ∙ ap next (h.read p q passes.0 passes.1 refl)

pub reads_back : ReadsBack
unfolding answer_text
reads_back a h l = rows_read (record { answer = a; heads = heads_of a; tree_heads = tree_heads_of a }) (rows_of a) (answer_read a h) l
