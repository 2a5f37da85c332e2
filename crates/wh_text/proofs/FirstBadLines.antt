-- A refusal of a line names the first bad one: for the law on refused lines.
use Rattle.std.proofs.Common.{◌≡◌, ℕ, ◌+◌, List, [], ◌∷◌, ◌++◌, length, refl, sym, ap, ◌∙◌, arith, append-nil, append_assoc, length-append, Err}
use Rattle.wh_lines.specs.declared.read_error.ReadError.TheVariants as errors
use Rattle.wh_lines.specs.Lines.{lines}
use Rattle.wh_lines.specs.Laws.{kept_numbers}
use Rattle.wh_lines.specs.KeptLines.{rest}
use Rattle.wh_lines.specs.LineReadings.{start}
use Rattle.wh_lines.proofs.RestRows.{rest_all_some}
use Rattle.wh_lines.proofs.ContinuedTexts.{LinesBefore, lines_before, continued}
use Rattle.wh_lines.proofs.CompletedReadings.{Completed}
use Rattle.wh_data.specs.AnswerData.{CertificateData}
use Rattle.wh_text.specs.Certificates.{answer_after, certificate}
use Rattle.wh_text.specs.CertificateTexts.{IsCertificateText, BeginACertificate, NoneGoesOn, NamesTheFirstBadLine}
use Rattle.wh_text.proofs.ExactCertificates.{answer_back}
use Rattle.wh_text.proofs.FirstLines.{refused_answer, refuses_by_first_lines}
use Rattle.wh_text.proofs.CompletedAnswers.{IsAnswerRead, completes_answer}

-- what is read from a text rests on its lines alone
same_lines : (bytes text : List ℕ) (l : ℕ) (c : CertificateData) → certificate bytes ≡ Err (errors.BadLine l) → lines text ≡ lines bytes → IsCertificateText text c → ⊥
same_lines bytes text l c e same is =
    let read = answer_back text c is in
    let never = sym (refused_answer bytes l e) ∙ ap (λ ls. answer_after (record { taken = []; rest = rest 1 ls })) (sym same) ∙ read.1 in
    absurd (cc)

-- no certificate goes on with this line, or with none
stops_there : (bytes : List ℕ) (l : ℕ) (before from_it : List (List ℕ)) → certificate bytes ≡ Err (errors.BadLine l) → lines bytes ≡ before ++ from_it → l ≡ length before + 1 → NoneGoesOn before from_it
stops_there bytes l before [] e parts place = λ text c same is. same_lines bytes text l c e (same ∙ sym (append-nil before) ∙ sym parts) is
stops_there bytes l before (line ∷ after) e parts place = λ b.
    let front = before ++ line ∷ [] in
    let long : l ≡ length front = omega (arith, place, length-append before (line ∷ [])) in
    refuses_by_first_lines bytes b.text front after b.after (e ∙ ap (λ k. Err (errors.BadLine k)) long) (parts ∙ sym (append_assoc before (line ∷ []) after)) b.parts b.c b.is

-- some certificate has the lines before
goes_on : (bytes : List ℕ) (l : ℕ) (c : Completed IsAnswerRead (start bytes) l) (b : LinesBefore 1 l (lines bytes) c.passed) → BeginACertificate b.before
goes_on bytes l c b =
    let t = continued b.before c.passed c.more b.have c.shown in
    record {
      text = t.text;
      after = t.after;
      parts = t.parts;
      c = record { answer = c.x.answer; lines = kept_numbers 1 (lines t.text); flow_heads = c.x.heads; tree_heads = c.x.tree_heads };
      is = record { clean = t.have.clean; rows = c.passed ++ c.more; kept = t.have.texts; told = c.told; numbers = refl };
    }

pub names_the_first_bad_line : NamesTheFirstBadLine
names_the_first_bad_line bytes l e =
    let c = completes_answer.complete (start bytes) l (rest_all_some 1 (lines bytes)) (refused_answer bytes l e) in
    let b = lines_before 1 l (lines bytes) c.passed (start bytes) c.at refl c.passes c.stands in
    let place : l ≡ length b.before + 1 = omega (arith, b.place) in
    record { before = b.before; from_it = b.from_it; parts = b.parts; line = place; goes_on = goes_on bytes l c b; stops = stops_there bytes l b.before b.from_it e b.parts place }
