-- The words and the bytes of a run determine what is told.
use Rattle.std.proofs.Common.{◌≡◌, ℕ, List, refl, sym, ap, ◌∙◌, subst, Result, Ok}
use Rattle.wh_words.specs.Tuples.{TupleData}
use Rattle.wh_words.specs.Moves.{Move}
use Rattle.wh_moves.specs.Acts.{FitsOnTheWay, IsFirstTooLong}
use Rattle.wh_lines.specs.declared.read_error.ReadError.{ReadError}
use Rattle.wh_lines.proofs.Equations.{ok_is, err_is, some_is}
use Rattle.wh_data.specs.declared.status.Status.{Status}
use Rattle.wh_data.specs.declared.command.Command.{Command}
use Rattle.wh_data.specs.declared.command.Command.TheVariants as commands
use Rattle.wh_data.specs.declared.answer.Answer as answers
use Rattle.wh_data.specs.declared.answer.Answer.TheVariants.{Reduce, Decide, Straighten, Stabiliser}
use Rattle.wh_data.specs.ProblemData.{ProblemData}
use Rattle.wh_data.specs.ProblemData.ProblemData.{reduce, decide, straighten, stabiliser}
use Rattle.wh_text.specs.Problems.{problem}
use Rattle.wh_text.specs.RefusalTexts.{refusal_text}
use Rattle.wh_answer.specs.Answers.{Answers}
use Rattle.wh_answer.specs.Laws.{AsksForOne}
use Rattle.wh_answer.proofs.OneAnswer.{answer_one}
use Rattle.wh_data.specs.AnswerData.{CertificateData}
use Rattle.wh_cert.specs.declared.checked.Checked.{Checked}
use Rattle.wh_cert.specs.Checks.{Checks}
use Rattle.wh_cert.proofs.OneVerdict.{finds_one}
use Rattle.whitehead.specs.declared.arguments.Task.{Task}
use Rattle.whitehead.specs.declared.arguments.Task.TheVariants as tasks
use Rattle.whitehead.specs.declared.arguments.Arguments.{Arguments}
use Rattle.whitehead.specs.CheckedTexts.{checked_status, checked_text}
use Rattle.whitehead.specs.Replies.{Replies}
use Rattle.whitehead.specs.Replies.Replies.{refused, answered, too_long, unread, checked}
use Rattle.whitehead.specs.Outcome.Told.{words_refused, replied}
use Rattle.whitehead.specs.Laws.{ToldIsUnique}
use Rattle.whitehead.proofs.ReadProblems.{IsOf, of_command, read_problem}

cert_is : (c d : CertificateData) → ◌≡◌ {A = Result CertificateData ReadError} (Ok c) (Ok d) → c ≡ d
cert_is c d h = cc

same_found : (found other : Checked) → found ≡ other → (checked_status found ≡ checked_status other) × (checked_text found ≡ checked_text other)
same_found found other e = (ap checked_status e, ap checked_text e)

-- a problem that isn't read by `straighten` asks for one answer
asks_for_one : (command : Command) (p : ProblemData) → IsOf command p → ¬ (tasks.Answer command ≡ tasks.Answer commands.Straighten) → AsksForOne p
asks_for_one command (reduce t) is other = tt
asks_for_one command (decide s t) is other = tt
asks_for_one commands.Reduce (straighten t list) is other = absurd is
asks_for_one commands.Decide (straighten t list) is other = absurd is
asks_for_one commands.Straighten (straighten t list) is other = other refl
asks_for_one commands.Stabiliser (straighten t list) is other = absurd is
asks_for_one command (stabiliser t) is other = tt

-- a list that is answered fits on its way
answered_fits : (limit : ℕ) (t : TupleData) (list : List Move) (a : answers.Answer) → Answers limit (straighten t list) a → FitsOnTheWay t list
answered_fits limit t list (Reduce u side) is = absurd is
answered_fits limit t list (Decide s u v) is = absurd is
answered_fits limit t list (Straighten u given ms end) is = is.2.fits
answered_fits limit t list (Stabiliser u v) is = absurd is

not_both : (limit : ℕ) (bytes : List ℕ) (p : ProblemData) (a : answers.Answer) (t : TupleData) (list : List Move) (place length : ℕ) → problem commands.Straighten bytes ≡ Ok p → Answers limit p a → problem commands.Straighten bytes ≡ Ok (straighten t list) →
    IsFirstTooLong t list place length → ⊥
not_both limit bytes p a t list place length h i k long =
    long.too_long (answered_fits limit t list a (subst (λ r. Answers limit r a) (ok_is p (straighten t list) (sym h ∙ k)) i) place long.within)

-- one status, and one text, unless a list is to be straightened
abbrev AreOne : Task → Status → Status → List ℕ → List ℕ → Type 0
AreOne task status other text another = (status ≡ other) × (¬ (task ≡ tasks.Answer commands.Straighten) → text ≡ another)

reply_one : (limit : ℕ) (bytes : List ℕ) (task : Task) (status other : Status) (text another : List ℕ) → Replies limit bytes task status text → Replies limit bytes task other another → AreOne task status other text another
reply_one limit bytes task status other text another (refused {e = d} h) (refused {e = e} k) = (refl, λ _. ap refusal_text (err_is d e (sym h ∙ k)))
reply_one limit bytes task status other text another (refused h) (answered b k j) = absurd (cc)
reply_one limit bytes task status other text another (refused h) (too_long k long) = absurd (cc)
reply_one limit bytes task status other text another (answered a h i) (refused k) = absurd (cc)
reply_one limit bytes task status other text another (answered {command = command} {p = p} a h i) (answered {p = q} b k j) =
    let one = answer_one limit p a b (read_problem command bytes p h) i (subst (λ r. Answers limit r b) (sym (ok_is p q (sym h ∙ k))) j) in
    (one.1, λ other. one.0 (asks_for_one command p (of_command command bytes p h) other))
reply_one limit bytes task status other text another (answered {p = p} a h i) (too_long {t = t} {list = list} {place = place} {length = length} k long) = absurd (not_both limit bytes p a t list place length h i k long)
reply_one limit bytes task status other text another (too_long h long) (refused k) = absurd (cc)
reply_one limit bytes task status other text another (too_long {t = t} {list = list} {place = place} {length = length} h long) (answered {p = p} b k j) = absurd (not_both limit bytes p b t list place length k j h long)
reply_one limit bytes task status other text another (too_long h long) (too_long k also) = (refl, λ other. absurd (other refl))
reply_one limit bytes task status other text another (unread {e = d} h) (unread {e = e} k) = (refl, λ _. ap refusal_text (err_is d e (sym h ∙ k)))
reply_one limit bytes task status other text another (unread h) (checked found k j) = absurd (cc)
reply_one limit bytes task status other text another (checked found h i) (unread k) = absurd (cc)
reply_one limit bytes task status other text another (checked {c = c} found h i) (checked {c = d} rest k j) =
    let one = same_found found rest (finds_one c found rest i (subst (λ r. Checks r rest) (sym (cert_is c d (sym h ∙ k))) j)) in
    (one.0, λ _. one.1)

pub told_one : ToldIsUnique
told_one words bytes status other text another (words_refused h) (words_refused k) = (refl, λ _. refl)
told_one words bytes status other text another (words_refused h) (replied k r) = absurd (cc)
told_one words bytes status other text another (replied h r) (words_refused k) = absurd (cc)
told_one words bytes status other text another (replied {a = a} h r) (replied {a = b} k s) =
    let one = reply_one a.limit bytes a.task status other text another r (subst (λ (v : Arguments). Replies v.limit bytes v.task other another) (sym (some_is a b (sym h ∙ k))) s) in
    (one.0, λ other. one.1 (λ is. other (a, h, is)))
