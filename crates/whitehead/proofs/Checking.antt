-- What is told of a problem is told valid when it is checked: for the law on answers.
use Rattle.std.proofs.Common.{◌≡◌, ◌⊎◌, ◌≤◌, ℕ, true, List, [], ◌∷◌, sym, ap, ◌∙◌, subst, arith, inl, inr, Ok, Option, None, Some}
use Rattle.std.specs.Prelude.{codes}
use Rattle.clap.specs.Words.{Row, Text, Kinds, first_of, fault_of, matches_of}
use Rattle.std.proofs.lemmas.Bool.Decides.{nat_tests}
use Rattle.wh_words.specs.Limits.{most_level_tuples}
use Rattle.wh_words.specs.Tuples.{Tuple}
use Rattle.wh_words.specs.Moves.{Move}
use Rattle.wh_data.specs.declared.status.Status.{Status}
use Rattle.wh_data.specs.declared.status.Status.TheVariants.{Done, No}
use Rattle.wh_data.specs.declared.command.Command.{Command}
use Rattle.wh_data.specs.declared.command.Command.TheVariants as commands
use Rattle.wh_data.specs.Commands.{is_checked}
use Rattle.wh_data.specs.declared.answer.Answer as answers
use Rattle.wh_data.specs.declared.answer.Answer.TheVariants.{Reduce, Decide, Straighten, Stabiliser}
use Rattle.wh_data.specs.declared.answer.Verdict.TheVariants as verdicts
use Rattle.wh_data.specs.declared.answer.StabVerdict.TheVariants as stabs
use Rattle.wh_lines.specs.Numbers.{number}
use Rattle.wh_data.specs.ProblemData.{ProblemData}
use Rattle.wh_data.specs.ProblemData.ProblemData.{reduce, decide, straighten, stabiliser}
use Rattle.wh_text.specs.Problems.{problem}
use Rattle.wh_data.specs.AnswerTexts.{answer_text}
use Rattle.wh_data.specs.AnswerData.{answer_of}
use Rattle.wh_data.specs.Statuses.{answer_status}
use Rattle.wh_text.proofs.ReadBack.{reads_back}
use Rattle.wh_cert.specs.declared.checked.Checked.TheVariants.{Valid}
use Rattle.wh_answer.specs.Answers.{Answers}
use Rattle.wh_answer.specs.Certified.{IsDecided}
use Rattle.wh_answer.proofs.Valid.{answers_valid}
use Rattle.wh_answer.proofs.Readable.{answers_readable}
use Rattle.whitehead.specs.declared.arguments.Task.{Task}
use Rattle.whitehead.specs.declared.arguments.Task.TheVariants as tasks
use Rattle.whitehead.specs.declared.arguments.Arguments.{Arguments}
use Rattle.whitehead.specs.Limits.{standing_limit, most_workers, standing_workers}
use Rattle.whitehead.specs.CommandLine.{program}
use Rattle.whitehead.specs.Asked.{in_range, option_in, together, asked_unless, asked, task_in}
use Rattle.whitehead.specs.CheckedTexts.{checked_text}
use Rattle.whitehead.specs.Replies.{Replies}
use Rattle.whitehead.specs.Replies.Replies.{refused, answered, too_long, unread, checked}
use Rattle.whitehead.specs.Outcome.Told.{words_refused, replied}
use Rattle.whitehead.specs.Laws.{AnswersAreValid}
use Rattle.whitehead.proofs.ReadProblems.{IsOf, of_command, read_problem}

-- ---- the limit of a run
range_within : (least most : ℕ) (o : Option ℕ) (n : ℕ) → in_range least most o ≡ Some n → n ≤ most
range_within least most None n e = absurd (cc)
range_within least most (Some k) n e = grind (arith, nat_tests)

option_within : (least most standing : ℕ) (o : Option Text) (n : ℕ) → standing ≤ most → option_in least most standing o ≡ Some n → n ≤ most
option_within least most standing None n h e = let same : standing ≡ n = (cc) in omega (arith, h, same)
option_within least most standing (Some t) n h e = range_within least most (number t) n e

together_limit : (task : Option Task) (limit workers : Option ℕ) (a : Arguments) → together task limit workers ≡ Some a → limit ≡ Some a.limit
together_limit None limit workers a e = absurd (cc)
together_limit (Some task) None workers a e = absurd (cc)
together_limit (Some task) (Some limit) None a e = absurd (cc)
together_limit (Some task) (Some limit) (Some workers) a e =
    let same : record { task = task; limit = limit; workers = workers } ≡ a = (cc) in
    ap (λ (b : Arguments). Some b.limit) same

unless_limit : (kinds : Kinds) (rows : List Row) (a : Arguments) → asked_unless kinds rows ≡ Some a → a.limit ≤ most_level_tuples
unless_limit [] rows a e =
    let limit = together_limit (task_in (first_of (codes "COMMAND") rows)) (option_in 1 most_level_tuples standing_limit (first_of (codes "limit") rows)) (option_in 1 most_workers standing_workers (first_of (codes "workers") rows)) a e in
    option_within 1 most_level_tuples standing_limit (first_of (codes "limit") rows) a.limit (omega arith) limit
unless_limit (k ∷ ks) rows a e = absurd (cc)

asked_limit : (words : List Text) (a : Arguments) → asked words ≡ Some a → a.limit ≤ most_level_tuples
unfolding asked
asked_limit words a e = unless_limit (fault_of program words) (matches_of program words) a e

-- ---- answers that aren't undecided
-- a list that was straightened is no answer of a command that is checked
not_straightened : (limit : ℕ) (command : Command) (p : ProblemData) (u : Tuple) (given ms : List Move) (end : Tuple) → is_checked command ≡ true → IsOf command p → Answers limit p (Straighten u given ms end) → ⊥
not_straightened limit command (reduce t) u given ms end c o is = is
not_straightened limit command (decide s t) u given ms end c o is = is
not_straightened limit commands.Reduce (straighten t list) u given ms end c o is = o
not_straightened limit commands.Decide (straighten t list) u given ms end c o is = o
not_straightened limit commands.Straighten (straighten t list) u given ms end c o is = absurd (cc)
not_straightened limit commands.Stabiliser (straighten t list) u given ms end c o is = o
not_straightened limit command (stabiliser t) u given ms end c o is = is

decided_by : (limit : ℕ) (command : Command) (p : ProblemData) (a : answers.Answer) → is_checked command ≡ true → IsOf command p → Answers limit p a → (answer_status a ≡ Done) ⊎ (answer_status a ≡ No) → IsDecided (answer_of a)
decided_by limit command p (Reduce t s) c o is h = tt
decided_by limit command p (Decide s t (verdicts.Yes ms)) c o is h = tt
decided_by limit command p (Decide s t (verdicts.NoLength a b)) c o is h = tt
decided_by limit command p (Decide s t (verdicts.NoLevel a b ts)) c o is h = tt
decided_by limit command p (Decide s t (verdicts.Undecided bound)) c o is (inl e) = absurd (cc)
decided_by limit command p (Decide s t (verdicts.Undecided bound)) c o is (inr e) = absurd (cc)
decided_by limit command p (Straighten t given ms end) c o is h = absurd (not_straightened limit command p t given ms end c o is)
decided_by limit command p (Stabiliser t (stabs.Done s q)) c o is h = tt
decided_by limit command p (Stabiliser t (stabs.Undecided bound)) c o is (inl e) = absurd (cc)
decided_by limit command p (Stabiliser t (stabs.Undecided bound)) c o is (inr e) = absurd (cc)

-- ---- its text is checked
valid_again : (limit : ℕ) (command : Command) (bytes : List ℕ) (p : ProblemData) (a : answers.Answer) → limit ≤ most_level_tuples → problem command bytes ≡ Ok p → Answers limit p a → IsDecided (answer_of a) →
    (other : ℕ) → Replies other (answer_text (answer_of a)) tasks.Check Done (codes "valid\n")
unfolding checked_text
valid_again limit command bytes p a low read own decided other =
    let is = read_problem command bytes p read in
    let readable = answers_readable limit p a low is own decided in
    checked Valid (reads_back (answer_of a) readable.certificate readable.short) (answers_valid limit p a is own decided)

reply_valid : (limit : ℕ) (bytes text : List ℕ) (task : Task) (command : Command) (status : Status) → limit ≤ most_level_tuples → is_checked command ≡ true → task ≡ tasks.Answer command → (status ≡ Done) ⊎ (status ≡ No) → Replies limit bytes task status text →
    (other : ℕ) → Replies other text tasks.Check Done (codes "valid\n")
reply_valid limit bytes text task command status low c is (inl e) (refused r) other = absurd (cc)
reply_valid limit bytes text task command status low c is (inr e) (refused r) other = absurd (cc)
reply_valid limit bytes text task command status low c is decided (answered {command = own} {p = p} a r q) other =
    let same : own ≡ command = (cc) in
    valid_again limit own bytes p a low r q (decided_by limit own p a (ap is_checked same ∙ c) (of_command own bytes p r) q decided) other
reply_valid limit bytes text task command status low c is (inl e) (too_long r long) other = absurd (cc)
reply_valid limit bytes text task command status low c is (inr e) (too_long r long) other = absurd (cc)
reply_valid limit bytes text task command status low c is decided (unread r) other = absurd (cc)
reply_valid limit bytes text task command status low c is decided (checked found r q) other = absurd (cc)

pub answers_valid_again : AnswersAreValid
answers_valid_again words others bytes text status ask (b, h, check) (inl e) (words_refused r) = absurd (cc)
answers_valid_again words others bytes text status ask (b, h, check) (inr e) (words_refused r) = absurd (cc)
answers_valid_again words others bytes text status (command, c, (a, k, task)) (b, h, check) decided (replied {a = d} r reply) =
    let same : d ≡ a = (cc) in
    replied h (subst (λ (t : Task). Replies b.limit text t Done (codes "valid\n")) (sym check)
    (reply_valid d.limit bytes text d.task command status (asked_limit words d r) c (ap (λ (v : Arguments). v.task) same ∙ task) decided reply b.limit))
