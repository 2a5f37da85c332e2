-- What is told is so: of two tuples that are decided, of a stabiliser that is made, and of a text that is told valid.
use Rattle.std.proofs.Common.{◌≡◌, ℕ, ◌≤◌, List, [], refl, sym, ap, ◌∙◌, subst, arith, Some, Ok}
use Rattle.std.specs.Prelude.{codes}
use Rattle.clap.specs.Words.{Text}
use Rattle.wh_data.specs.declared.status.Status.{Status}
use Rattle.wh_data.specs.declared.status.Status.TheVariants.{Done}
use Rattle.wh_words.specs.Tuples.{TupleData, IsTuple}
use Rattle.wh_words.specs.Levels.Reaches.{here}
use Rattle.wh_lines.proofs.Equations.{ok_is}
use Rattle.wh_data.specs.declared.command.Command.{Command}
use Rattle.wh_data.specs.declared.command.Command.TheVariants as commands
use Rattle.wh_data.specs.declared.answer.Answer as answers
use Rattle.wh_data.specs.declared.answer.Answer.TheVariants.{Reduce, Decide, Straighten, Stabiliser}
use Rattle.wh_data.specs.declared.answer.Verdict as verdicts
use Rattle.wh_data.specs.ProblemData.{ProblemData}
use Rattle.wh_text.specs.Problems.{problem}
use Rattle.wh_data.specs.ProblemData.ProblemData.{decide, stabiliser}
use Rattle.wh_data.specs.declared.answer.StabVerdict.TheVariants as stabs
use Rattle.wh_data.specs.AnswerData.{side_of, parts_of, answer_of}
use Rattle.wh_data.specs.AnswerData.StabVerdictData.{done as made}
use Rattle.wh_data.specs.AnswerData.AnswerData.{stabiliser as stabiliser_answer}
use Rattle.wh_data.specs.AnswerTexts.{answer_text}
use Rattle.wh_answer.proofs.TrueStabilisers.{stab_says}
use Rattle.wh_data.specs.Statuses.{verdict_status, answer_status}
use Rattle.wh_nielsen.proofs.Generation.{trace_ends_tell_what_is_carried, no_automorphism, no_automorphism_changes}
use Rattle.wh_answer.specs.Answers.{Decides, Answers}
use Rattle.wh_answer.specs.Answers.Decides.{other_lengths, one_end, too_long, too_many, joined, off_level}
use Rattle.wh_answer.specs.Laws.{IsProblem}
use Rattle.wh_text.proofs.NumberedAnswers.{certificate_numbered}
use Rattle.wh_cert.specs.declared.checked.Checked.TheVariants.{Valid, Invalid}
use Rattle.wh_answer.proofs.Meaning.{valid_shows}
use Rattle.whitehead.specs.declared.arguments.Task.{Task}
use Rattle.whitehead.specs.declared.arguments.Task.TheVariants as tasks
use Rattle.whitehead.specs.declared.arguments.Arguments.{Arguments}
use Rattle.whitehead.specs.Replies.{Replies}
use Rattle.whitehead.specs.Replies.Replies.{refused, answered, too_long, unread, checked}
use Rattle.whitehead.specs.Asked.{asked}
use Rattle.whitehead.specs.Outcome.{Told}
use Rattle.whitehead.specs.Outcome.Told.{words_refused, replied}
use Rattle.whitehead.specs.Meanings.{SaysOf, TellsStabiliser, IsShown}
use Rattle.whitehead.specs.Laws.{AskCheck, ToldIsTrue, ValidIsShown}
use Rattle.whitehead.proofs.ReadProblems.{read_problem}
use Rattle.whitehead.proofs.ReadTuples.{certificate_tuples}
use Rattle.whitehead.proofs.ReadMoves.{certificate_moves}

reply_shown : (limit : ℕ) (bytes text : List ℕ) (task : Task) (status : Status) → task ≡ tasks.Check → status ≡ Done → Replies limit bytes task status text → IsShown bytes
reply_shown limit bytes text task status is done (refused r) = absurd (cc)
reply_shown limit bytes text task status is done (answered a r q) = absurd (cc)
reply_shown limit bytes text task status is done (too_long r long) = absurd (cc)
reply_shown limit bytes text task status is done (unread r) = absurd (cc)
reply_shown limit bytes text task status is done (checked {c = c} Valid r met) =
    record { certificate = c; read = r; shown = valid_shows c.flow_heads c.tree_heads c.answer (certificate_numbered bytes c r).answer (certificate_tuples bytes c r) (certificate_moves bytes c r) met }
reply_shown limit bytes text task status is done (checked (Invalid line rule) r q) = absurd (cc)

told_shown : (words : List Text) (bytes text : List ℕ) (status : Status) → AskCheck words → status ≡ Done → Told words bytes status text → IsShown bytes
told_shown words bytes text status ask done (words_refused r) = absurd (cc)
told_shown words bytes text status (a, asked, check) done (replied {a = b} r reply) =
    let same : b ≡ a = (cc) in
    reply_shown b.limit bytes text b.task status (ap (λ (v : Arguments). v.task) same ∙ check) done reply

pub valid_is_shown : ValidIsShown
valid_is_shown words bytes ask told = told_shown words bytes (codes "valid\n") Done ask refl told

-- ---- two tuples that are decided
-- What a verdict says of them.
verdict_says : (limit : ℕ) (s t : TupleData) (v : verdicts.Verdict) → IsTuple s → IsTuple t → s.rank ≡ t.rank → s.rank ≤ 26 → Decides limit s t v → SaysOf (verdict_status v) s t
verdict_says limit s t v is other same low (other_lengths {first = a} {second = b} one two differ) =
    no_automorphism_changes s t a.end.plain b.end.plain a.trace b.trace is other same low one.trace two.trace differ
verdict_says limit s t v is other same low (one_end {ms = ms} {ns = ns} {u = u} one two) =
    (trace_ends_tell_what_is_carried s t u u ms ns is other same low one two).1 ([], here)
verdict_says limit s t v is other same low (too_long apart long) = tt
verdict_says limit s t v is other same low (too_many apart short many) = tt
verdict_says limit s t v is other same low (joined {ms = ms} {ns = ns} {walk = walk} {u = u} {v = w} apart short level few first) =
    (trace_ends_tell_what_is_carried s t u w ms ns is other same low apart.first apart.second).1 (walk, first.leads)
verdict_says limit s t v is other same low (off_level {first = a} {second = b} one two apart short level few off) =
    no_automorphism s t a.end.plain b.end.plain a.trace b.trace is other same low one.trace two.trace off

answer_says : (limit : ℕ) (bytes : List ℕ) (s t : TupleData) (p : ProblemData) (a : answers.Answer) → problem commands.Decide bytes ≡ Ok (decide s t) → problem commands.Decide bytes ≡ Ok p → Answers limit p a → SaysOf (answer_status a) s t
answer_says limit bytes s t p a read own is = by a (subst (λ (q : ProblemData). Answers limit q a) (sym (ok_is (decide s t) p (sym read ∙ own))) is)
  where
    known : IsProblem (decide s t)
    known = read_problem commands.Decide bytes (decide s t) read

    by : (x : answers.Answer) → Answers limit (decide s t) x → SaysOf (answer_status x) s t
    by (Reduce tuple side) wrong = absurd wrong
    by (Straighten tuple given ms end) wrong = absurd wrong
    by (Stabiliser tuple verdict) wrong = absurd wrong
    by (Decide first second v) right = verdict_says limit s t v known.0 known.1 known.2 (omega (arith, known.4)) right.2.0

reply_says : (limit : ℕ) (bytes text : List ℕ) (task : Task) (status : Status) (s t : TupleData) → task ≡ tasks.Answer commands.Decide → problem commands.Decide bytes ≡ Ok (decide s t) → Replies limit bytes task status text → SaysOf status s t
reply_says limit bytes text task status s t is read (refused r) = tt
reply_says limit bytes text task status s t is read (answered {command = command} {p = p} a r q) =
    let same : command ≡ commands.Decide = (cc) in
    answer_says limit bytes s t p a read (subst (λ (c : Command). problem c bytes ≡ Ok p) same r) q
reply_says limit bytes text task status s t is read (too_long r long) = absurd (cc)
reply_says limit bytes text task status s t is read (unread r) = absurd (cc)
reply_says limit bytes text task status s t is read (checked found r q) = absurd (cc)

told_says : (words : List Text) (bytes text : List ℕ) (status : Status) (a : Arguments) (s t : TupleData) → asked words ≡ Some a → a.task ≡ tasks.Answer commands.Decide → problem commands.Decide bytes ≡ Ok (decide s t) → Told words bytes status text → SaysOf status s t
told_says words bytes text status a s t asked is read (words_refused r) = tt
told_says words bytes text status a s t asked is read (replied {a = b} r reply) =
    let same : b ≡ a = (cc) in
    reply_says b.limit bytes text b.task status s t (ap (λ (v : Arguments). v.task) same ∙ is) read reply

-- ---- a stabiliser that is made
answer_presents : (limit : ℕ) (bytes : List ℕ) (t : TupleData) (p : ProblemData) (a : answers.Answer) → problem commands.Stabiliser bytes ≡ Ok (stabiliser t) → problem commands.Stabiliser bytes ≡ Ok p → Answers limit p a → answer_status a ≡ Done →
    TellsStabiliser t (answer_text (answer_of a))
answer_presents limit bytes t p a read own is = by a (subst (λ (q : ProblemData). Answers limit q a) (sym (ok_is (stabiliser t) p (sym read ∙ own))) is)
  where
    by : (x : answers.Answer) → Answers limit (stabiliser t) x → answer_status x ≡ Done → TellsStabiliser t (answer_text (answer_of x))
    by (Reduce tuple side) wrong ends = absurd wrong
    by (Straighten tuple given ms end) wrong ends = absurd wrong
    by (Decide first second v) wrong ends = absurd wrong
    by (Stabiliser tuple (stabs.Undecided bound)) right ends = absurd (cc)
    by (Stabiliser tuple (stabs.Done s q)) right ends = record {
      side = side_of s;
      parts = parts_of q;
      told = ap (λ (u : TupleData). answer_text (stabiliser_answer u (made (side_of s) (parts_of q)))) right.0;
      presents = stab_says limit t (stabs.Done s q) right.1;
    }

reply_presents : (limit : ℕ) (bytes text : List ℕ) (task : Task) (status : Status) (t : TupleData) → task ≡ tasks.Answer commands.Stabiliser → problem commands.Stabiliser bytes ≡ Ok (stabiliser t) → status ≡ Done → Replies limit bytes task status text →
    TellsStabiliser t text
reply_presents limit bytes text task status t is read ends (refused r) = absurd (cc)
reply_presents limit bytes text task status t is read ends (answered {command = command} {p = p} a r q) =
    let same : command ≡ commands.Stabiliser = (cc) in
    answer_presents limit bytes t p a read (subst (λ (c : Command). problem c bytes ≡ Ok p) same r) q ends
reply_presents limit bytes text task status t is read ends (too_long r long) = absurd (cc)
reply_presents limit bytes text task status t is read ends (unread r) = absurd (cc)
reply_presents limit bytes text task status t is read ends (checked found r q) = absurd (cc)

told_presents : (words : List Text) (bytes text : List ℕ) (status : Status) (a : Arguments) (t : TupleData) → asked words ≡ Some a → a.task ≡ tasks.Answer commands.Stabiliser → problem commands.Stabiliser bytes ≡ Ok (stabiliser t) → status ≡ Done →
    Told words bytes status text → TellsStabiliser t text
told_presents words bytes text status a t asked is read ends (words_refused r) = absurd (cc)
told_presents words bytes text status a t asked is read ends (replied {a = b} r reply) =
    let same : b ≡ a = (cc) in
    reply_presents b.limit bytes text b.task status t (ap (λ (v : Arguments). v.task) same ∙ is) read ends reply

pub told_is_true : ToldIsTrue
told_is_true words bytes text status told = record {
  decided = λ a s t asked is read. told_says words bytes text status a s t asked is read told;
  presented = λ a t asked is read ends. told_presents words bytes text status a t asked is read ends told;
  checked = λ a asked check done. told_shown words bytes text status (a, asked, check) done told;
}
