-- From a text that was written to what the run did.
use Rattle.std.proofs.Common.{ℕ, inl, inr, List, sym, subst}
use Rattle.std.specs.declared.option.Option.{Option}
use Rattle.clap.specs.Words.{Text}
use Rattle.wh_io.specs.Device.{Consumed}
use Rattle.wh_data.specs.declared.status.Status.{Status}
use Rattle.wh_data.specs.declared.status.Status.TheVariants.{Done, No, Refused, Undecided, ReadFault, WriteFault, OutOfMemory}
use Rattle.wh_data.specs.declared.answer.Answer.{Answer}
use Rattle.wh_data.specs.declared.answer.Answer.TheVariants.{Reduce, Decide, Straighten, Stabiliser}
use Rattle.wh_data.specs.declared.answer.Verdict.{Verdict}
use Rattle.wh_data.specs.declared.answer.Verdict.TheVariants.{Yes, NoLength, NoLevel}
use Rattle.wh_data.specs.declared.answer.Verdict.TheVariants as verdicts
use Rattle.wh_data.specs.declared.answer.StabVerdict.{StabVerdict}
use Rattle.wh_data.specs.declared.answer.StabVerdict.TheVariants as stabs
use Rattle.wh_data.specs.Statuses.{verdict_status, stab_status, answer_status}
use Rattle.wh_cert.specs.declared.checked.Checked.{Checked}
use Rattle.wh_cert.specs.declared.checked.Checked.TheVariants.{Valid, Invalid}
use Rattle.whitehead.specs.Endings.{Finished}
use Rattle.whitehead.specs.CheckedTexts.{checked_status}
use Rattle.whitehead.specs.Replies.Replies.{refused, answered, too_long, unread, checked}
use Rattle.whitehead.specs.Outcome.{Told, IsInput, HasTold, RanTo}
use Rattle.whitehead.specs.Outcome.Told.{words_refused, replied}
use Rattle.whitehead.proofs.Meaning.{told_is_true}

-- The status of a run that writes its text.
abbrev IsToldStatus : Status → Type 0
IsToldStatus Done = Unit {0}
IsToldStatus No = Unit {0}
IsToldStatus Refused = Unit {0}
IsToldStatus Undecided = Unit {0}
IsToldStatus ReadFault = ⊥
IsToldStatus WriteFault = ⊥
IsToldStatus OutOfMemory = ⊥

verdict_ends : (v : Verdict) → IsToldStatus (verdict_status v)
verdict_ends (Yes ms) = tt
verdict_ends (NoLength a b) = tt
verdict_ends (NoLevel a b ts) = tt
verdict_ends (verdicts.Undecided bound) = tt

stab_ends : (v : StabVerdict) → IsToldStatus (stab_status v)
stab_ends (stabs.Done s p) = tt
stab_ends (stabs.Undecided bound) = tt

answers_end : (x : Answer) → IsToldStatus (answer_status x)
answers_end (Reduce t side) = tt
answers_end (Decide s t v) = verdict_ends v
answers_end (Straighten t given ms end) = tt
answers_end (Stabiliser t v) = stab_ends v

checks_end : (found : Checked) → IsToldStatus (checked_status found)
checks_end Valid = tt
checks_end (Invalid line rule) = tt

told_ends : {words : List Text} {bytes text : List ℕ} {status : Status} → Told words bytes status text → IsToldStatus status
told_ends (words_refused r) = tt
told_ends (replied a (refused e)) = tt
told_ends (replied a (answered x p q)) = answers_end x
told_ends (replied a (too_long p long)) = tt
told_ends (replied a (unread e)) = tt
told_ends (replied a (checked found e k)) = checks_end found

module _ (words : List Text) (left left' held held' sent' : Option (List ℕ)) (bytes : List ℕ) (read : Consumed left left' bytes) (whole : IsInput words bytes left') where
  -- A run that writes its text ends in one of four ways.
  told_ran : (status : Status) → IsToldStatus status → HasTold words left left' held held' sent' status → RanTo words left left' held held' sent' status
  told_ran Done is h = h
  told_ran No is h = h
  told_ran Refused is h = h
  told_ran Undecided is h = h
  told_ran ReadFault is h = absurd is
  told_ran WriteFault is h = absurd is
  told_ran OutOfMemory is h = absurd is

  pub ran_from : (c c' : ℕ) (status : Status) (text : List ℕ) (result : Status) → Told words bytes status text → Finished held held' sent' c c' text status result → RanTo words left left' held held' sent' result
  ran_from c c' status text result told f = elim f [
    | inl h ↦ subst (RanTo words left left' held held' sent') (sym h.0)
        (told_ran status (told_ends told) (record { bytes = bytes; text = text; read = read; whole = whole; written = h.1; told = told; so = told_is_true words bytes text status told }))
    | inr h ↦ subst (RanTo words left left' held held' sent') (sym h.0)
        (record { bytes = bytes; text = text; status = status; read = read; whole = whole; written = h.1; told = told })
  ]
