-- A reply of which the status and the text are known.
use Rattle.std.proofs.Common.{◌≡◌, ℕ, List, sym, subst, Result, Ok, Err}
use Rattle.std.specs.Prelude.{IfOk}
use Rattle.wh_data.specs.declared.status.Status.{Status}
use Rattle.whitehead.specs.declared.reply.Reply.{Reply}

pub reply_told : {E : Type 0} (Told : Status → List ℕ → Type 0) (status : Status) (text : List ℕ) (result : Result Reply E) → IfOk result (λ r. r.status ≡ status) → IfOk result (λ r. r.text ≡ text) → Told status text →
    IfOk result (λ r. Told r.status r.text)
reply_told Told status text (Ok r) same line told = subst (λ s. Told s r.text) (sym same) (subst (Told status) (sym line) told)
reply_told Told status text (Err e) same line told = tt
