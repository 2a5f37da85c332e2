use Rattle.std.proofs.Common.{◌∙◌, sym, subst, List, ℕ}
use Rattle.wh_data.specs.declared.status.Status.{Status}
use Rattle.whitehead.specs.declared.arguments.Task.TheVariants as tasks
use Rattle.whitehead.specs.CheckedTexts.{checked_text}
use Rattle.whitehead.specs.Replies.{Replies}
use Rattle.whitehead.specs.Replies.Replies.{checked}
use Rattle.whitehead.proofs.reply.certificate_reply.Goals as goal

pub returns : goal.returns
returns c limit bytes read =
    subst (λ (text : List ℕ). Replies limit bytes tasks.Check c.status_of.result text) (sym (c.of.ensures ∙ c.in_ok-text.ensures))
    (subst (λ (status : Status). Replies limit bytes tasks.Check status (checked_text c.in_ok-found.found)) (sym c.status_of.ensures) (checked c.in_ok-found.found read c.in_ok-found.ensures))
