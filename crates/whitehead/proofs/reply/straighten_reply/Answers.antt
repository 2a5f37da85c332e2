use Rattle.wh_data.specs.declared.command.Command.TheVariants as commands
use Rattle.wh_data.specs.declared.status.Status.TheVariants.{Refused}
use Rattle.wh_data.specs.AnswerTexts.{answer_text}
use Rattle.wh_data.specs.AnswerData.{answer_of}
use Rattle.wh_data.specs.Statuses.{answer_status}
use Rattle.wh_text.specs.RefusalTexts.{too_long_text}
use Rattle.whitehead.specs.declared.arguments.Task.TheVariants as tasks
use Rattle.whitehead.specs.Replies.{Replies}
use Rattle.whitehead.specs.Replies.Replies.{answered, too_long}
use Rattle.whitehead.proofs.KnownReplies.{reply_told}
use Rattle.whitehead.proofs.reply.straighten_reply.Goals as goal

pub returns-in-Ok : goal.returns-in-Ok
returns-in-Ok c limit bytes read =
    reply_told (Replies limit bytes (tasks.Answer commands.Straighten)) (answer_status c.in-Ok.answer) (answer_text (answer_of c.in-Ok.answer)) c.reply_with-reply.result c.reply_with-reply.ensures.status c.reply_with-reply.ensures.text
    (answered c.in-Ok.answer read (c.in-Ok.ensures.answers limit))

pub returns-in-Err-TooLong : goal.returns-in-Err-TooLong
returns-in-Err-TooLong c limit bytes read =
    reply_told (Replies limit bytes (tasks.Answer commands.Straighten)) Refused (too_long_text c.in-Err-TooLong.place c.in-Err-TooLong.length) c.too_long_reply.result c.too_long_reply.ensures.status c.too_long_reply.ensures.text
    (too_long read (rw c.in-Err-TooLong.field-0-is at c.in-Err-TooLong.ensures.fault))
