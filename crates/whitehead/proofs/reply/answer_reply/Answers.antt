use Rattle.std.proofs.Common.{rules}
use Rattle.wh_data.specs.declared.status.Status.TheVariants.{Refused}
use Rattle.wh_text.specs.RefusalTexts.{refusal_text}
use Rattle.whitehead.specs.declared.arguments.Task.TheVariants as tasks
use Rattle.whitehead.specs.Replies.{Replies}
use Rattle.whitehead.specs.Replies.Replies.{refused}
use Rattle.whitehead.proofs.KnownReplies.{reply_told}
use Rattle.whitehead.proofs.reply.answer_reply.Goals as goal

pub returns-in-Err : goal.returns-in-Err
returns-in-Err c =
    reply_told (Replies c.args.limit c.args.bytes.now (tasks.Answer c.args.command)) Refused (refusal_text c.in-Err.refusal) c.refusal_reply.result c.refusal_reply.ensures.status c.refusal_reply.ensures.text
    (refused (search rules))
