use Rattle.wh_data.specs.AnswerTexts.{answer_text}
use Rattle.wh_data.specs.AnswerData.{answer_of}
use Rattle.wh_data.specs.Statuses.{answer_status}
use Rattle.whitehead.specs.declared.arguments.Task.TheVariants as tasks
use Rattle.whitehead.specs.Replies.{Replies}
use Rattle.whitehead.specs.Replies.Replies.{answered}
use Rattle.whitehead.proofs.KnownReplies.{reply_told}
use Rattle.whitehead.proofs.reply.answered_reply.Goals as goal

pub returns : goal.returns
returns c command bytes read =
    reply_told (Replies c.args.limit bytes (tasks.Answer command)) (answer_status c.in_ok-answer.answer) (answer_text (answer_of c.in_ok-answer.answer)) c.reply_with-reply.result c.reply_with-reply.ensures.status c.reply_with-reply.ensures.text
    (answered c.in_ok-answer.answer read c.in_ok-answer.ensures.answers)
