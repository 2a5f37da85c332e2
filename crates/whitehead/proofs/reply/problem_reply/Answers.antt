use Rattle.std.proofs.Common.{◌≡◌, ◌∙◌, List, sym, ap, subst, Ok}
use Rattle.std.specs.Prelude.{IfOk}
use Rattle.wh_words.specs.Moves.{Move}
use Rattle.wh_data.specs.declared.command.Command.{Command}
use Rattle.wh_data.specs.declared.command.Command.TheVariants as commands
use Rattle.wh_data.specs.ProblemData.{problem_of}
use Rattle.wh_data.specs.ProblemData.ProblemData.{straighten}
use Rattle.wh_text.specs.Problems.{problem}
use Rattle.whitehead.specs.declared.arguments.Task.TheVariants as tasks
use Rattle.whitehead.specs.Replies.{Replies}
use Rattle.whitehead.proofs.ReadProblems.{straighten_of}
use Rattle.whitehead.proofs.reply.problem_reply.Goals as goal

pub returns-in-Straighten : goal.returns-in-Straighten
returns-in-Straighten c command bytes read =
    let tuple = c.in-Straighten.tuple.plain in
    let own : problem command bytes ≡ Ok (straighten tuple c.in-Straighten.moves) = read ∙ ap (λ p. Ok (problem_of p)) c.in-Straighten.is in
    let is : command ≡ commands.Straighten = straighten_of command bytes tuple c.in-Straighten.moves own in
    let stated : problem commands.Straighten bytes ≡ Ok (straighten tuple c.items.result.now) =
    ap (λ (k : Command). problem k bytes) (sym is) ∙ own ∙ ap (λ (ms : List Move). Ok (straighten tuple ms)) (sym c.items.ensures) in
    subst (λ (k : Command). IfOk c.straighten_reply.result (λ r. Replies c.args.limit bytes (tasks.Answer k) r.status r.text)) (sym is) (c.straighten_reply.ensures c.args.limit bytes stated)
