use Rattle.std.proofs.Common.{rules, ◌≡◌, ◌++◌, [], refl, sym, subst}
use Rattle.std.proofs.lemmas.Result.{IfOk-weaker}
use Rattle.wh_words.specs.MoveLists.{inverse_list}
use Rattle.wh_answer.specs.declared.finding.Finding.TheVariants.{Moves}
use Rattle.wh_answer.specs.Findings.{Finds}
use Rattle.wh_answer.proofs.Verdicts.{yes_at_once}
use Rattle.wh_answer.proofs.finding.find.Goals as goal

pub returns-then-same : goal.returns-then-same
returns-then-same c =
    let moves = c.args.first.now.moves ++ ([] ++ inverse_list c.args.second.now.moves) in
    IfOk-weaker c.moves_by.result (λ f. f ≡ Moves moves) (Finds c.args.limit c.args.first.now c.args.second.now)
    (λ f e. subst (Finds c.args.limit c.args.first.now c.args.second.now) (sym e)
    (λ s t traced. yes_at_once c.args.limit s t c.args.first.now c.args.second.now moves traced (search rules) refl))
    c.moves_by.ensures
