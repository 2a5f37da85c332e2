use Rattle.std.proofs.Common.{rules, ◌≡◌, ◌++◌, refl, sym, subst}
use Rattle.std.proofs.lemmas.Result.{IfOk-weaker}
use Rattle.wh_words.specs.MoveLists.{inverse_list}
use Rattle.wh_answer.specs.declared.finding.Finding.TheVariants.{Moves}
use Rattle.wh_answer.specs.Findings.{Finds}
use Rattle.wh_answer.proofs.Verdicts.{yes_by_walk, found_off}
use Rattle.wh_answer.proofs.finding.find_in.Goals as goal

pub returns-in-Ok-Some : goal.returns-in-Ok-Some
returns-in-Ok-Some c limit few =
    let moves = c.args.first.now.moves ++ (c.deref.result.now ++ inverse_list c.args.second.now.moves) in
    IfOk-weaker c.moves_by.result (λ f. f ≡ Moves moves) (Finds limit c.args.first.now c.args.second.now)
    (λ f e. subst (Finds limit c.args.first.now c.args.second.now) (sym e)
    (λ s t traced. yes_by_walk limit s t c.args.first.now c.args.second.now c.args.level c.deref.result.now moves traced c.requires.apart c.requires.low c.requires.closed c.requires.root few (search rules) refl))
    c.moves_by.ensures

pub returns-in-Ok-None : goal.returns-in-Ok-None
returns-in-Ok-None c limit few =
    found_off limit c.args.first.now c.args.second.now c.args.level c.of.result c.requires.apart c.requires.low c.requires.closed c.requires.root few (search rules) (search rules)
