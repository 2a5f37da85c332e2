use Rattle.std.proofs.Common.{[], ◌∷◌, rules, refl}
use Rattle.wh_cert.specs.Demands.{moves_carry}
use Rattle.wh_cert.proofs.Carried.{same_tested, way_broken, way_kept, way_end}
use Rattle.wh_cert.proofs.certificate.judge_moves.Goals as goal

pub returns-in_default : goal.returns-in_default
returns-in_default c =
    way_broken c.args.place c.args.first.now.plain c.args.moves.now c.in_ok-end.field-0 ((c.args.place, moves_carry c.args.first.now.plain c.args.moves.now c.args.second.now.plain) ∷ []) (search rules) (search rules)

pub returns : goal.returns
returns c =
    way_kept c.args.place c.args.first.now.plain c.args.moves.now c.in_ok-end.field-0 c.in-Some.end ((c.args.place, moves_carry c.args.first.now.plain c.args.moves.now c.args.second.now.plain) ∷ []) c.ask.result
    (search rules) (search rules)
    (c.ask.ensures (moves_carry c.args.first.now.plain c.args.moves.now c.args.second.now.plain) refl
    (same_tested c.same.result c.in-Some.end.plain _ c.args.second.now.plain c.same.ensures
    (way_end c.args.first.now.plain c.args.moves.now c.in_ok-end.field-0 c.in-Some.end (search rules) (search rules))))
