use Rattle.std.proofs.Common.{◌+◌, [], ◌∷◌, length, rules, refl, ◌↔◌, IsTrue}
use Rattle.std.specs.Prelude.{Contains}
use Rattle.wh_sets.proofs.Additions.{same_tuples}
use Rattle.wh_data.specs.AnswerData.{plains}
use Rattle.wh_cert.specs.Demands.{has_root, asked_below, at_asked}
use Rattle.wh_cert.proofs.SecondEnds.{second_end}
use Rattle.wh_cert.proofs.Judging.{met_ok, stopped_first, judged_after}
use Rattle.wh_cert.proofs.levels.judge_level.Goals as goal

pub returns-in_err-ask : goal.returns-in_err-ask
returns-in_err-ask c =
    let same = same_tuples (plains c.args.tuples.now) c.in_ok-listed.listed c.in_ok-listed.ensures c.args.root.now.plain in
    let tested : IsTrue c.has.result ↔ Contains (plains c.args.tuples.now) c.args.root.now.plain = (λ h. same.0 (c.has.ensures.0 h), λ there. c.has.ensures.1 (same.1 there)) in
    stopped_first ((c.args.place, has_root c.args.root.now.plain (plains c.args.tuples.now)) ∷ [])
    (asked_below (at_asked (c.args.place + 1) c.args.root.now.plain (second_end c.args.second) (plains c.args.tuples.now)) (length (plains c.args.tuples.now)))
    c.ask.result c.from_residual-in_err-ask.result c.in_err-ask.field-0.0 (c.ask.ensures (has_root c.args.root.now.plain (plains c.args.tuples.now)) refl tested) (search rules) (search rules)

pub returns : goal.returns
returns c =
    let same = same_tuples (plains c.args.tuples.now) c.in_ok-listed.listed c.in_ok-listed.ensures c.args.root.now.plain in
    let tested : IsTrue c.has.result ↔ Contains (plains c.args.tuples.now) c.args.root.now.plain = (λ h. same.0 (c.has.ensures.0 h), λ there. c.has.ensures.1 (same.1 there)) in
    judged_after ((c.args.place, has_root c.args.root.now.plain (plains c.args.tuples.now)) ∷ [])
    (asked_below (at_asked (c.args.place + 1) c.args.root.now.plain (second_end c.args.second) (plains c.args.tuples.now)) (length (plains c.args.tuples.now)))
    c.judge_tuples.result
    (met_ok ((c.args.place, has_root c.args.root.now.plain (plains c.args.tuples.now)) ∷ []) c.ask.result c.in_ok-ask.field-0 (c.ask.ensures (has_root c.args.root.now.plain (plains c.args.tuples.now)) refl tested) (search rules))
    c.judge_tuples.ensures

pub judge_tuples-requires-clause-same : goal.judge_tuples-requires-clause-same
judge_tuples-requires-clause-same c = same_tuples (plains c.args.tuples.now) c.in_ok-listed.listed c.in_ok-listed.ensures
