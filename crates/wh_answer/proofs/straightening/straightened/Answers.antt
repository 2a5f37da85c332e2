use Rattle.std.proofs.Common.{◌≡◌, List, sym, ap, subst}
use Rattle.wh_words.specs.Tuples.{Tuple}
use Rattle.wh_words.specs.Moves.{Move}
use Rattle.wh_words.specs.Action.{act_all as led_to}
use Rattle.wh_peak.specs.Straightness.{IsStraightened}
use Rattle.wh_answer.proofs.straightening.straightened.Goals as goal

pub returns-clause-answers : goal.returns-clause-answers
returns-clause-answers c limit =
    let leads : led_to c.args.tuple.now.plain c.args.given.now ≡ c.in_ok-end.end.plain = sym (ap (λ (t : Tuple). t.plain) c.in_ok-end.ensures.acted) in
    let straight : IsStraightened c.args.tuple.now.plain c.args.given.now c.of.result = subst (λ (ms : List Move). IsStraightened c.args.tuple.now.plain c.args.given.now ms) (sym c.of.ensures) c.in_ok-moves.ensures.straightened in
    c.in_ok-answer_with.ensures.answers limit (record { fits = c.in_ok-moves.ensures.fits; straightened = straight; leads = leads })
