use Rattle.std.proofs.Common.{ap, ◌∙◌, ◌∷◌, [], arith, subst, length}
use Rattle.std.proofs.lemmas.Result.{IfOk-weaker}
use Rattle.wh_words.specs.Moves.{Move, cut_move}
use Rattle.wh_peak.specs.Straightness.{IsPeak}
use Rattle.wh_straighten.proofs.LoweredTurns.{cut_is, turn_read, after_moves}
use Rattle.wh_straighten.proofs.lowering.lower_from_cut.Goals as goal

pub lower_cuts-requires-clause-peak : goal.lower_cuts-requires-clause-peak
lower_cuts-requires-clause-peak c =
    subst (λ (z : Move). IsPeak c.args.top.now.plain (cut_move c.args.top.now.plain.rank c.args.left_mult c.args.left_set) z)
    (cut_is c.args.top.now.plain.rank c.in-Cut.mult c.in-Cut.set c.args.right.now c.requires.rank c.in-Cut.ensures.kind) c.requires.peak

pub returns-in-Swap : goal.returns-in-Swap
returns-in-Swap c = record {
  lowered = IfOk-weaker c.two_moves.result _ _
      (λ v e. after_moves c.args.top.now.plain c.args.right.now c.args.left_mult c.args.left_set c.rank.ensures.roomed.tuple c.requires.rank c.kind.ensures.valid c.requires.cut
      (turn_read c.args.top.now.plain.rank c.args.right.now c.kind.result c.kind.ensures.kind c.kind.ensures.valid c.requires.rank c.in-Swap.is)
      c.requires.peak c.moved_cut.result c.moved_cut.ensures v.items (e ∙ ap (λ (m : Move). c.args.right.now ∷ m ∷ []) c.inverse.ensures))
      c.two_moves.ensures;
  few = IfOk-weaker c.two_moves.result _ _ (λ v e. omega (arith, ap length e)) c.two_moves.ensures;
}
