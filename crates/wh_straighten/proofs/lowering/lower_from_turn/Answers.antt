use Rattle.std.proofs.lemmas.Result.{IfOk-weaker}
use Rattle.wh_straighten.proofs.LoweredTurns.{before_moves, no_peak_moves, turn_read}
use Rattle.wh_straighten.proofs.lowering.lower_from_turn.Goals as goal

pub returns-in-Cut-clause-lowered : goal.returns-in-Cut-clause-lowered
returns-in-Cut-clause-lowered c =
    IfOk-weaker c.two_moves.result _ _
    (λ v e. before_moves c.args.top.now.plain c.args.left.now c.args.right.now c.in-Cut.mult c.in-Cut.set c.rank.ensures.roomed.tuple c.requires.left_rank c.requires.rank c.requires.turn
    c.in-Cut.ensures.valid c.in-Cut.ensures.kind c.requires.peak c.moved_cut.result c.moved_cut.ensures v.items e)
    c.two_moves.ensures

pub returns-in-Swap : goal.returns-in-Swap
returns-in-Swap c =
    absurd (no_peak_moves c.args.top.now.plain c.args.left.now c.args.right.now c.rank.ensures.roomed.tuple c.requires.left_rank c.requires.rank c.requires.turn
    (turn_read c.args.top.now.plain.rank c.args.right.now c.kind.result c.kind.ensures.kind c.kind.ensures.valid c.requires.rank c.in-Swap.is) c.requires.peak)
