use Rattle.std.proofs.Common.{sym, ◌∙◌}
use Rattle.wh_words.specs.Moves.{move_cmp}
use Rattle.wh_words.specs.TupleTies.{equal_then_tied}
use Rattle.wh_moves.specs.MoveOrders.{same_move}
use Rattle.wh_straighten.proofs.StraightWays.{empty_way}
use Rattle.wh_straighten.proofs.straightening.way_round.Goals as goal

pub returns-then-eq-clause-lowered : goal.returns-then-eq-clause-lowered
returns-then-eq-clause-lowered c =
    empty_way c.args.top.now.plain c.args.left.now c.args.right.now c.new.result.items c.rank.ensures.valid c.requires.left_rank
    (same_move c.args.left.now c.args.right.now (equal_then_tied (move_cmp c.args.left.now c.args.right.now) (sym c.eq.ensures ∙ c.if-eq.true))) c.new.ensures.items
