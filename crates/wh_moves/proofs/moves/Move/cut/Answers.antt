use Rattle.std.proofs.Common.{arith}
use Rattle.wh_moves.proofs.PackedOrder.{mask_fits}
use Rattle.wh_moves.proofs.moves.Move.cut.Goals as goal

pub packed-requires-clause-rest : goal.packed-requires-clause-rest
packed-requires-clause-rest c = omega (arith, c.bits.ensures, mask_fits c.args.rank c.args.mult c.args.set (c.is_cut.ensures.is.0 c.if-is_cut.true) c.is_cut.ensures.within)
