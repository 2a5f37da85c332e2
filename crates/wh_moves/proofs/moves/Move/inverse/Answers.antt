use Rattle.std.proofs.Common.{arith, ◌∙◌}
use Rattle.wh_moves.proofs.PackedOrder.{turned_fits, turned_is_move}
use Rattle.wh_moves.proofs.moves.Move.inverse.Goals as goal

pub packed-requires-clause-rest : goal.packed-requires-clause-rest
packed-requires-clause-rest c =
    omega (arith, c.bits.ensures, turned_fits c.args.self.now c.in-Cut.mult c.in-Cut.set c.turned.result c.kind.ensures.valid c.in-Cut.ensures.kind c.turned.ensures)

pub invariant_of-result : goal.invariant_of-result
invariant_of-result c =
    turned_is_move c.args.self.now c.packed.result c.rank.result c.in-Cut.mult c.in-Cut.set c.inverse.result c.bits.result _ c.kind.ensures.valid c.in-Cut.ensures.kind c.rank.ensures.rank
    c.inverse.ensures (c.bits.ensures ∙ c.turned.ensures) (omega arith) c.packed.ensures
