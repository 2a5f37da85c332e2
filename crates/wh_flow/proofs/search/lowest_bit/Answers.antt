use Rattle.std.proofs.Common.{arith}
use Rattle.std.proofs.Common.{w64}
use Rattle.std.proofs.lemmas.Bool.{eq-eqb}
use Rattle.std.proofs.lemmas.Nat.Bits.{bit_at-trailing_zeros}
use Rattle.wh_flow.proofs.search.lowest_bit.Goals as goal

pub returns-else-set-eq0 : goal.returns-else-set-eq0
returns-else-set-eq0 c =
    let lowest = bit_at-trailing_zeros w64 c.args.set (omega (arith, c.if-set-eq0.false)) c.ranges.set.fits in
    (lowest.0, eq-eqb _ 1 lowest.1)
