use Rattle.std.proofs.Common.{refl, arith}
use Rattle.wh_cert.proofs.tree.root_of.Goals as goal

pub returns : goal.returns
returns c root h = absurd (c.loop-place.invariant root (omega (arith, h.0, c.loop-place-test.false)) ((h.1 root).1 refl))
