use Rattle.wh_cert.specs.Listings.{IsRoomy}
use Rattle.wh_cert.proofs.closure.has_earlier_inversion.Given as goal

abbrev pub invariant-loop-k : goal.invariant-loop-k
invariant-loop-k l = IsRoomy l.image
