use Rattle.wh_cert.specs.Listings.{IsRoomy}
use Rattle.wh_cert.specs.Orbits.{AreJudgedBefore}
use Rattle.wh_cert.proofs.closure.all_closed.Given as goal

abbrev pub invariant-loop-place : goal.invariant-loop-place
invariant-loop-place l = IsRoomy l.image × AreJudgedBefore l.listed l.place
