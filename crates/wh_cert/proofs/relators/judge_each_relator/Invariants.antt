use Rattle.wh_data.specs.AnswerData.{parts_of}
use Rattle.wh_cert.specs.Demands.{asked_below, relator_asked}
use Rattle.wh_cert.specs.Checks.{AreMet}
use Rattle.wh_cert.specs.Listings.{IsRoomy}
use Rattle.wh_cert.proofs.relators.judge_each_relator.Given as goal

abbrev pub invariant-loop-k : goal.invariant-loop-k
invariant-loop-k l = IsRoomy l.image × AreMet (asked_below (relator_asked l.place l.rank (parts_of l.parts)) l.k)
