use Rattle.wh_data.specs.AnswerData.{plains}
use Rattle.wh_cert.specs.Demands.{asked_below, at_asked}
use Rattle.wh_cert.specs.Checks.{AreMet}
use Rattle.wh_cert.specs.Listings.{IsRoomy}
use Rattle.wh_cert.proofs.SecondEnds.{second_end}
use Rattle.wh_cert.proofs.levels.judge_each_tuple.Given as goal

abbrev pub invariant-loop-k : goal.invariant-loop-k
invariant-loop-k l = IsRoomy l.image × AreMet (asked_below (at_asked l.place l.root.plain (second_end l.second) (plains l.tuples)) l.k)
