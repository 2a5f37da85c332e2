use Rattle.wh_data.specs.AnswerData.{side_of}
use Rattle.wh_cert.specs.Demands.{asked_below, flow_asked}
use Rattle.wh_cert.specs.Checks.{AreMet}
use Rattle.wh_cert.proofs.sides.judge_flows.Given as goal

abbrev pub invariant-loop-g : goal.invariant-loop-g
invariant-loop-g l = AreMet (asked_below (flow_asked l.place l.from l.heads (side_of l.side)) l.g)
