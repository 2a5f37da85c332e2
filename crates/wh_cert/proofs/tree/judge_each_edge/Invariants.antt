use Rattle.wh_data.specs.AnswerData.{parts_of}
use Rattle.wh_cert.specs.Demands.{asked_below, tree_edge_asked}
use Rattle.wh_cert.specs.Checks.{AreMet}
use Rattle.wh_cert.specs.Listings.{IsRoomy}
use Rattle.wh_cert.proofs.tree.judge_each_edge.Given as goal

abbrev pub invariant-loop-line : goal.invariant-loop-line
invariant-loop-line l = IsRoomy l.image × AreMet (asked_below (tree_edge_asked l.place l.heads l.root (parts_of l.parts)) l.line)
