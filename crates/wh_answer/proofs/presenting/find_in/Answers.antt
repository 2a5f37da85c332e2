use Rattle.std.proofs.Common.{subst}
use Rattle.wh_stab.specs.Stabilisers.{Stabilises}
use Rattle.wh_answer.specs.StabiliserAnswers.Presents.{many_edges, many_relators}
use Rattle.wh_answer.proofs.presenting.find_in.Goals as goal

pub returns-in-Edges : goal.returns-in-Edges
returns-in-Edges c limit has = many_edges has (subst (Stabilises c.args.tuple.now.plain c.args.level.now) c.in-Edges.is c.in_ok-stab.ensures)

pub returns-in-Relators : goal.returns-in-Relators
returns-in-Relators c limit has = (let bounds = subst (Stabilises c.args.tuple.now.plain c.args.level.now) c.in-Relators.is c.in_ok-stab.ensures in many_relators has bounds.0 bounds.1)
