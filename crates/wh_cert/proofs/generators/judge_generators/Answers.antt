use Rattle.std.proofs.Common.{Vec, Global, Option, length, subst}
use Rattle.std.specs.Prelude.{MatchOption}
use Rattle.wh_stab.specs.Presentations.{Start, AreGenerators}
use Rattle.wh_data.specs.AnswerData.{parts_of}
use Rattle.wh_cert.specs.Demands.{presented_by}
use Rattle.wh_cert.specs.OffTree.{HasMoreOffTree}
use Rattle.wh_cert.proofs.JudgedGenerators.{too_many_stop}
use Rattle.wh_cert.proofs.generators.judge_generators.Goals as goal

pub returns-in-None : goal.returns-in-None
returns-in-None c =
    too_many_stop (parts_of c.args.parts.now) c.args.place
    (subst (λ (o : Option (Vec Start Global)). MatchOption o (HasMoreOffTree (parts_of c.args.parts.now) (length c.args.parts.now.generators)) (λ es. AreGenerators (presented_by (parts_of c.args.parts.now) es.items))) c.in-None.is c.in_ok-edges.ensures)
