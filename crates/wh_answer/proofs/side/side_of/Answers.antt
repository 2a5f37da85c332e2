use Rattle.std.proofs.Common.{sym, subst}
use Rattle.wh_fields.specs.FlowFields.{HaveLines}
use Rattle.wh_answer.proofs.Sides.{flows_have_lines}
use Rattle.wh_answer.proofs.side.side_of.Goals as goal

pub returns-clause-printable : goal.returns-clause-printable
returns-clause-printable c =
    subst (HaveLines c.args.trace.end.plain.rank) (sym c.of.ensures)
    (flows_have_lines c.args.trace.end.plain c.in_ok-flows.flows.items c.flows.ensures.roomed.tuple c.in_ok-flows.ensures.flows)
