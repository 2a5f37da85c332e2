use Rattle.std.proofs.Common.{arith}
use Rattle.wh_graph.proofs.SetTables.{tuple_table}
use Rattle.wh_cert.proofs.Staying.{images_are_in, cuts_from}
use Rattle.wh_cert.proofs.images.images_are_in.Goals as goal

pub cuts_stay-requires-clause-capacities : goal.cuts_stay-requires-clause-capacities
cuts_stay-requires-clause-capacities c =
    tuple_table c.graph-net.result c.args.tuple.now.plain c.in_ok-capacities.capacities.items c.deref.result.now c.requires.tuple (omega (arith, c.requires.rank)) c.graph-net.ensures
    c.deref.ensures.value c.in_ok-capacities.ensures

pub returns-clause-are : goal.returns-clause-are
returns-clause-are c = (
  λ h. images_are_in c.args.listed.now c.args.tuple.now.plain c.requires.tuple c.requires.own (c.cuts_stay.ensures.stay.0 h)
      (c.swaps_stay.ensures.stay.0 c.if-not-swaps_stay.false) (c.inversions_stay.ensures.stay.0 c.if-not-inversions_stay.false),
  λ all. c.cuts_stay.ensures.stay.1 (cuts_from c.args.listed.now c.args.tuple.now.plain all),
)
