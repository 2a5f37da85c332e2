use Rattle.std.proofs.Common.{IsTrue, ◌↔◌, Contains, subst}
use Rattle.wh_sets.proofs.SetLists.{has_exactly}
use Rattle.wh_sets.proofs.tuple_set.TupleSet.has.Goals as goal

pub returns : goal.returns
returns c = subst (λ ts. IsTrue c.contains.result ↔ Contains ts c.args.tuple.now.plain) c.self.view_is (has_exactly c.self.inside.tuples.keys c.args.tuple.now c.contains.result c.contains.ensures)
