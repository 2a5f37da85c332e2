use Rattle.std.proofs.Common.{subst}
use Rattle.std.specs.List.{IsDistinct}
use Rattle.std.specs.Ordering.{eq_by_cmp}
use Rattle.wh_words.specs.Tuples.{tuple_cmp}
use Rattle.wh_sets.proofs.SetLists.{distinct_plains}
use Rattle.wh_sets.proofs.tuple_set.TupleSet.len.Goals as goal

pub returns-clause-distinct : goal.returns-clause-distinct
returns-clause-distinct c = subst (IsDistinct (eq_by_cmp tuple_cmp)) c.self.view_is (distinct_plains c.self.inside.tuples.keys c.len.ensures.unique)
