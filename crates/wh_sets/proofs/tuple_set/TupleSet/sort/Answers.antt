use Rattle.std.proofs.Common.{subst}
use Rattle.std.proofs.lemmas.List.Sorted.{IsPermutation-map}
use Rattle.std.specs.List.Sorted.{IsPermutation}
use Rattle.wh_words.specs.Tuples.{Tuple}
use Rattle.wh_sets.proofs.SetLists.{plains}
use Rattle.wh_sets.proofs.SortedSets.{sorted_plains}
use Rattle.wh_sets.proofs.tuple_set.TupleSet.sort.Goals as goal

pub returns-clause-sorted : goal.returns-clause-sorted
returns-clause-sorted c = sorted_plains c.sort.new.self.keys c.in_ok-sort.ensures.sorted c.in_ok-sort.ensures.unique

pub returns-clause-same : goal.returns-clause-same
returns-clause-same c =
    subst (λ ts. IsPermutation ts (plains c.sort.new.self.keys)) c.self.view_is
    (IsPermutation-map (λ (t : Tuple). t.plain) c.self.inside.tuples.keys c.sort.new.self.keys c.in_ok-sort.ensures.reordered.0)
