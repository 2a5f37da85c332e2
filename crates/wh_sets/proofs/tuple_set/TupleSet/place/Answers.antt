use Rattle.std.proofs.Common.{◌≡◌, Some, slice_get, Contains, subst}
use Rattle.std.specs.Option.{MatchOption}
use Rattle.wh_sets.proofs.SetLists.{place_match}
use Rattle.wh_sets.proofs.tuple_set.TupleSet.place.Goals as goal

pub returns : goal.returns
returns c =
    subst (λ ts. MatchOption c.get_index_of.result (¬ (Contains ts c.args.tuple.now.plain)) (λ v. slice_get ts v ≡ Some c.args.tuple.now.plain))
    c.self.view_is (place_match c.self.inside.tuples.keys c.args.tuple.now c.get_index_of.result c.get_index_of.ensures.index)
