use Rattle.std.proofs.Common.{rules, of_calls}
use Rattle.std.proofs.lemmas.Fn.{always_returns_same}
use Rattle.wh_words.specs.Tuples.{Tuple, tuple_cmp}
use Rattle.wh_cert.proofs.FollowedWays.{vertex_found}
use Rattle.wh_cert.proofs.ways.place_of.Goals as goal

pub returns : goal.returns
returns c =
    let by_order = c.binary_search_by.ensures.position (λ (t : Tuple). tuple_cmp t.plain c.args.tuple.now.plain) (always_returns_same _ _ _ (λ a r f called. search (rules, of_calls))) in
    vertex_found c.args.vertices.now c.args.tuple.now.plain c.requires c.binary_search_by.result c.ok.result c.binary_search_by.ensures.bound by_order c.ok.ensures.value
