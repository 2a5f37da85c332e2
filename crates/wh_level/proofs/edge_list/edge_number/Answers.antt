use Rattle.std.proofs.Common.{rules, of_calls}
use Rattle.std.proofs.lemmas.Fn.{always_returns_same}
use Rattle.wh_level.proofs.EdgeNumbers.{edge_order, numbered}
use Rattle.wh_level.proofs.edge_list.edge_number.Goals as goal

pub returns : goal.returns
returns c =
    let by_order = c.binary_search_by.ensures.position (edge_order c.args.from c.args.via.now) (always_returns_same _ _ _ (λ a r f called. search (rules, of_calls))) in
    numbered c.args.edges.now c.args.from c.args.via.now c.requires c.binary_search_by.result c.ok.result c.binary_search_by.ensures.bound by_order c.ok.ensures.value
