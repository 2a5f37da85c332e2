use Rattle.std.proofs.Common.{rules, of_calls}
use Rattle.std.proofs.lemmas.Fn.{always_returns_same}
use Rattle.wh_stab.specs.Presentations.{Start, start_cmp}
use Rattle.wh_stab.proofs.Places.{same_start, start_cmp_total, sorted_search}
use Rattle.wh_stab.proofs.generators.generator_place.Goals as goal

pub returns : goal.returns
returns c =
    let by_order = c.binary_search_by.ensures.position (λ (s : Start). start_cmp s (c.args.from, c.args.via.now)) (always_returns_same _ _ _ (λ a r f called. search (rules, of_calls))) in
    sorted_search start_cmp_total same_start c.args.generators.now (c.args.from, c.args.via.now) c.requires c.binary_search_by.result c.ok.result c.binary_search_by.ensures.bound by_order c.ok.ensures.value
