use Rattle.std.proofs.Common.{◌≡◌, ◌++◌, List, take, subst, arith}
use Rattle.std.specs.Prelude.{OnOk}
use Rattle.wh_words.specs.Moves.{Move}
use Rattle.wh_relators.specs.Measures.{told}
use Rattle.wh_relators.proofs.Retained.{pairs_retained, family_chosen}
use Rattle.wh_relators.proofs.listing.push_family.Goals as goal

pub push_pairs-requires-clause-pairs : goal.push_pairs-requires-clause-pairs
push_pairs-requires-clause-pairs c =
    pairs_retained c.args.capacities.now.rank (told c.args.capacities.now) (omega (arith, c.requires.few)) c.args.family (take c.first_items-first.result c.first_items-first.new.items) (take c.second_items-second.result c.second_items-second.new.items)
    c.first_items-first.ensures.written c.second_items-second.ensures.written

pub returns : goal.returns
returns c =
    subst (λ (vs : List (List Move)). OnOk c.push_pairs.result (c.push_pairs.new.words.items ≡ c.args.words.now.items ++ vs))
    (family_chosen c.args.capacities.now.rank (told c.args.capacities.now) c.args.family (take c.first_items-first.result c.first_items-first.new.items) (take c.second_items-second.result c.second_items-second.new.items) c.first_items-first.ensures.written c.second_items-second.ensures.written)
    c.push_pairs.ensures
