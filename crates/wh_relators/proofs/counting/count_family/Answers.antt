use Rattle.std.proofs.Common.{length, take, ap, ◌∙◌, arith}
use Rattle.wh_relators.specs.Measures.{told}
use Rattle.wh_relators.proofs.Retained.{pairs_retained, family_chosen}
use Rattle.wh_relators.proofs.counting.count_family.Goals as goal

pub count_pairs-requires-clause-pairs : goal.count_pairs-requires-clause-pairs
count_pairs-requires-clause-pairs c =
    pairs_retained c.args.capacities.now.rank (told c.args.capacities.now) (omega (arith, c.requires.few)) c.args.family (take c.first_items-first.result c.first_items-first.new.items) (take c.second_items-second.result c.second_items-second.new.items)
    c.first_items-first.ensures.written c.second_items-second.ensures.written

pub returns : goal.returns
returns c = record {
  count = c.count_pairs.ensures.count
      ∙ ap length (family_chosen c.args.capacities.now.rank (told c.args.capacities.now) c.args.family (take c.first_items-first.result c.first_items-first.new.items) (take c.second_items-second.result c.second_items-second.new.items) c.first_items-first.ensures.written c.second_items-second.ensures.written);
  most = c.count_pairs.ensures.most;
}
