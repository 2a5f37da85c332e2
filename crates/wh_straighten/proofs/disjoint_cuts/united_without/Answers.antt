use Rattle.std.proofs.Common.{arith, rules}
use Rattle.wh_straighten.proofs.LoweredRows.{united_letters, united_within}
use Rattle.wh_straighten.proofs.disjoint_cuts.united_without.Goals as goal

pub returns-clause-letters : goal.returns-clause-letters
returns-clause-letters c = united_letters c.args.rank c.args.first c.args.second c.args.letter c.of_bits.result c.without.result c.get.ensures.greatest (search rules) c.without.ensures.same c.without.ensures.others

pub returns-clause-within : goal.returns-clause-within
returns-clause-within c = united_within c.args.rank c.args.first c.args.second c.args.letter c.of_bits.result c.without.result c.get.ensures.greatest c.requires.first c.requires.second (omega arith) (search rules) c.without.ensures.same c.without.ensures.others
