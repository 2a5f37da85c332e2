use Rattle.wh_straighten.proofs.LoweredRows.{complement_letters}
use Rattle.wh_straighten.proofs.any_cuts.side_set.Goals as goal

pub returns-then-contains-clause-turned : goal.returns-then-contains-clause-turned
returns-then-contains-clause-turned c e = complement_letters c.args.rank c.args.set c.complement.result c.complement.ensures.within
