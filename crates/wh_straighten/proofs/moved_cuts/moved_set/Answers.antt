use Rattle.std.proofs.Common.{◌*◌, arith}
use Rattle.wh_straighten.proofs.LoweredRows.{made_within}
use Rattle.wh_straighten.proofs.moved_cuts.moved_set.Goals as goal

pub returns-clause-within : goal.returns-clause-within
returns-clause-within c = made_within _ (2 * c.args.rank) c.loop-index.moved _ (omega arith) c.loop-index.invariant
