use Rattle.std.proofs.Common.{length, ap, arith}
use Rattle.wh_stab.proofs.OwnStabilisers.{can_list}
use Rattle.wh_tests.proofs.stabilisers.is_listed.Goals as goal

pub generator_list-requires : goal.generator_list-requires
generator_list-requires c = can_list c.args.tuple.now.plain c.args.level.now c.args.stab.now c.args.k c.requires (omega arith, omega (arith, ap length c.items.ensures))
