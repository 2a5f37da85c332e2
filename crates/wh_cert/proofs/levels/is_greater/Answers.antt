use Rattle.std.proofs.Common.{rules}
use Rattle.wh_cert.proofs.Rising.{rises_tested}
use Rattle.wh_cert.proofs.levels.is_greater.Goals as goal

pub returns : goal.returns
returns c =
    rises_tested c.args.tuples.now c.args.k c.index-tuples-k.result c.index-tuples-k-2.result c.compared.result c.is_lt.result c.requires c.if-k-eq0.false (search rules) (search rules) c.compared.ensures (search rules)
