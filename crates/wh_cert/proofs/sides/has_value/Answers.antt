use Rattle.std.proofs.Common.{rules}
use Rattle.wh_cert.proofs.Flowing.{value_tested}
use Rattle.wh_cert.proofs.sides.has_value.Goals as goal

pub returns : goal.returns
returns c = value_tested c.args.flow.now c.args.letter c.args.value c.value.result c.value.ensures (search rules) c.ranges.value.fits
