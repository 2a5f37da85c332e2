use Rattle.std.proofs.Common.{take, arith}
use Rattle.std.proofs.lemmas.Grind.{common_steps}
use Rattle.whitehead.proofs.Pieces.{part_read}
use Rattle.whitehead.proofs.streams.read_all.Goals as goal

pub returns-in_err-map_err-clause-part : goal.returns-in_err-map_err-clause-part
returns-in_err-map_err-clause-part g c =
    part_read c.args.limit (g.S.Source.left c.args.source.now) (g.S.Source.left c.blocks-2.source) (g.S.Source.left c.read.new.self) c.blocks-2.bytes.items (take c.in-Ok.count c.read.new.into) _ (grind (arith, common_steps)) c.blocks-2.invariant.bytes c.in-Ok.ensures.bytes
