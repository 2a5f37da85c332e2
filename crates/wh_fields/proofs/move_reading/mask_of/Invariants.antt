use Rattle.std.proofs.Common.{◌≡◌, drop}
use Rattle.wh_fields.specs.MoveFields.{set_from}
use Rattle.wh_fields.proofs.move_reading.mask_of.Given as goal

abbrev pub invariant-loop-byte : goal.invariant-loop-byte
invariant-loop-byte l = set_from l.n l.mask l.least (drop l.byte-index l.bytes) ≡ set_from l.n 0 0 l.bytes
