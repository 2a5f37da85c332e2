use Rattle.std.proofs.Common.{◌≡◌, drop}
use Rattle.wh_lines.specs.Numbers.{digits_from}
use Rattle.wh_lines.proofs.number.digits.Given as goal

abbrev pub invariant-loop-byte : goal.invariant-loop-byte
invariant-loop-byte l = digits_from l.n (drop l.byte-index l.bytes) ≡ digits_from 0 l.bytes
