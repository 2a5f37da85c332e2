use Rattle.std.proofs.Common.{◌≡◌, ◌+◌, drop}
use Rattle.wh_lines.specs.Scans.{before}
use Rattle.wh_lines.proofs.line.before.Given as goal

abbrev pub invariant-loop-byte : goal.invariant-loop-byte
invariant-loop-byte l = (l.count ≡ l.byte-index) × (l.count + before l.stop (drop l.byte-index l.bytes) ≡ before l.stop l.bytes)
