use Rattle.std.proofs.Common.{◌≡◌, ◌+◌, drop}
use Rattle.wh_lines.specs.Lines.{bad_at}
use Rattle.wh_lines.proofs.line.bad_at.Given as goal

abbrev pub invariant-loop-byte : goal.invariant-loop-byte
invariant-loop-byte l = (l.column ≡ l.byte-index + 1) × (bad_at l.column (drop l.byte-index l.line) ≡ bad_at 1 l.line)
