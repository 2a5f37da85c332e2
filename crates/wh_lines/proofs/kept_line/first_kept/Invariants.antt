use Rattle.std.proofs.Common.{◌≡◌, ◌+◌, ◌<◌, ◌^◌, length}
use Rattle.wh_lines.specs.Lines.{lines}
use Rattle.wh_lines.specs.KeptLines.{rest}
use Rattle.wh_lines.specs.Scans.{first_of}
use Rattle.wh_lines.proofs.kept_line.first_kept.Given as goal

abbrev pub invariant-lines : goal.invariant-lines
invariant-lines l = (l.line + length l.bytes < 2 ^ 32) × (first_of (rest l.line (lines l.bytes)) ≡ first_of (rest l.initial.line (lines l.initial.bytes)))

abbrev pub decreases-lines : goal.decreases-lines
decreases-lines l = length l.bytes
