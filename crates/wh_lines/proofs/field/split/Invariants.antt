use Rattle.std.proofs.Common.{◌≡◌, ◌+◌, ◌-◌, ◌≤◌, ◌++◌, length, drop}
use Rattle.wh_lines.specs.Lines.{fields}
use Rattle.wh_lines.proofs.field.split.Given as goal

abbrev pub invariant-loop-at : goal.invariant-loop-at
invariant-loop-at l = (l.at ≤ length l.line + 1) × (l.found.items ++ fields (l.at + 1) (drop l.at l.line) ≡ fields 1 l.line)

abbrev pub decreases-loop-at : goal.decreases-loop-at
decreases-loop-at l = length l.line - l.at
