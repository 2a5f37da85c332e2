use Rattle.std.proofs.Common.{◌≡◌, ◌++◌, map}
use Rattle.wh_text.specs.Certificates.{loop_of}
use Rattle.wh_text.proofs.parts_reading.loops_of.Given as goal

abbrev pub invariant-loop-line : goal.invariant-loop-line
invariant-loop-line l = l.loops.items ++ map loop_of l.line-iterator.rest.items ≡ map loop_of l.fn.lines.items
