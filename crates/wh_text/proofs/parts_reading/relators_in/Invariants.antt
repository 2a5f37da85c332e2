use Rattle.std.proofs.Common.{◌≡◌, ◌-◌}
use Rattle.wh_lines.specs.LineReadings.{times}
use Rattle.wh_text.specs.Certificates.{relator_after}
use Rattle.wh_lines.proofs.Times.{times_front}
use Rattle.wh_text.proofs.parts_reading.relators_in.Given as goal

abbrev pub invariant-loop : goal.invariant-loop
invariant-loop l = times_front l.relators.items (times (relator_after l.rank) (l.size - l.counter) l.reader) ≡ times (relator_after l.rank) l.size l.initial.reader
