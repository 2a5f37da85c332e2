use Rattle.std.proofs.Common.{◌≡◌, ◌-◌}
use Rattle.wh_lines.specs.LineReadings.{times}
use Rattle.wh_text.specs.Certificates.{generator_after}
use Rattle.wh_lines.proofs.Times.{times_front}
use Rattle.wh_text.proofs.parts_reading.generators_in.Given as goal

abbrev pub invariant-loop : goal.invariant-loop
invariant-loop l = times_front l.generators.items (times (generator_after l.rank) (l.size - l.counter) l.reader) ≡ times (generator_after l.rank) l.size l.initial.reader
