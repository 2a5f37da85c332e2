use Rattle.std.proofs.Common.{◌≡◌, ◌-◌}
use Rattle.wh_lines.specs.LineReadings.{times}
use Rattle.wh_text.specs.Certificates.{flow_after}
use Rattle.wh_lines.proofs.Times.{times_front}
use Rattle.wh_text.proofs.answer_line.flows_after.Given as goal

abbrev pub invariant-loop : goal.invariant-loop
invariant-loop l = times_front l.flows.items (times (flow_after l.rank) (l.rank - l.counter) l.reader) ≡ times (flow_after l.rank) l.rank l.initial.reader
