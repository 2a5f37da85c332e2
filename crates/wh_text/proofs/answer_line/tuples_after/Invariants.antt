use Rattle.std.proofs.Common.{◌≡◌, ◌-◌, map}
use Rattle.std.specs.Prelude.{codes}
use Rattle.wh_words.specs.Tuples.{Tuple}
use Rattle.wh_lines.specs.LineReadings.{times}
use Rattle.wh_text.specs.Certificates.{like_after}
use Rattle.wh_lines.proofs.Times.{times_front}
use Rattle.wh_text.proofs.answer_line.tuples_after.Given as goal

abbrev pub invariant-loop : goal.invariant-loop
invariant-loop l =
    times_front (map (λ (t : Tuple). t.plain) l.tuples.items) (times (like_after (codes "at") l.rank l.count) (l.size - l.counter) l.reader) ≡ times (like_after (codes "at") l.rank l.count) l.size l.initial.reader
