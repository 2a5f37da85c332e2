use Rattle.std.proofs.Common.{◌≡◌, ◌+◌, drop}
use Rattle.wh_fields.specs.Words.{letters_at}
use Rattle.wh_lines.proofs.ItemReadings.{with_front}
use Rattle.wh_fields.proofs.tuple_reading.letters.Given as goal

abbrev pub invariant-loop-byte : goal.invariant-loop-byte
invariant-loop-byte l = (l.at ≡ l.column + l.byte-index) × (with_front l.out.items (letters_at l.n l.line l.at (drop l.byte-index l.bytes)) ≡ letters_at l.n l.line l.column l.bytes)
