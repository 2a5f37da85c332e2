use Rattle.std.proofs.Common.{◌≡◌, drop}
use Rattle.wh_lines.specs.Readings.{items_at}
use Rattle.wh_fields.specs.MoveFields.{move_at}
use Rattle.wh_lines.proofs.ItemReadings.{with_front}
use Rattle.wh_fields.proofs.move_reading.read_moves.Given as goal

abbrev pub invariant-loop-field : goal.invariant-loop-field
invariant-loop-field l = with_front l.out.items (items_at (move_at l.rank l.line) (drop l.field-index l.fields)) ≡ items_at (move_at l.rank l.line) l.fields
