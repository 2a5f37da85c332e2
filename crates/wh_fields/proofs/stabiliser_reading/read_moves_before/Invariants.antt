use Rattle.std.proofs.Common.{◌≡◌, length, drop}
use Rattle.wh_fields.specs.StabiliserFields.{moves_before}
use Rattle.wh_fields.proofs.StabiliserReadings.{in_front}
use Rattle.wh_fields.proofs.stabiliser_reading.read_moves_before.Given as goal

abbrev pub invariant-loop-field : goal.invariant-loop-field
invariant-loop-field l = record {
  told : in_front l.moves.items (moves_before l.rank (drop l.field-index l.fields)) ≡ moves_before l.rank l.fields;
  count : length l.moves.items ≡ l.field-index;
}
