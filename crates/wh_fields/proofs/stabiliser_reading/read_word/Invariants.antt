use Rattle.std.proofs.Common.{◌≡◌, drop}
use Rattle.wh_fields.specs.StabiliserFields.{word_in}
use Rattle.wh_fields.proofs.StabiliserReadings.{in_front}
use Rattle.wh_fields.proofs.stabiliser_reading.read_word.Given as goal

abbrev pub invariant-loop-field : goal.invariant-loop-field
invariant-loop-field l = in_front l.word.items (word_in (drop l.field-index l.fields)) ≡ word_in l.fields
