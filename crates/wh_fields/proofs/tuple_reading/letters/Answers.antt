use Rattle.std.proofs.Common.{rules, arith, get_or}
use Rattle.wh_fields.proofs.WordReadings.{letters_more, letters_none}
use Rattle.wh_fields.proofs.tuple_reading.letters.Goals as goal

pub returns-in-None : goal.returns-in-None
returns-in-None c = λ _. letters_none c.args.n c.args.line c.args.column c.args.bytes.now c.loop-byte.out.items c.loop-byte.byte-index (get_or c.args.bytes.now c.loop-byte.byte-index 0) c.loop-byte.at (omega arith) (search rules) (search rules) c.loop-byte.invariant.1

pub loop-byte-preserved : goal.loop-byte-preserved
loop-byte-preserved c = (
  omega (arith, c.loop-byte.invariant.0),
  rw c.in_ok-push-in-Some.ensures.items (letters_more c.args.n c.args.line c.args.column c.args.bytes.now c.loop-byte.out.items c.loop-byte.byte-index (get_or c.args.bytes.now c.loop-byte.byte-index 0) c.in-Some.x c.loop-byte.at (omega arith) (search rules) (search rules) c.loop-byte.invariant.1),
)
