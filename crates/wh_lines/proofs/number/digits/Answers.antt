use Rattle.std.proofs.Common.{rules, arith, get_or}
use Rattle.wh_lines.proofs.Digits.{digits_more, digits_none}
use Rattle.wh_lines.proofs.number.digits.Goals as goal

pub returns-in-None : goal.returns-in-None
returns-in-None c = digits_none c.args.bytes.now c.loop-byte.byte-index (get_or c.args.bytes.now c.loop-byte.byte-index 0) c.loop-byte.n (omega arith) (search rules) (search rules) c.loop-byte.invariant

pub loop-byte-preserved : goal.loop-byte-preserved
loop-byte-preserved c = digits_more c.args.bytes.now c.loop-byte.byte-index (get_or c.args.bytes.now c.loop-byte.byte-index 0) c.loop-byte.n c.in-Some.next (omega arith) (search rules) (search rules) c.loop-byte.invariant
