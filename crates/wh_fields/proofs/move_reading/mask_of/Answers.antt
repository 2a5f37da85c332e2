use Rattle.std.proofs.Common.{◌≡◌, ◌∙◌, ◌*◌, ◌%◌, ◌^◌, rules, arith, get_or}
use Rattle.std.proofs.lemmas.Nat.{shl_whole}
use Rattle.wh_fields.proofs.LetterMasks.{set_more, set_none}
use Rattle.wh_fields.proofs.move_reading.mask_of.Goals as goal

pub returns-in-None : goal.returns-in-None
returns-in-None c = set_none c.args.n c.loop-byte.mask c.loop-byte.least c.args.bytes.now c.loop-byte.byte-index (get_or c.args.bytes.now c.loop-byte.byte-index 0) (omega arith) (search rules) (search rules) c.loop-byte.invariant

pub loop-byte-preserved : goal.loop-byte-preserved
loop-byte-preserved c =
    let bit : (1 * 2 ^ c.index.result) % 18446744073709551616 ≡ 2 ^ c.index.result = shl_whole 1 1 c.index.result 64 (omega arith) (omega arith) ∙ omega arith in
    rw (bit, c.index.ensures.same, c.index-least.ensures.same)
    (set_more c.args.n c.loop-byte.mask c.loop-byte.least c.args.bytes.now c.loop-byte.byte-index (get_or c.args.bytes.now c.loop-byte.byte-index 0) c.in-Some.x (omega arith) (search rules) (search rules) c.loop-byte.invariant)
