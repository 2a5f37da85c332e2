use Rattle.std.proofs.Common.{arith}
use Rattle.wh_words.proofs.CutImages.{cut_image_length}
use Rattle.wh_words.proofs.CutRows.{cut_written}
use Rattle.wh_words.proofs.storage.write_cut.Goals as goal

pub write_pass-end-requires : goal.write_pass-end-requires
write_pass-end-requires c = omega (arith, c.requires.room, cut_image_length c.args.mult c.args.set c.args.word.now c.requires.holds c.requires.omits c.requires.own)

pub returns-clause-written : goal.returns-clause-written
returns-clause-written c =
    cut_written c.args.mult c.args.set c.args.at c.write_pass-end.result c.args.word.now c.args.out.now c.write_pass-end.new.out c.turn_between.new.places c.requires.holds c.requires.omits c.requires.own
    (omega (arith, c.requires.room)) c.write_pass-end.ensures.written c.turn_between.ensures.turned

pub returns-clause-place : goal.returns-clause-place
returns-clause-place c = omega (arith, c.write_pass-end.ensures.place, cut_image_length c.args.mult c.args.set c.args.word.now c.requires.holds c.requires.omits c.requires.own)
