use Rattle.std.proofs.Common.{arith, ◌∙◌, length-set}
use Rattle.std.proofs.lemmas.List.{take_more_set}
use Rattle.wh_words.proofs.CutRows.{word_own, images_sum, images_fit, images_more}
use Rattle.wh_words.proofs.storage.write_cuts.Goals as goal

pub write_cut-at-requires-clause-own : goal.write_cut-at-requires-clause-own
write_cut-at-requires-clause-own c = word_own c.args.ends.now c.args.from.now c.word_in.result.now c.loop-place.place (omega arith) c.word_in.ensures c.requires.own

pub write_cut-at-requires-clause-room : goal.write_cut-at-requires-clause-room
write_cut-at-requires-clause-room c =
    images_fit c.args.mult c.args.set c.args.ends.now c.args.from.now c.loop-place.marks c.loop-place.out c.word_in.result.now c.loop-place.place c.loop-place.at c.loop-place.invariant.written
    (omega arith) c.word_in.ensures (omega (arith, c.requires.room, c.loop-place.invariant.same_length))

pub overflow_cast-marks : goal.overflow_cast-marks
overflow_cast-marks c =
    omega (
      arith,
      c.requires.short,
      c.write_cut-at.ensures.place,
      images_sum c.args.mult c.args.set c.args.ends.now c.args.from.now c.loop-place.marks c.loop-place.out c.word_in.result.now c.loop-place.place c.loop-place.at c.loop-place.invariant.written (omega arith) c.word_in.ensures,
    )

pub loop-place-preserved : goal.loop-place-preserved
loop-place-preserved c = record {
  written = images_more c.args.mult c.args.set c.args.ends.now c.args.from.now c.loop-place.marks c.loop-place.out _ c.write_cut-at.new.out c.word_in.result.now c.loop-place.place c.loop-place.at c.write_cut-at.result
      c.loop-place.invariant.written (omega arith) c.word_in.ensures c.write_cut-at.ensures.written c.write_cut-at.ensures.place
      (omega (
        arith,
        c.write_cut-at.ensures.place,
        c.write_cut-at.ensures.same_length,
        images_fit c.args.mult c.args.set c.args.ends.now c.args.from.now c.loop-place.marks c.loop-place.out c.word_in.result.now c.loop-place.place c.loop-place.at c.loop-place.invariant.written
            (omega arith) c.word_in.ensures (omega (arith, c.requires.room, c.loop-place.invariant.same_length)),
      ))
      (take_more_set c.loop-place.marks c.loop-place.place c.write_cut-at.result (omega arith));
  same_length = omega arith;
  same_places = length-set c.loop-place.marks c.loop-place.place c.write_cut-at.result ∙ c.loop-place.invariant.same_places;
}
