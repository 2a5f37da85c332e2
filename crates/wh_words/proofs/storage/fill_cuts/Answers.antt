use Rattle.std.proofs.Common.{length, ap, ◌∙◌}
use Rattle.wh_words.proofs.CutRows.{refill_same, all_written}
use Rattle.wh_words.proofs.storage.fill_cuts.Goals as goal

pub returns-clause-words : goal.returns-clause-words
returns-clause-words c =
    all_written c.args.mult c.args.set c.write_cuts-letters-inside.result c.args.ends.now c.args.from.now _ _ c.write_cuts-letters-inside.new.marks c.write_cuts-letters-inside.new.out
    c.write_cuts-letters-inside.ensures.written
    (refill_same (length c.marks.inside.places.items) c.marks.inside.places.items c.write_cuts-letters-inside.new.marks (c.write_cuts-letters-inside.ensures.same_places ∙ ap length c.as_mut_slice-2.ensures.value))
    (refill_same (length c.letters.inside.places.items) c.letters.inside.places.items c.write_cuts-letters-inside.new.out (c.write_cuts-letters-inside.ensures.same_length ∙ ap length c.as_mut_slice.ensures.value))
