use Rattle.std.proofs.Common.{inl, refl, []}
use Rattle.whitehead.specs.Outcome.Told.{words_refused}
use Rattle.whitehead.proofs.Pieces.{consumed_none}
use Rattle.whitehead.proofs.Telling.{ran_from}
use Rattle.whitehead.proofs.program.run.Goals as goal

pub returns-in-Err-Refused-clause-ran : goal.returns-in-Err-Refused-clause-ran
returns-in-Err-Refused-clause-ran g c =
    let nothing_asked = rw c.in-Err-Refused.field-0-is at c.in-Err-Refused.ensures in
    ran_from _ _ _ _ _ _ [] (consumed_none (g.S.Source.left c.args.source.now)) (inl (nothing_asked, refl)) _ _ _ _ _
    (words_refused nothing_asked) (rw c.refused_words.ensures at c.finish.ensures)
