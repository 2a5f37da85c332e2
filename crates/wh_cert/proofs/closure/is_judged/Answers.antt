use Rattle.wh_cert.proofs.JudgedOrbits.{judged_by_images}
use Rattle.wh_cert.proofs.closure.is_judged.Goals as goal

pub returns-in-Some-false-clause-judged : goal.returns-in-Some-false-clause-judged
returns-in-Some-false-clause-judged c =
    judged_by_images c.args.listed.now c.args.place c.tuple-tuple.result.now.plain c.images_are_in.result c.tuple-tuple.ensures c.in-Some-false.ensures.earlier.0 c.images_are_in.ensures.are
