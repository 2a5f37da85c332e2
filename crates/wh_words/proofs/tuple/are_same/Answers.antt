use Rattle.wh_words.proofs.SameTuples.{slices_same, slices_equal, slices_not_unlike}
use Rattle.wh_words.proofs.tuple.are_same.Goals as goal

pub returns-clause-same : goal.returns-clause-same
returns-clause-same c = λ e.
    (c.if-rank-other_rank.false, slices_not_unlike c.args.ends.now c.args.other_ends.now c.ne.result c.ne.ensures c.if-ne.false, slices_same c.args.letters.now c.args.other_letters.now c.eq.result c.eq.ensures e)

pub returns-clause-apart : goal.returns-clause-apart
returns-clause-apart c = λ n e x. slices_equal c.args.letters.now c.args.other_letters.now c.eq.result c.eq.ensures x
