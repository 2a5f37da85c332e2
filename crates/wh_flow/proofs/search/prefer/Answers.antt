use Rattle.wh_flow.proofs.FreshLetters.{in_part}
use Rattle.wh_flow.proofs.search.prefer.Goals as goal

pub returns-else-part-eq0-clause-part : goal.returns-else-part-eq0-clause-part
returns-else-part-eq0-clause-part c = in_part c.args.set c.args.other
