use Rattle.wh_words.proofs.MoveLaws.{trace_unique}
use Rattle.wh_words.proofs.laws.traces.Goals as goal

pub returns : goal.returns
returns c = trace_unique
