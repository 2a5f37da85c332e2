use Rattle.wh_lines.proofs.LineLaws.{reads_lines}
use Rattle.wh_lines.proofs.laws.lines.Goals as goal

pub returns : goal.returns
returns c = reads_lines
