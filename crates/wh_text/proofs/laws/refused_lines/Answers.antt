use Rattle.wh_text.proofs.FirstBadLines.{names_the_first_bad_line}
use Rattle.wh_text.proofs.laws.refused_lines.Goals as goal

pub returns : goal.returns
returns c = names_the_first_bad_line
