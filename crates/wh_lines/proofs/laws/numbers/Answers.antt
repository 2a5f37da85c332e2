use Rattle.wh_lines.proofs.NumberLaws.{reads_numbers}
use Rattle.wh_lines.proofs.laws.numbers.Goals as goal

pub returns : goal.returns
returns c = reads_numbers
