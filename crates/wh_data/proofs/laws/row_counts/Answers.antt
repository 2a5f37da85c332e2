use Rattle.wh_data.proofs.RowCounts.{counts_rows}
use Rattle.wh_data.proofs.laws.row_counts.Goals as goal

pub returns : goal.returns
returns c = counts_rows
