use Rattle.std.proofs.Common.{◌≡◌, drop}
use Rattle.wh_fields.specs.FlowFields.{table_from}
use Rattle.wh_fields.proofs.flow_reading.flow_of.Given as goal
use Rattle.wh_flow.specs.Tables.{zero_table}

abbrev pub invariant-loop-field : goal.invariant-loop-field
invariant-loop-field l = table_from l.n l.flow l.least (drop l.field-index l.fields) ≡ table_from l.n zero_table 0 l.fields
