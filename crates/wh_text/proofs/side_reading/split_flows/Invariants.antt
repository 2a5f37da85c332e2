use Rattle.std.proofs.Common.{◌≡◌, ◌++◌, map}
use Rattle.wh_fields.specs.FlowFields.{FlowData}
use Rattle.wh_text.proofs.side_reading.split_flows.Given as goal

abbrev pub invariant-loop-line : goal.invariant-loop-line
invariant-loop-line l =
    (l.heads.items ++ map (λ (f : FlowData). f.head) l.line-iterator.rest.items ≡ map (λ (f : FlowData). f.head) l.fn.lines.items)
    × (l.flows.items ++ map (λ (f : FlowData). f.table) l.line-iterator.rest.items ≡ map (λ (f : FlowData). f.table) l.fn.lines.items)
