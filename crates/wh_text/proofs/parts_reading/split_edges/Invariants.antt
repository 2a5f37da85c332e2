use Rattle.std.proofs.Common.{◌≡◌, ◌++◌, map, Some}
use Rattle.wh_fields.specs.StabiliserFields.{TreeEdgeData}
use Rattle.wh_text.proofs.parts_reading.split_edges.Given as goal

abbrev pub invariant-loop-edge : goal.invariant-loop-edge
invariant-loop-edge l =
    (l.heads.items ++ map (λ (e : TreeEdgeData). e.head) l.edge-iterator.rest.items ≡ map (λ (e : TreeEdgeData). e.head) l.fn.edges.items)
    × (l.parents.items ++ map (λ (e : TreeEdgeData). Some (e.parent, e.move)) l.edge-iterator.rest.items ≡ map (λ (e : TreeEdgeData). Some (e.parent, e.move)) l.fn.edges.items)
