use Rattle.std.proofs.Common.{◌+◌, ◌∙◌, ap, List, Vec, Global, sym, subst, arith}
use Rattle.wh_stab.specs.Presentations.{Start}
use Rattle.wh_stab.specs.Numberings.{AreFirstGenerators}
use Rattle.wh_stab.proofs.FirstGenerators.{item_at, end_within, no_generators, edge_of_tree, edge_off_tree, all_generators}
use Rattle.wh_stab.proofs.generators.push_generators.Goals as goal
use Rattle.wh_stab.proofs.generators.push_generators.Goals.{then-not-is_of_tree+in_ok-push, else-not-is_of_tree}

pub loop-edge-init : goal.loop-edge-init
loop-edge-init c = no_generators c.args.level.now c.args.edges.now c.args.generators.now.items c.requires.none

pub is_of_tree-requires : goal.is_of_tree-requires
is_of_tree-requires c = end_within c.args.level.now c.args.edges.now c.loop-edge.edge-index c.edge-item.result c.requires.edges (item_at c.args.edges.now c.loop-edge.edge-index c.edge-item.result (omega arith) c.edge-item.is)

pub loop-edge-preserved : goal.loop-edge-preserved
loop-edge-preserved c = elim c.if-not-is_of_tree.branch [
  | then-not-is_of_tree+in_ok-push w ↦
      subst (λ (gs : List Start). AreFirstGenerators c.args.level.now c.args.edges.now (c.loop-edge.edge-index + 1) gs) (sym (ap (λ (v : Vec Start Global). v.items) w.generators-is ∙ w.in_ok-push.ensures.items))
      (edge_off_tree c.args.level.now c.args.edges.now c.loop-edge.edge-index c.edge-item.result c.loop-edge.generators.items c.requires.edges.sorted (item_at c.args.edges.now c.loop-edge.edge-index c.edge-item.result (omega arith) c.edge-item.is) w.if-not-is_of_tree.ensures c.loop-edge.invariant)
  | else-not-is_of_tree w ↦
      subst (λ (gs : List Start). AreFirstGenerators c.args.level.now c.args.edges.now (c.loop-edge.edge-index + 1) gs) (sym (ap (λ (v : Vec Start Global). v.items) w.generators-is))
      (edge_of_tree c.args.level.now c.args.edges.now c.loop-edge.edge-index c.edge-item.result c.loop-edge.generators.items (item_at c.args.edges.now c.loop-edge.edge-index c.edge-item.result (omega arith) c.edge-item.is) w.if-not-is_of_tree.ensures c.loop-edge.invariant)
]

pub returns-clause-generators : goal.returns-clause-generators
returns-clause-generators c = all_generators c.args.level.now c.args.edges.now c.loop-edge.edge-index c.loop-edge.generators.items c.requires.closed c.requires.edges (omega arith) c.loop-edge.invariant

pub returns-clause-few : goal.returns-clause-few
returns-clause-few c = omega (arith, c.loop-edge.invariant.few)
