use Rattle.std.proofs.Common.{◌≡◌, ◌↔◌, ℕ, IsTrue, get_or, rules, refl, subst, arith}
use Rattle.wh_data.specs.AnswerData.{parts_of}
use Rattle.wh_data.specs.Numberings.{tree_lines}
use Rattle.wh_cert.specs.Demands.{IsTreeEdge, is_tree_edge, tree_vertex, asked_below, tree_edge_asked}
use Rattle.wh_cert.specs.Checks.{AreMet}
use Rattle.wh_cert.specs.Judged.{Judges}
use Rattle.wh_cert.proofs.Judging.{none_asked, judged_in_turn, met_in_turn}
use Rattle.wh_cert.proofs.tree.judge_each_edge.Goals as goal

pub loop-line-init : goal.loop-line-init
loop-line-init c = (c.requires.roomy, none_asked (tree_edge_asked c.args.place c.args.heads.now c.args.root (parts_of c.args.parts.now)))

pub is_tree_edge-met-requires-clause-roomy : goal.is_tree_edge-met-requires-clause-roomy
is_tree_edge-met-requires-clause-roomy c = c.loop-line.invariant.0

pub returns-in_err-ask : goal.returns-in_err-ask
returns-in_err-ask c =
    let judged : Judges (tree_edge_asked c.args.place c.args.heads.now c.args.root (parts_of c.args.parts.now) c.loop-line.line) c.ask.result =
    c.ask.ensures (is_tree_edge (parts_of c.args.parts.now) (get_or c.args.heads.now c.loop-line.line 0) (tree_vertex c.args.root c.loop-line.line)) refl
    (subst (λ (v : ℕ). IsTrue c.is_tree_edge-met.result ↔ IsTreeEdge (parts_of c.args.parts.now) (get_or c.args.heads.now c.loop-line.line 0) v) c.tree_vertex-vertex.ensures c.is_tree_edge-met.ensures.is) in
    judged_in_turn (tree_edge_asked c.args.place c.args.heads.now c.args.root (parts_of c.args.parts.now)) c.loop-line.line (tree_lines (parts_of c.args.parts.now)) c.ask.result c.from_residual.result c.in_err-ask.field-0.0
    (omega (arith, c.loop-line-test.true, c.requires.heads)) c.loop-line.invariant.1 judged (search rules) (search rules)

pub loop-line-preserved : goal.loop-line-preserved
loop-line-preserved c =
    let judged : Judges (tree_edge_asked c.args.place c.args.heads.now c.args.root (parts_of c.args.parts.now) c.loop-line.line) c.ask.result =
    c.ask.ensures (is_tree_edge (parts_of c.args.parts.now) (get_or c.args.heads.now c.loop-line.line 0) (tree_vertex c.args.root c.loop-line.line)) refl
    (subst (λ (v : ℕ). IsTrue c.is_tree_edge-met.result ↔ IsTreeEdge (parts_of c.args.parts.now) (get_or c.args.heads.now c.loop-line.line 0) v) c.tree_vertex-vertex.ensures c.is_tree_edge-met.ensures.is) in
    (c.is_tree_edge-met.ensures.roomy, met_in_turn (tree_edge_asked c.args.place c.args.heads.now c.args.root (parts_of c.args.parts.now)) c.loop-line.line c.ask.result c.in_ok-ask.field-0 c.loop-line.invariant.1 judged (search rules))

pub returns : goal.returns
returns c =
    let all : c.loop-line.line ≡ tree_lines (parts_of c.args.parts.now) = omega (arith, c.loop-line-test.false, c.requires.heads) in
    subst (λ (k : ℕ). AreMet (asked_below (tree_edge_asked c.args.place c.args.heads.now c.args.root (parts_of c.args.parts.now)) k)) all c.loop-line.invariant.1
