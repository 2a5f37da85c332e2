use Rattle.std.proofs.Common.{◌+◌, List, length, Contains, rules, sym, ap, subst, arith}
use Rattle.std.proofs.lemmas.List.{length-map}
use Rattle.wh_words.specs.Tuples.{Tuple}
use Rattle.wh_expand.specs.Rows.{AreLevelMoves}
use Rattle.wh_data.specs.AnswerData.{plains, parts_of}
use Rattle.wh_cert.proofs.Rising.{plain_listed}
use Rattle.wh_cert.proofs.FirstOffTree.{first_none, first_all, more_off_tree, moves_there}
use Rattle.wh_cert.proofs.generators.push_few.Goals as goal

pub loop-from-init : goal.loop-from-init
loop-from-init c = (c.requires.roomy, first_none (parts_of c.args.parts.now) c.args.edges.now.items c.requires.none)

pub own_level_moves-requires : goal.own_level_moves-requires
own_level_moves-requires c =
    let listed = plain_listed c.items-vertices.result.now c.loop-from.from c.index-vertices-from.result (omega (arith, c.loop-from-test.true)) (search rules) in
    omega (arith, c.requires.low, c.requires.vertices.rank c.index-vertices-from.result.plain (subst (λ (ts : List Tuple). Contains (plains ts) c.index-vertices-from.result.plain) c.items-vertices.ensures listed))

pub push_off_tree-requires-clause-vertices : goal.push_off_tree-requires-clause-vertices
push_off_tree-requires-clause-vertices c =
    let listed = plain_listed c.items-vertices.result.now c.loop-from.from c.index-vertices-from.result (omega (arith, c.loop-from-test.true)) (search rules) in
    moves_there c.args.rank (plains c.args.parts.now.vertices) c.index-vertices-from.result.plain c.deref.result.now c.requires.vertices
    (subst (λ (ts : List Tuple). Contains (plains ts) c.index-vertices-from.result.plain) c.items-vertices.ensures listed)
    (subst (AreLevelMoves c.index-vertices-from.result.plain) (sym c.deref.ensures.value) c.in_ok-moves.ensures)

pub returns-then-len-most : goal.returns-then-len-most
returns-then-len-most c = more_off_tree (parts_of c.args.parts.now) (c.loop-from.from + 1) c.args.most c.push_off_tree.new.edges.items c.in_ok-push_off_tree.ensures.edges (search rules)

pub returns : goal.returns
returns c =
    first_all (parts_of c.args.parts.now) c.loop-from.from c.loop-from.edges.items
    (omega (arith, c.loop-from-test.false, ap length c.items-vertices.ensures, length-map c.args.parts.now.vertices (λ (t : Tuple). t.plain))) c.loop-from.invariant.1
