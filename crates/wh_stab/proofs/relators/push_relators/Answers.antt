use Rattle.std.proofs.Common.{◌+◌, [], length, map, ap, sym, subst, arith}
use Rattle.std.proofs.lemmas.List.{length-map}
use Rattle.std.specs.List.{All}
use Rattle.wh_words.specs.Tuples.{Tuple}
use Rattle.wh_stab.specs.Numberings.{IsWayFrom, presentation}
use Rattle.wh_stab.specs.Relators.{relator_of, AreRelators}
use Rattle.wh_stab.proofs.LevelRelators.{member_rank, instance_ways, level_item, vertex_pushed}
use Rattle.wh_stab.proofs.RelatorLists.{first_few, all_few, all_relators}
use Rattle.wh_stab.proofs.relators.push_relators.Goals as goal

pub instances-requires : goal.instances-requires
instances-requires c =
    let at = level_item c.args.level.now c.tuples-at-end.result.now c.tuples.result.now c.loop-at.at c.index-tuples-at.result c.tuples-at-end.ensures.tuples c.loop-at-test.true c.tuples.ensures.tuples c.index-tuples-at.is in
    omega (arith, c.requires.rank, member_rank c.args.level.now c.loop-at.at c.index-tuples-at.result.plain c.requires.closed at)

pub push_ways-requires-clause-ways : goal.push_ways-requires-clause-ways
push_ways-requires-clause-ways c =
    let at = level_item c.args.level.now c.tuples-at-end.result.now c.tuples.result.now c.loop-at.at c.index-tuples-at.result c.tuples-at-end.ensures.tuples c.loop-at-test.true c.tuples.ensures.tuples c.index-tuples-at.is in
    subst (All (IsWayFrom c.args.level.now c.loop-at.at)) (sym c.in_ok-ways.ensures) (instance_ways c.args.level.now c.loop-at.at c.index-tuples-at.result.plain c.requires.closed at c.requires.root c.requires.rank)

pub loop-at-preserved : goal.loop-at-preserved
loop-at-preserved c = record {
  first = vertex_pushed c.args.level.now c.args.generators.now c.tuples-at-end.result.now c.tuples.result.now c.loop-at.at c.index-tuples-at.result c.in_ok-ways.ways.items c.loop-at.relators.items c.push_ways.new.relators.items c.tuples-at-end.ensures.tuples
      c.loop-at-test.true c.tuples.ensures.tuples c.index-tuples-at.is c.in_ok-ways.ensures c.in_ok-push_ways.ensures c.loop-at.invariant.first;
  few = omega (arith, c.if-len-gt-MOST_RELATORS.false, c.len.ensures, c.push_ways.new.relators.ok);
}

pub returns-then-len-gt-MOST_RELATORS : goal.returns-then-len-gt-MOST_RELATORS
returns-then-len-gt-MOST_RELATORS c =
    let first = vertex_pushed c.args.level.now c.args.generators.now c.tuples-at-end.result.now c.tuples.result.now c.loop-at.at c.index-tuples-at.result c.in_ok-ways.ways.items c.loop-at.relators.items c.push_ways.new.relators.items c.tuples-at-end.ensures.tuples
    c.loop-at-test.true c.tuples.ensures.tuples c.index-tuples-at.is c.in_ok-ways.ensures c.in_ok-push_ways.ensures c.loop-at.invariant.first in
    omega (arith, c.if-len-gt-MOST_RELATORS.true, c.len.ensures, c.push_ways.new.relators.ok, first_few (presentation [] c.args.level.now c.args.generators.now) (c.loop-at.at + 1) c.push_ways.new.relators.items first)

pub returns : goal.returns
returns c =
    let p = presentation [] c.args.level.now c.args.generators.now in
    let are : AreRelators p (map relator_of c.loop-at.relators.items) =
    all_relators p c.loop-at.at (map relator_of c.loop-at.relators.items) (omega (arith, c.loop-at-test.false, ap length c.tuples-at-end.ensures.tuples, length-map c.tuples-at-end.result.now (λ (t : Tuple). t.plain))) c.loop-at.invariant.first in
    (are, omega (arith, all_few p c.loop-at.relators.items are, c.loop-at.invariant.few))
