use Rattle.std.proofs.Common.{[], List, sym, subst}
use Rattle.wh_words.specs.Moves.{Move}
use Rattle.wh_stab.specs.Presentations.{AreNumbers}
use Rattle.wh_stab.specs.Numberings.{IsWayFrom, presentation}
use Rattle.wh_stab.proofs.RelatorLists.{IsAdding, adding_more, next_way}
use Rattle.wh_stab.proofs.relators.push_ways.Goals as goal

pub numbers_on-requires-clause-way : goal.numbers_on-requires-clause-way
numbers_on-requires-clause-way c =
    subst (IsWayFrom c.args.level.now c.args.at) (sym c.items.ensures)
    (next_way (IsWayFrom c.args.level.now c.args.at) c.loop-moves.ways.items c.pop.new.self.items c.in-Some.moves c.in-Some.ensures.items c.loop-moves.invariant.ways).0

pub loop-moves-preserved : goal.loop-moves-preserved
loop-moves-preserved c =
    let p = presentation [] c.args.level.now c.args.generators.now in
    let next = next_way (IsWayFrom c.args.level.now c.args.at) c.loop-moves.ways.items c.pop.new.self.items c.in-Some.moves c.in-Some.ensures.items c.loop-moves.invariant.ways in
    let way : IsWayFrom c.args.level.now c.args.at c.in-Some.moves = next.0 in
    let numbers : AreNumbers p way.tuple c.in-Some.moves c.of.result =
    subst (AreNumbers p way.tuple c.in-Some.moves) (sym c.of.ensures) (subst (λ (ms : List Move). AreNumbers p way.tuple ms c.in_ok-word.word.items) c.items.ensures (c.in_ok-word.ensures way.tuple way.starts)) in
    record {
      adding = subst (IsAdding p c.args.at c.args.ways.now.items c.pop.new.self.items c.args.relators.now.items) (sym c.in_ok-push.ensures.items)
          (adding_more p c.args.at c.args.ways.now.items c.args.relators.now.items c.loop-moves.ways.items c.pop.new.self.items c.in-Some.moves c.loop-moves.relators.items way.tuple c.of.result c.in-Some.ensures.items way.starts numbers
          c.loop-moves.invariant.adding);
      ways = next.1;
    }
