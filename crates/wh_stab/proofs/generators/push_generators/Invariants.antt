use Rattle.wh_stab.specs.Numberings.{AreFirstGenerators}
use Rattle.wh_stab.proofs.generators.push_generators.Given as goal

abbrev pub invariant-loop-edge : goal.invariant-loop-edge
invariant-loop-edge l = AreFirstGenerators l.level l.edges l.edge-index l.generators.items
