use Rattle.std.proofs.Common.{◌≡◌, take}
use Rattle.std.specs.List.{All}
use Rattle.wh_peak.specs.Equivalence.{IsMoveOfRank}
use Rattle.wh_straighten.proofs.straightening.reversed.Given as goal

abbrev pub invariant-loop-m : goal.invariant-loop-m
invariant-loop-m l = record {
  items : l.moves.items ≡ take l.m-index l.list;
  of_rank : All (IsMoveOfRank l.fn.rank) l.moves.items;
}
