use Rattle.std.proofs.Common.{take}
use Rattle.wh_data.specs.AnswerData.{parts_of}
use Rattle.wh_cert.specs.Listings.{IsRoomy}
use Rattle.wh_cert.specs.OffTree.{AreFirstOffTree}
use Rattle.wh_cert.proofs.generators.push_off_tree.Given as goal

abbrev pub invariant-loop-m : goal.invariant-loop-m
invariant-loop-m l = IsRoomy l.image × AreFirstOffTree (parts_of l.parts) l.from (take l.m-index l.moves) l.edges.items
