use Rattle.std.proofs.Common.{[]}
use Rattle.wh_data.specs.AnswerData.{parts_of}
use Rattle.wh_cert.specs.Listings.{IsRoomy}
use Rattle.wh_cert.specs.OffTree.{AreFirstOffTree}
use Rattle.wh_cert.proofs.generators.push_few.Given as goal

abbrev pub invariant-loop-from : goal.invariant-loop-from
invariant-loop-from l = IsRoomy l.image × AreFirstOffTree (parts_of l.parts) l.from [] l.edges.items
