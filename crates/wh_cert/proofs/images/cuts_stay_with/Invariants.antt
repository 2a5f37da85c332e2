use Rattle.std.proofs.Common.{ℕ, ◌<◌}
use Rattle.wh_words.specs.Moves.{cut_move}
use Rattle.wh_cert.specs.Listings.{StaysIn, IsRoomy}
use Rattle.wh_cert.proofs.images.cuts_stay_with.Given as goal

abbrev pub invariant-loop-set : goal.invariant-loop-set
invariant-loop-set l = IsRoomy l.image × ((j : ℕ) → j < l.set → StaysIn l.listed l.tuple.plain (cut_move l.tuple.plain.rank l.mult j))
