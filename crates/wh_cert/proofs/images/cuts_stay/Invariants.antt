use Rattle.std.proofs.Common.{ℕ, ◌*◌, ◌<◌}
use Rattle.wh_cert.specs.Listings.{CutsStayWith, IsRoomy}
use Rattle.wh_cert.proofs.images.cuts_stay.Given as goal

abbrev pub invariant-loop-g : goal.invariant-loop-g
invariant-loop-g l = IsRoomy l.image × ((j : ℕ) → j < l.g → CutsStayWith l.listed l.tuple.plain (2 * j))
