use Rattle.std.proofs.Common.{ℕ, ◌<◌}
use Rattle.wh_words.specs.Moves.Kind.{invert}
use Rattle.wh_cert.specs.Listings.{StaysIn, IsRoomy}
use Rattle.wh_cert.proofs.images.inversions_stay.Given as goal

abbrev pub invariant-loop-k : goal.invariant-loop-k
invariant-loop-k l = IsRoomy l.image × ((j : ℕ) → j < l.k → StaysIn l.listed l.tuple.plain (record { rank = l.tuple.plain.rank; kind = invert j }))
