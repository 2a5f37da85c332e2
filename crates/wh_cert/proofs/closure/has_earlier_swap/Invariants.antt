use Rattle.std.proofs.Common.{ℕ, ◌<◌, IsTrue}
use Rattle.wh_words.specs.Moves.Kind.{swap}
use Rattle.wh_cert.specs.Listings.{StaysIn, IsRoomy}
use Rattle.wh_cert.specs.Orbits.{HasEarlierImage}
use Rattle.wh_cert.proofs.closure.has_earlier_swap.Given as goal

abbrev pub invariant-loop-k : goal.invariant-loop-k
invariant-loop-k l =
    IsRoomy l.image × ((j : ℕ) → j < l.k → StaysIn l.listed l.tuple.plain (record { rank = l.tuple.plain.rank; kind = swap j }))
    × (IsTrue l.earlier → HasEarlierImage l.listed l.tuple.plain l.place)
