-- The relations of a rank, and those that lead round from a tuple by tuples of its length.
use Rattle.std.specs.Prelude.{ℕ, ◌^◌, ◌==◌, ◌&&◌, Bool, true, false, not, List, [], ◌∷◌, ◌++◌}
use Rattle.std.specs.List.{filter}
use Rattle.wh_words.specs.Tuples.{TupleData, tuple_length}
use Rattle.wh_words.specs.Moves.{Kind, Move}
use Rattle.wh_words.specs.Moves.Kind.{swap, invert, cut}
use Rattle.wh_words.specs.Action.{act}
use Rattle.wh_relators.specs.Families.{cancelling, uniting, commuting, conjugating, exchanging, permuting, of_permutations, complementing, of_inner}

-- Whether the kind is an identity cut, whose set has the multiplier alone.
abbrev pub is_identity : Kind → Bool
is_identity (swap k) = false
is_identity (invert k) = false
is_identity (cut a set) = set == 2 ^ a

-- Whether no move of the list is an identity cut.
unfoldable pub is_proper : List Move → Bool
is_proper [] = true
is_proper (m ∷ ms) = not (is_identity m.kind) && is_proper ms

-- The nine families, in order.
abbrev pub families : ℕ → List (List Move)
families n =
    cancelling n ++ (uniting n ++ (commuting n ++ (conjugating n ++ (exchanging n ++ (permuting n ++ (of_permutations n ++ (complementing n ++ of_inner n)))))))

-- The relations of rank n: the lists of the nine families in which no identity cut stands.
unfoldable pub relations : ℕ → List (List Move)
relations n = filter is_proper (families n)

-- Whether after each move of a list, one after the other, the tuple has this length.
unfoldable pub stays : ℕ → TupleData → List Move → Bool
stays l t [] = true
stays l t (m ∷ ms) = (tuple_length (act t m) == l) && stays l (act t m) ms

-- Whether a list keeps the length of a tuple at each of its moves.
abbrev pub keeps : TupleData → List Move → Bool
keeps t ms = stays (tuple_length t) t ms

-- The instances of the nine families at a tuple: those lists that keep its length.
unfoldable pub instances_at : TupleData → List (List Move)
instances_at t = filter (keeps t) (relations t.rank)
