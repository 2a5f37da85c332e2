-- The action of moves on tuples of cyclic words, from the right, after Lyndon and Schupp, I.4.
use Rattle.std.specs.Prelude.{ℕ, List, [], ◌∷◌, map}
use Rattle.std.specs.List.{flat_map}
use Rattle.wh_words.specs.CyclicWords.{cyclic_word}
use Rattle.wh_words.specs.Tuples.{TupleData}
use Rattle.wh_words.specs.Moves.{Move, Kind}
use Rattle.wh_words.specs.Images.{image}

-- A word with the image of each letter in its place.
abbrev pub substitute : Kind → List ℕ → List ℕ
substitute k w = flat_map (image k) w

-- A tuple after a move: in each word images are substituted, and the cyclic word is taken.
abbrev pub act : TupleData → Move → TupleData
act t m = record { rank = t.rank; words = map (λ w. cyclic_word (substitute m.kind w)) t.words }

-- A tuple after a list of moves, from the first on.
abbrev pub act_all : TupleData → List Move → TupleData
act_all t [] = t
act_all t (m ∷ ms) = act_all (act t m) ms
