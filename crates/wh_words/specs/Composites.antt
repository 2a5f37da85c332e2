-- Lists of moves as automorphisms, by their composites, after Lyndon and Schupp, I.4.
use Rattle.std.specs.Prelude.{ℕ, zero, suc, ◌*◌, List, [], ◌∷◌, ◌++◌}
use Rattle.wh_words.specs.Words.{free_reduction}
use Rattle.wh_words.specs.Moves.{Move}
use Rattle.wh_words.specs.Action.{substitute}

-- A word after a list of moves, from the first on: the images under each move are substituted.
abbrev pub substitute_all : List Move → List ℕ → List ℕ
substitute_all [] w = w
substitute_all (m ∷ ms) w = substitute_all ms (substitute m.kind w)

-- The reduced images of the first g generators under a list of moves, in order.
abbrev pub composite_below : ℕ → List Move → List (List ℕ)
composite_below zero ms = []
composite_below (suc g) ms = composite_below g ms ++ free_reduction (substitute_all ms (2 * g ∷ [])) ∷ []

-- The composite of a list of moves of rank n: the reduced images of all generators, in order. Two lists are the same automorphism where their composites are equal.
abbrev pub composite : ℕ → List Move → List (List ℕ)
composite n ms = composite_below n ms
