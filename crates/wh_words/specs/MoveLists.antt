-- Lists of moves.
use Rattle.std.specs.Prelude.{List, map, reverse}
use Rattle.wh_words.specs.Moves.{Move, inverse_move}

-- The inverse of a list of moves: the inverses of its moves in reverse order.
abbrev pub inverse_list : List Move → List Move
inverse_list ms = map inverse_move (reverse ms)
