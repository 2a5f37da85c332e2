-- Lists of moves, one after the other and back.
use Rattle.std.proofs.Common.{◌≡◌, List, [], ◌∷◌, ◌++◌, map, reverse, refl, ap, ◌∙◌}
use Rattle.std.proofs.lemmas.List.{map-append, reverse-append}
use Rattle.wh_words.specs.Tuples.{TupleData}
use Rattle.wh_words.specs.Moves.{Move, inverse_move}
use Rattle.wh_words.specs.MoveLists.{inverse_list}
use Rattle.wh_words.specs.Action.{act, act_all}

pub act_all-append : (t : TupleData) (ms ns : List Move) → act_all t (ms ++ ns) ≡ act_all (act_all t ms) ns
act_all-append t [] ns = refl
act_all-append t (m ∷ ms) ns = act_all-append (act t m) ms ns

pub inverse_list-cons : (m : Move) (ms : List Move) → inverse_list (m ∷ ms) ≡ inverse_list ms ++ inverse_move m ∷ []
inverse_list-cons m ms = ap (map inverse_move) (reverse-append (m ∷ []) ms) ∙ map-append inverse_move (reverse ms) (m ∷ [])
