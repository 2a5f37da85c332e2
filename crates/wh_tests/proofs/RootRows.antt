-- The row of a root is a row of its level.
use Rattle.std.proofs.Common.{◌≡◌, [], ◌∷◌, sym, subst}
use Rattle.std.specs.List.{All}
use Rattle.std.proofs.lemmas.List.Elements.{All-nil, All-cons}
use Rattle.wh_words.specs.Tuples.{TupleData}
use Rattle.wh_words.specs.Levels.{InLevel}
use Rattle.wh_words.specs.Levels.Reaches.{here}
use Rattle.wh_expand.specs.Rows.{IsRow, row_tuple}
use Rattle.wh_expand.specs.declared.row.Row.{Row}

pub root_row_within : (root : TupleData) (r : Row) → row_tuple r ≡ root → All (λ q. InLevel root (row_tuple q)) (r ∷ [])
root_row_within root r e = All-cons (λ q. InLevel root (row_tuple q)) r [] (subst (InLevel root) (sym e) ([], here)) (All-nil (λ q. InLevel root (row_tuple q)))

pub root_row_is : (r : Row) → IsRow r → All IsRow (r ∷ [])
root_row_is r is = All-cons IsRow r [] is (All-nil IsRow)
