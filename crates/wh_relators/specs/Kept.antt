-- Which cuts keep the length of a tuple.
use Rattle.std.specs.Prelude.{◌==◌, Bool}
use Rattle.wh_words.specs.Letters.{inverse_letter}
use Rattle.wh_words.specs.Tuples.{TupleData, tuple_length}
use Rattle.wh_words.specs.Moves.{turned_set}
use Rattle.wh_words.specs.Action.{act}
use Rattle.wh_relators.specs.Cuts.{Cut, does}

-- Whether a cut keeps the length of a tuple.
unfoldable pub kept : TupleData → Cut → Bool
kept t x = tuple_length (act t (does t.rank x)) == tuple_length t

-- The inverse of a cut, as a cut.
abbrev pub back : Cut → Cut
back x = record { mult = inverse_letter x.mult; set = turned_set x.mult x.set }
