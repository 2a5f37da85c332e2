-- How this crate goes through what is asked.
use Rattle.std.specs.Prelude.{◌≡◌, List, Result, Ok, Err, Option, MatchOption}
use Rattle.wh_words.specs.Tuples.{TupleData, Tuple}
use Rattle.wh_words.specs.Moves.{Move}
use Rattle.wh_words.specs.Action.{act_all}
use Rattle.wh_moves.specs.Acts.{FitsOnTheWay}
use Rattle.wh_cert.specs.declared.stop.Stop.{Stop}
use Rattle.wh_cert.specs.declared.stop.Stop.TheVariants.{Broken, OutOfMemory}
use Rattle.wh_cert.specs.Demands.{Placed}
use Rattle.wh_cert.specs.Checks.{AreMet, IsFirstBroken}

-- Judging stopped at the first demand that isn't met. Want of memory tells nothing.
abbrev pub StopsAt : List Placed → Stop → Type 0
StopsAt ds (Broken place rule) = IsFirstBroken ds place rule
StopsAt ds OutOfMemory = Unit {0}

-- Judging came to the end where all demands are met.
abbrev pub Judges : List Placed → Result (Unit {0}) Stop → Type 0
Judges ds (Ok u) = AreMet ds
Judges ds (Err stop) = StopsAt ds stop

-- The tuple that moves carry a tuple to, where all tuples on the way fit.
abbrev pub CarriesTo : TupleData → List Move → Option Tuple → Type 0
CarriesTo t ms o = MatchOption o (¬ (FitsOnTheWay t ms)) (λ u. FitsOnTheWay t ms × (u.plain ≡ act_all t ms))
