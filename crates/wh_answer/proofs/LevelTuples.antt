-- The tuples of a level are of the rank of its root, with as many words, and not too long.
use Rattle.std.proofs.Common.{ℕ, ◌≤◌, List, [], length, get_or, arith}
use Rattle.std.specs.List.{All}
use Rattle.std.proofs.lemmas.List.Elements.{Contains-get_or}
use Rattle.wh_words.specs.Tuples.{TupleData, tuple_length}
use Rattle.wh_words.specs.Levels.{InLevel, IsLevel}
use Rattle.wh_words.specs.Levels.Reaches.{here}
use Rattle.wh_moves.proofs.Walks.{reached_length}
use Rattle.wh_fields.specs.TupleFields.{IsTupleOf}
use Rattle.wh_answer.proofs.OwnParts.{reached_of}
use Rattle.wh_answer.proofs.TextLengths.{IsShort}

module _ (n count : ℕ) (u : TupleData) (is : IsTupleOf n count u) (small : tuple_length u ≤ 256) where
  pub level_tuples : (ts : List TupleData) → IsLevel u ts → All (λ t. IsTupleOf n count t × IsShort t) ts
  level_tuples ts level k d l =
      let t : TupleData = get_or ts k d in
      let (ms, r) : InLevel u t = (level.exact t).0 (Contains-get_or ts k d l) in
      let of : IsTupleOf n count t = reached_of n count u t ms is r in
      (of, (omega (arith, reached_length r, small), of.tuple.few))

  pub level_some : (ts : List TupleData) → IsLevel u ts → 1 ≤ length ts
  level_some ts level = let c = (level.exact u).1 ([], here) in omega (arith, c.1)
