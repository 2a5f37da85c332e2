-- Whether rows make up a whole level, or what they miss.
use Rattle.std.specs.Prelude.{◌≡◌, ◌≢◌, ◌⊎◌, List, [], map, Contains, ◌↔◌}
use Rattle.std.specs.List.Sorted.{IsStrictlySortedBy}
use Rattle.wh_words.specs.Tuples.{TupleData, tuple_cmp}
use Rattle.wh_words.specs.Moves.{Move}
use Rattle.wh_words.specs.Action.{act}
use Rattle.wh_words.specs.Levels.{IsLevelMove}
use Rattle.wh_level.specs.Trees.{IsClosedLevel}
use Rattle.wh_level.specs.declared.sealing.Sealed.{Sealed}
use Rattle.wh_level.specs.declared.sealing.Sealed.TheVariants.{Closed, Missing}

-- The tuple is the image of one of these under a level move.
pub record IsImage (ts : List TupleData) (t : TupleData) : Type 0 where
  pub from : TupleData
  pub via : Move
  pub listed : Contains ts from
  pub moves : IsLevelMove from via
  pub is : t ≡ act from via

-- The tuple is missed by these: it is the root or one of their images, and isn't among them.
pub record IsMissed (root : TupleData) (ts : List TupleData) (t : TupleData) : Type 0 where
  pub wanted : (t ≡ root) ⊎ IsImage ts t
  pub absent : ¬ (Contains ts t)

-- What sealing these tuples answers: the level of the root where they are just that, and else, in order and each once, the tuples that they miss, of which there are some.
abbrev pub Seals : TupleData → List TupleData → Sealed → Type 0
Seals root ts (Closed level) = IsClosedLevel level × (level.root ≡ root) × ((t : TupleData) → Contains level.tuples t ↔ Contains ts t)
Seals root ts (Missing list) =
    IsStrictlySortedBy tuple_cmp (map (λ t. t.plain) list) × (list ≢ []) × ((t : TupleData) → Contains (map (λ u. u.plain) list) t ↔ IsMissed root ts t)
