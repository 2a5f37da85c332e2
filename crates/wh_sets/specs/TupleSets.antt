-- How sets of tuples grow. A set is seen as the list of its tuples in the order in which they came.
use Rattle.std.specs.Prelude.{◌≡◌, ◌⊎◌, List, [], ◌∷◌, ◌++◌, Contains, ◌↔◌}
use Rattle.wh_words.specs.Tuples.{TupleData}

-- A tuple is added: where it wasn't there it comes last.
abbrev pub IsAdded : List TupleData → TupleData → List TupleData → Type 0
IsAdded old t new = (Contains old t × (new ≡ old)) ⊎ ((¬ (Contains old t)) × (new ≡ old ++ t ∷ []))

-- The tuples of a list are added one after the other.
pub data AreAdded : List TupleData → List TupleData → List TupleData → Type 0 where
  none : {old : List TupleData} → AreAdded old [] old
  next : {old mid new : List TupleData} {t : TupleData} {ts : List TupleData} → IsAdded old t mid → AreAdded mid ts new → AreAdded old (t ∷ ts) new

-- Two lists have the same tuples, whatever their order is and however often each stands there.
abbrev pub HaveSameTuples : List TupleData → List TupleData → Type 0
HaveSameTuples us ts = (t : TupleData) → Contains us t ↔ Contains ts t
