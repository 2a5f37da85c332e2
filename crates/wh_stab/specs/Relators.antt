-- The relators of a level: the instances of the families at its tuples, each with the numbers of its way, after McCool 1975.
use Rattle.std.specs.Prelude.{◌≡◌, ℕ, suc, List, [], ◌∷◌, ◌++◌, length, map, drop, slice_get, Some}
use Rattle.std.specs.List.{All}
use Rattle.wh_words.specs.Tuples.{TupleData}
use Rattle.wh_words.specs.Moves.{Move}
use Rattle.wh_relators.specs.Instances.{instances_at}
use Rattle.wh_stab.specs.Presentations.{PresentationData, AreNumbers}
use Rattle.wh_stab.specs.declared.stab.Relator.{Relator}

-- A way from a vertex: its place, and moves.
abbrev pub Way : Type 0
Way = ℕ × List Move

-- The instances at tuples that stand from a place on, each with the place of its tuple.
abbrev pub ways_from : ℕ → List TupleData → List Way
ways_from v [] = []
ways_from v (t ∷ ts) = map (λ ms. (v, ms)) (instances_at t) ++ ways_from (suc v) ts

-- How many instances there are at the tuples of a level.
abbrev pub relator_count : List TupleData → ℕ
relator_count ts = length (ways_from 0 ts)

-- What a relator tells: the place of a vertex, the moves of a way round from it, and the numbers of the generators on the way.
pub record RelatorData : Type 0 where
  pub at : ℕ
  pub moves : List Move
  pub word : List ℕ

abbrev pub relator_of : Relator → RelatorData
relator_of r = record { at = r.at; moves = r.moves; word = r.word }

-- The word of a relator has the numbers of its way.
pub record IsSpelled (p : PresentationData) (r : RelatorData) : Type 0 where
  pub tuple : TupleData
  pub starts : slice_get p.vertices r.at ≡ Some tuple
  pub numbers : AreNumbers p tuple r.moves r.word

-- The way of a relator.
abbrev pub way_of : RelatorData → Way
way_of r = (r.at, r.moves)

-- The relators are the instances at the vertices, in order, each with the numbers of its way.
pub record AreRelators (p : PresentationData) (rs : List RelatorData) : Type 0 where
  pub ways : map way_of rs ≡ ways_from 0 p.vertices
  pub spelled : All (IsSpelled p) rs

-- ---- one vertex after another
-- The relators are the instances at the first so many vertices.
pub record AreFirstRelators (p : PresentationData) (n : ℕ) (rs : List RelatorData) : Type 0 where
  pub ways : map way_of rs ++ ways_from n (drop n p.vertices) ≡ ways_from 0 p.vertices
  pub spelled : All (IsSpelled p) rs

-- Relators with these ways from a vertex were put behind others.
pub record AddsRelators (p : PresentationData) (at : ℕ) (lists : List (List Move)) (old new : List RelatorData) : Type 0 where
  pub ways : map way_of new ≡ map way_of old ++ map (λ ms. (at, ms)) lists
  pub spelled : All (IsSpelled p) old → All (IsSpelled p) new
