-- Ways of moves through the vertices of a certificate, by the places of these.
use Rattle.std.specs.Prelude.{◌≡◌, ◌↔◌, ℕ, suc, ◌+◌, ◌<◌, ◌≤◌, Bool, List, ◌∷◌, length, take, drop, get_or, Option, Some, slice_get, Contains, IsTrue, MatchOption}
use Rattle.std.specs.List.Sorted.{IsStrictlySortedBy}
use Rattle.wh_words.specs.Tuples.{TupleData, tuple_length, tuple_cmp}
use Rattle.wh_words.specs.Moves.{Move, IsMove, IsIdentityCut}
use Rattle.wh_words.specs.Action.{act, act_all}
use Rattle.wh_composites.specs.Composing.{ComposesUpTo}
use Rattle.wh_peak.specs.Relations.{IsTrivial}
use Rattle.wh_stab.specs.Presentations.{Start, AreGenerators, AreNumbers}
use Rattle.wh_data.specs.AnswerData.{PartsData}
use Rattle.wh_cert.specs.Demands.{tuple_at, presented_by}

-- Tuples of rank n in their order, each once, all of one length.
pub record AreVertices (n : ℕ) (ts : List TupleData) : Type 0 where
  pub sorted : IsStrictlySortedBy tuple_cmp ts
  pub rank : (t : TupleData) → Contains ts t → t.rank ≡ n
  pub length : (t u : TupleData) → Contains ts t → Contains ts u → tuple_length t ≡ tuple_length u

-- The vertices of parts are in their order, each has an entry in the tree, and the generators are the edges off it.
pub record AreOffTree (p : PartsData) : Type 0 where
  pub sorted : IsStrictlySortedBy tuple_cmp p.vertices
  pub count : length p.tree ≡ length p.vertices
  pub generators : AreGenerators (presented_by p p.generators)

-- A move, which is no identity cut, leads from a tuple to one of the list.
abbrev pub IsStepIn : List TupleData → TupleData → Move → Type 0
IsStepIn ts t m = IsMove m × ¬ (IsIdentityCut m.kind) × Contains ts (act t m)

-- It leads to the tuple at a place.
abbrev pub LeadsTo : List TupleData → TupleData → Move → ℕ → Type 0
LeadsTo ts t m v = IsMove m × ¬ (IsIdentityCut m.kind) × (slice_get ts v ≡ Some (act t m))

-- The places of the tuples on the way of moves from the tuple at a place, from this one on.
pub record AreStops (ts : List TupleData) (at : ℕ) (ms : List Move) (stops : List ℕ) : Type 0 where
  pub count : length stops ≡ length ms + 1
  pub each : (k d : ℕ) → k < length stops → slice_get ts (get_or stops k d) ≡ Some (act_all (tuple_at ts at) (take k ms))

-- ---- numbers
-- The number, counted from 1, of the generator with a start.
abbrev pub IsNumberOf : List Start → Start → ℕ → Type 0
IsNumberOf gs s number = (k : ℕ) × (number ≡ suc k) × (slice_get gs k ≡ Some s)

-- The number at a place of a word is that of the generator with a start.
abbrev pub NamesGenerator : List Start → Start → List ℕ → ℕ → Type 0
NamesGenerator gs s word place = (number : ℕ) × (slice_get word place ≡ Some number) × IsNumberOf gs s number

-- Behind a move from a tuple the numbers of a way are read on from another place of a word, or there are none.
abbrev pub ReadsOn : PartsData → List ℕ → ℕ → TupleData → Move → List Move → Option ℕ → Type 0
ReadsOn p word read t m ms next =
    MatchOption next (¬ (AreNumbers (presented_by p p.generators) t (m ∷ ms) (drop read word)))
    (λ k. (k ≤ length word) × (AreNumbers (presented_by p p.generators) t (m ∷ ms) (drop read word) ↔ AreNumbers (presented_by p p.generators) (act t m) ms (drop k word)))

-- ---- composites
-- The images under moves aren't too long on the way.
abbrev pub HaveShortImages : ℕ → List Move → Type 0
HaveShortImages n ms = (k : ℕ) → k ≤ length ms → ComposesUpTo n ms k

-- Whether the composite of moves is the identity, where their images are short on the way.
abbrev pub TellsIdentity : ℕ → List Move → Option Bool → Type 0
TellsIdentity n ms o = MatchOption o (¬ (HaveShortImages n ms)) (λ b. HaveShortImages n ms × (IsTrue b ↔ IsTrivial n ms))
