-- What is left to try once the swaps, the inversions and the cuts with generators as multipliers are.
use Rattle.std.proofs.Common.{◌≡◌, Bool, false, ◌≢◌, ℕ, ◌+◌, ◌*◌, ◌/◌, ◌<◌, List, sym, ap, ◌∙◌, subst, inl, inr, ◌↔◌, IsTrue, arith}
use Rattle.std.specs.Prelude.{Contains}
use Rattle.std.proofs.lemmas.Bool.{cases_lt, true≢false}
use Rattle.wh_words.specs.Letters.{inverse_letter}
use Rattle.wh_words.specs.LetterSets.{in_set}
use Rattle.wh_words.specs.Tuples.{TupleData, IsTuple}
use Rattle.wh_words.specs.Moves.{Move, Kind, cut_move}
use Rattle.wh_words.specs.Moves.Kind.{swap, invert, cut}
use Rattle.wh_words.specs.Action.{act}
use Rattle.wh_words.specs.Levels.{IsLevelMove}
use Rattle.wh_words.specs.Edges.{cap, deg}
use Rattle.wh_graph.proofs.LevelMoves.{level_cut}
use Rattle.wh_graph.proofs.ComplementCuts.{generator_of}
use Rattle.wh_graph.proofs.TurnedCuts.{ActsAsGenerator, turned_cut}
use Rattle.wh_graph.proofs.TurnedCuts.ActsAsGenerator.{itself, generator}
use Rattle.wh_cert.specs.Demands.{ImagesAreIn}
use Rattle.wh_sets.specs.TupleSets.{HaveSameTuples}
use Rattle.wh_cert.specs.Listings.{StaysIn, SwapsStay, InversionsStay, CutsStay}

-- ---- one after another
pub next_before : (P : ℕ → Type 0) (k : ℕ) → ((j : ℕ) → j < k → P j) → P k → (j : ℕ) → j < k + 1 → P j
next_before P k h p j l = elim (cases_lt j k) [
  | inl below ↦ h j below
  | inr above ↦ let here : k ≡ j = omega (arith, above, l) in subst P here p
]

-- Where one doesn't hold, not all do.
pub not_all : (P : ℕ → Type 0) (k : ℕ) (b : Bool) → IsTrue b ↔ P k → b ≡ false → ¬ ((j : ℕ) → P j)
not_all P k b exact e all = true≢false (sym (exact.1 (all k)) ∙ e)

-- ---- one move
-- A level move as it is made stays where its image is in the list.
pub made_stays : (us : List TupleData) (t : TupleData) (m made : Move) (b : Bool) → m ≡ made → IsLevelMove t m → IsTrue b ↔ Contains us (act t m) → IsTrue b ↔ StaysIn us t made
made_stays us t m made b e level is_in = (
  λ h l. subst (λ (k : Move). Contains us (act t k)) e (is_in.0 h),
  λ s. is_in.1 (subst (λ (k : Move). Contains us (act t k)) (sym e) (s (subst (IsLevelMove t) e level))),
)

-- A set of another capacity makes no level move.
pub other_capacity : (us : List TupleData) (t : TupleData) (a set : ℕ) → IsTuple t → cap (in_set set) t ≢ deg a t → StaysIn us t (cut_move t.rank a set)
other_capacity us t a set is n m = absurd (n (level_cut t is a set m))

-- ---- all moves
module _ (us : List TupleData) (t : TupleData) (is : IsTuple t) (own : Contains us t) (cuts : CutsStay us t) where
  -- The cuts with inverses of generators act as those with generators.
  turned_stays : (a set : ℕ) → a ≡ inverse_letter (2 * (a / 2)) → StaysIn us t (cut_move t.rank a set)
  turned_stays a set e level = from (turned_cut t a set is e level)
    where
      from : ActsAsGenerator t a set → Contains us (act t (cut_move t.rank a set))
      from (itself same) = subst (Contains us) (sym same) own
      from (generator other level same) = subst (Contains us) same (cuts (a / 2) other level)

  cut_stays : (a set : ℕ) → StaysIn us t (cut_move t.rank a set)
  cut_stays a set level = elim (generator_of a) [
    | inl e ↦
        subst (λ (b : ℕ). Contains us (act t (cut_move t.rank b set))) (sym e)
        (cuts (a / 2) set (subst (λ (b : ℕ). IsLevelMove t (cut_move t.rank b set)) e level))
    | inr e ↦ turned_stays a set e level
  ]

  kind_stays : SwapsStay us t → InversionsStay us t → (k : Kind) → StaysIn us t (record { rank = t.rank; kind = k })
  kind_stays swaps inversions (swap j) = swaps j
  kind_stays swaps inversions (invert j) = inversions j
  kind_stays swaps inversions (cut a set) = cut_stays a set

  pub images_are_in : SwapsStay us t → InversionsStay us t → ImagesAreIn us t
  images_are_in swaps inversions m level =
      let same : m ≡ record { rank = t.rank; kind = m.kind } = ap (λ (n : ℕ). record { rank = n; kind = m.kind }) level.rank in
      subst (λ (k : Move). Contains us (act t k)) (sym same) (kind_stays swaps inversions m.kind (subst (IsLevelMove t) same level))

pub cuts_from : (us : List TupleData) (t : TupleData) → ImagesAreIn us t → CutsStay us t
cuts_from us t h g set level = h (cut_move t.rank (2 * g) set) level

-- ---- lists
pub same_images : (us ts : List TupleData) (t : TupleData) → HaveSameTuples us ts → ImagesAreIn us t ↔ ImagesAreIn ts t
same_images us ts t same = (λ h m level. (same (act t m)).0 (h m level), λ h m level. (same (act t m)).1 (h m level))
