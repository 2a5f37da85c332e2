-- A cut with the inverse of a generator as its multiplier acts as the cut of the other letters with the generator.
use Rattle.std.proofs.Common.{◌≡◌, ℕ, ◌*◌, ◌/◌, ◌^◌, refl, sym, ap, ◌∙◌, subst, inl, inr}
use Rattle.std.proofs.lemmas.Bool.{cases_eq}
use Rattle.wh_words.specs.Letters.{inverse_letter}
use Rattle.wh_words.specs.Tuples.{TupleData, IsTuple, tuple_length}
use Rattle.wh_words.specs.Moves.{IsCut, cut_move}
use Rattle.wh_words.specs.Action.{act}
use Rattle.wh_words.specs.Levels.{IsLevelMove}
use Rattle.wh_moves.proofs.IdentityCuts.{identity_acts}
use Rattle.wh_words.proofs.Complements.{turned_acts}
use Rattle.wh_graph.proofs.ComplementCuts.{complement, complement_flips, complement_cut}

-- A cut leaves a tuple as it is, or acts on it as a level move does that is a cut with the generator of its multiplier.
pub data ActsAsGenerator (t : TupleData) (a set : ℕ) : Type 0 where
  itself : act t (cut_move t.rank a set) ≡ t → ActsAsGenerator t a set
  generator : (other : ℕ) → IsLevelMove t (cut_move t.rank (2 * (a / 2)) other) → act t (cut_move t.rank (2 * (a / 2)) other) ≡ act t (cut_move t.rank a set) → ActsAsGenerator t a set

pub turned_cut : (t : TupleData) (a set : ℕ) → IsTuple t → a ≡ inverse_letter (2 * (a / 2)) → IsLevelMove t (cut_move t.rank a set) → ActsAsGenerator t a set
turned_cut t a set is e level =
    let x : ℕ = 2 * (a / 2) in
    let turned : IsCut t.rank (inverse_letter x) set = subst (λ (b : ℕ). IsCut t.rank b set) e level.valid.kind in
    let other : IsCut t.rank x (complement t.rank set) = complement_cut t.rank x set turned in
    let same : act t (cut_move t.rank a set) ≡ act t (cut_move t.rank x (complement t.rank set)) =
    ap (λ (b : ℕ). act t (cut_move t.rank b set)) e ∙ turned_acts t x (complement t.rank set) set is other turned (λ y l. complement_flips t.rank set y l) in
    elim (cases_eq (complement t.rank set) (2 ^ x)) [
      | inl alone ↦ itself (same ∙ identity_acts t (cut_move t.rank x (complement t.rank set)) is alone)
      | inr more ↦
          generator (complement t.rank set)
          (record {
            valid = record { rank = level.valid.rank; kind = other };
            rank = refl;
            kept = ap tuple_length (sym same) ∙ level.kept;
            moves = more;
          })
          (sym same)
    ]
