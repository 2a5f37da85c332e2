-- Where a list is closed under swaps and inversions, one tuple of an orbit tells whether the level moves of all stay in it.
use Rattle.std.proofs.Common.{◌≡◌, ℕ, ◌^◌, List, refl, sym, ap, ◌∙◌, subst, inl, inr}
use Rattle.std.specs.Prelude.{Contains}
use Rattle.std.proofs.lemmas.Bool.{cases_eq}
use Rattle.wh_words.specs.Tuples.{TupleData, IsTuple, tuple_length}
use Rattle.wh_words.specs.Moves.{Kind, Move, IsKind, IsCut, cut_move}
use Rattle.wh_words.specs.Moves.Kind.{swap, invert, cut}
use Rattle.wh_words.specs.Action.{act}
use Rattle.wh_words.specs.Levels.{IsLevelMove}
use Rattle.wh_moves.proofs.IdentityCuts.{identity_acts}
use Rattle.wh_cert.specs.Demands.{ImagesAreIn}
use Rattle.wh_cert.specs.Listings.{StaysIn}
use Rattle.wh_cert.specs.Orbits.{PermutesLetters, OrbitsAreIn}
use Rattle.wh_cert.specs.Laws.{ClosedByOrbits}
use Rattle.wh_cert.proofs.PermutedLetters.{letter, permuting_keeps, permuting_level, level_tuple, permuted_back, own_rank, permuted_stays}
use Rattle.wh_cert.proofs.PermutedCuts.{permuted_set, permuted_cut, past_cut}

module _ (ts : List TupleData) (t : TupleData) (m : Move) (is : IsTuple t) (orbits : OrbitsAreIn ts) (own : Contains ts t) (images : ImagesAreIn ts t) (level : IsLevelMove t m) (permutes : PermutesLetters m.kind) where
  abbrev moved : TupleData
  moved = act t m

  moved_tuple : IsTuple moved
  moved_tuple = level_tuple t m is level

  moved_in : Contains ts moved
  moved_in = images m level

  -- A cut of the image, and the cut of the tuple that it is taken from.
  module _ (a set : ℕ) (cuts : IsLevelMove moved (cut_move t.rank a set)) where
    abbrev after : TupleData
    after = act moved (cut_move t.rank a set)

    after_tuple : IsTuple after
    after_tuple = level_tuple moved (cut_move t.rank a set) moved_tuple cuts

    here : IsKind t.rank m.kind
    here = subst (λ (n : ℕ). IsKind n m.kind) level.rank level.valid.kind

    abbrev from_letter : ℕ
    from_letter = letter m.kind a

    abbrev from_set : ℕ
    from_set = permuted_set t.rank m.kind here permutes set

    from_cut : IsCut t.rank from_letter from_set
    from_cut = permuted_cut t.rank m.kind here permutes a set cuts.valid.kind

    -- The cut of the image and then the permutation lead where the cut of the tuple does.
    round : act after m ≡ act t (cut_move t.rank from_letter from_set)
    round =
        ap (act after) (own_rank m t.rank level.rank)
        ∙ (past_cut t.rank m.kind here permutes moved a set moved_tuple refl cuts.valid.kind
        ∙ ap (λ (s : TupleData). act s (cut_move t.rank from_letter from_set)) (sym (ap (act moved) (own_rank m t.rank level.rank)) ∙ permuted_back t m is level.valid permutes))

    kept : tuple_length (act t (cut_move t.rank from_letter from_set)) ≡ tuple_length t
    kept = sym (ap tuple_length round) ∙ (permuting_keeps after m.rank m.kind after_tuple level.valid.kind permutes ∙ (cuts.kept ∙ level.kept))

    cut_in : Contains ts (act t (cut_move t.rank from_letter from_set))
    cut_in = elim (cases_eq from_set (2 ^ from_letter)) [
      | inl alone ↦ subst (Contains ts) (sym (identity_acts t (cut_move t.rank from_letter from_set) is alone)) own
      | inr more ↦ images (cut_move t.rank from_letter from_set) (record {
        valid = record { rank = cuts.valid.rank; kind = from_cut };
        rank = refl;
        kept = kept;
        moves = more;
      })
    ]

    round_tuple : IsTuple (act after m)
    round_tuple = level_tuple after m after_tuple (permuting_level after m after_tuple level.valid level.rank permutes)

    after_in : Contains ts after
    after_in =
        subst (Contains ts) (permuted_back after m after_tuple level.valid permutes)
        (permuted_stays ts (act after m) m round_tuple orbits (subst (Contains ts) (sym round) cut_in) level.valid level.rank permutes)

  moved_stays : (k : Kind) → StaysIn ts moved (record { rank = t.rank; kind = k })
  moved_stays (swap j) = (orbits moved moved_in).0 j
  moved_stays (invert j) = (orbits moved moved_in).1 j
  moved_stays (cut a set) = after_in a set

  moved_images : ImagesAreIn ts moved
  moved_images k l =
      subst (λ (j : Move). Contains ts (act moved j)) (sym (own_rank k t.rank l.rank))
      (moved_stays k.kind (subst (IsLevelMove moved) (own_rank k t.rank l.rank) l))

pub closed_by_orbits : ClosedByOrbits
closed_by_orbits ts t m is orbits own images level permutes = moved_images ts t m is orbits own images level permutes
