-- Walks in a level, and lists of moves that keep the length.
use Rattle.std.proofs.Common.{◌≡◌, List, [], ◌∷◌, ◌++◌, length, refl, sym, ◌∙◌, subst, inl, inr, arith}
use Rattle.std.proofs.lemmas.List.{length-map}
use Rattle.wh_words.specs.CyclicWords.{cyclic_word}
use Rattle.wh_words.specs.Tuples.{TupleData, IsTuple, tuple_length}
use Rattle.wh_words.specs.Moves.{Move}
use Rattle.wh_words.specs.Action.{act, act_all, substitute}
use Rattle.wh_words.specs.Levels.{IsLevelMove, Reaches, InLevel, KeepsLength}
use Rattle.wh_words.specs.Levels.Reaches.{here, step}
use Rattle.wh_words.specs.Levels.KeepsLength.{done as kept_done, step as kept_step}
use Rattle.wh_words.proofs.ImageLetters.{act_tuple}
use Rattle.wh_moves.proofs.IdentityCuts.{identity_acts, identity_or_not}

-- ---- walks
pub reaches_pushed : {t u : TupleData} {ms : List Move} (m : Move) → Reaches t ms u → IsLevelMove u m → Reaches t (ms ++ m ∷ []) (act u m)
reaches_pushed m here h = step h here
reaches_pushed m (step l r) h = step l (reaches_pushed m r h)

pub reached_itself : {t u : TupleData} → Reaches t [] u → u ≡ t
reached_itself here = refl

pub in_level_pushed : {t u : TupleData} {m : Move} → InLevel t u → IsLevelMove u m → InLevel t (act u m)
in_level_pushed {m = m} r h = (r.0 ++ m ∷ [], reaches_pushed m r.1 h)

-- All tuples of a level have the rank, the length and the number of words of its root.
pub reached_rank : {t u : TupleData} {ms : List Move} → Reaches t ms u → u.rank ≡ t.rank
reached_rank here = refl
reached_rank (step l r) = reached_rank r

pub reached_length : {t u : TupleData} {ms : List Move} → Reaches t ms u → tuple_length u ≡ tuple_length t
reached_length here = refl
reached_length (step l r) = reached_length r ∙ l.kept

pub reached_words : {t u : TupleData} {ms : List Move} → Reaches t ms u → length u.words ≡ length t.words
reached_words here = refl
reached_words {t} (step {m = m} l r) = reached_words r ∙ length-map t.words (λ w. cyclic_word (substitute m.kind w))

pub reached_tuple : {t u : TupleData} {ms : List Move} → IsTuple t → Reaches t ms u → IsTuple u
reached_tuple is here = is
reached_tuple {t} is (step {m = m} l r) = reached_tuple (act_tuple t m is l.valid (sym l.rank) (omega (arith, l.kept, is.short))) r

-- ---- lists of moves that keep the length
pub kept_from_reaches : {t u : TupleData} {ms : List Move} → Reaches t ms u → KeepsLength t ms × (act_all t ms ≡ u)
kept_from_reaches here = (kept_done, refl)
kept_from_reaches (step l r) =
    let rest = kept_from_reaches r in
    (kept_step l.valid l.rank l.kept rest.0, rest.1)

pub in_level_from_kept : {t : TupleData} {ms : List Move} → IsTuple t → KeepsLength t ms → InLevel t (act_all t ms)
in_level_from_kept is kept_done = ([], here)
in_level_from_kept {t} is (kept_step {m = m} {ms = ms} valid rank kept rest) =
    let more : InLevel (act t m) (act_all (act t m) ms) = in_level_from_kept (act_tuple t m is valid (sym rank) (omega (arith, kept, is.short))) rest in
    elim (identity_or_not m.kind) [
      | inl h ↦ (more.0, subst (λ (s : TupleData). Reaches s more.0 (act_all (act t m) ms)) (identity_acts t m is h) more.1)
      | inr n ↦ (m ∷ more.0, step (record { valid = valid; rank = rank; kept = kept; moves = n }) more.1)
    ]
