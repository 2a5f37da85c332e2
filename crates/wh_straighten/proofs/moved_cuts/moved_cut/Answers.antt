use Rattle.std.proofs.Common.{ℕ, sym, subst, ◌<◌, ◌^◌, ◌*◌}
use Rattle.wh_words.specs.LetterSets.{in_set}
use Rattle.wh_words.specs.Moves.{IsCut}
use Rattle.wh_composites.specs.SignedPerms.{letter_map}
use Rattle.wh_peak.specs.Relations.{HasLetters}
use Rattle.wh_straighten.proofs.LoweredTurns.{moved_is_cut}
use Rattle.wh_straighten.proofs.moved_cuts.moved_cut.Goals as goal

pub cut_move-requires : goal.cut_move-requires
cut_move-requires c =
    subst (λ (z : ℕ). IsCut z c.letter_after.result c.moved_set.result) (sym c.rank-rank.ensures.rank)
    (moved_is_cut c.args.turn.now.rank c.args.turn.now.kind c.args.mult c.args.set c.letter_after.result c.moved_set.result c.requires.turn c.requires.cut c.letter_after.ensures
    (subst (λ (z : ℕ). HasLetters z c.moved_set.result (λ x. in_set c.args.set (letter_map c.args.turn.now.kind x))) c.rank-rank.ensures.rank c.moved_set.ensures.letters)
    (subst (λ (z : ℕ). c.moved_set.result < 2 ^ (2 * z)) c.rank-rank.ensures.rank c.moved_set.ensures.within))
