use Rattle.std.proofs.Common.{◌≡◌, ℕ, List, sym, subst}
use Rattle.std.specs.List.{All}
use Rattle.wh_words.specs.Tuples.{Tuple}
use Rattle.wh_data.specs.AnswerData.{plains, side_of, verdict_of}
use Rattle.wh_data.specs.AnswerData.VerdictData.{no_level}
use Rattle.wh_data.specs.Numberings.{IsVerdictOfRank}
use Rattle.wh_cert.proofs.Rising.{low_ranks}
use Rattle.wh_cert.proofs.certificate.judge_verdict.Goals as goal

pub judge_no_level-requires-clause-ranks : goal.judge_no_level-requires-clause-ranks
judge_no_level-requires-clause-ranks c =
    let n : ℕ = c.args.first.now.plain.rank in
    let is : IsVerdictOfRank n (no_level (side_of c.in-NoLevel.a) (side_of c.in-NoLevel.b) (plains c.in-NoLevel.tuples)) = subst (λ v. IsVerdictOfRank n (verdict_of v)) c.in-NoLevel.is c.requires.verdict in
    low_ranks n c.items-in-NoLevel.result.now (subst (λ (ts : List Tuple). All (λ t. t.rank ≡ n) (plains ts)) (sym c.items-in-NoLevel.ensures) is.2) is.3
