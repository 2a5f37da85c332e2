use Rattle.std.proofs.Common.{◌≡◌, ℕ, rules, ap, ◌∙◌, arith}
use Rattle.std.proofs.lemmas.Bool.{false≢true}
use Rattle.wh_words.specs.Moves.Kind.{swap}
use Rattle.wh_words.specs.Levels.{IsLevelMove}
use Rattle.wh_cert.specs.Listings.{StaysIn}
use Rattle.wh_graph.proofs.LevelMoves.{made_swap_level}
use Rattle.wh_cert.proofs.Staying.{made_stays, not_all}
use Rattle.wh_cert.proofs.images.swaps_stay.Goals as goal

pub image_is_in-requires-clause-level : goal.image_is_in-requires-clause-level
image_is_in-requires-clause-level c =
    made_swap_level c.args.tuple.now.plain c.rank-rank.ensures.roomed.tuple c.rank-rank.result c.rank-rank.ensures.rank (omega (arith, c.rank-rank.ensures.rank, c.get-k-end.ensures.same, c.get-k-end.ensures.greatest)) c.unwrap.result c.loop-k.k
    (search rules) (omega arith) (omega arith)

pub returns-then-not-image_is_in-clause-stay : goal.returns-then-not-image_is_in-clause-stay
returns-then-not-image_is_in-clause-stay c =
    let is : c.unwrap.result ≡ record { rank = c.rank-rank.result; kind = swap c.loop-k.k } = search rules in
    let level : IsLevelMove c.args.tuple.now.plain c.unwrap.result =
    made_swap_level c.args.tuple.now.plain c.rank-rank.ensures.roomed.tuple c.rank-rank.result c.rank-rank.ensures.rank (omega (arith, c.rank-rank.ensures.rank, c.get-k-end.ensures.same, c.get-k-end.ensures.greatest)) c.unwrap.result c.loop-k.k
    is (omega arith) (omega arith) in (
      λ f. absurd (false≢true f),
      λ all. absurd (not_all (λ j. StaysIn c.args.listed.now c.args.tuple.now.plain (record { rank = c.args.tuple.now.plain.rank; kind = swap j })) c.loop-k.k c.image_is_in.result
          (made_stays c.args.listed.now c.args.tuple.now.plain c.unwrap.result (record { rank = c.args.tuple.now.plain.rank; kind = swap c.loop-k.k }) c.image_is_in.result
          (is ∙ ap (λ (r : ℕ). record { rank = r; kind = swap c.loop-k.k }) c.rank-rank.ensures.rank) level c.image_is_in.ensures.is_in)
          c.if-not-image_is_in.true all),
    )
