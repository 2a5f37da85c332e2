use Rattle.std.proofs.Common.{ap, arith}
use Rattle.wh_words.specs.Moves.Kind.{swap}
use Rattle.wh_words.specs.Tuples.{Tuple}
use Rattle.wh_words.proofs.ActedRows.{image_fits}
use Rattle.wh_words.proofs.tuple.Tuple.become_swapped.Goals as goal

pub push_swap-requires-clause-letters : goal.push_swap-requires-clause-letters
push_swap-requires-clause-letters c =
    image_fits c.args.tuple.now.plain (record { rank = c.args.tuple.now.plain.rank; kind = swap c.args.k }) c.loop-place.self c.clear.new.self c.loop-place.place c.word.result.now
    (omega arith) c.word.ensures.value (omega (arith, c.requires.letters, ap (λ (u : Tuple). u.room) c.clear.ensures)) c.loop-place.invariant
