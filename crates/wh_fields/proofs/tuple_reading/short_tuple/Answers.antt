use Rattle.std.proofs.Common.{rules, ◌≡◌, map, arith, ap, sym, subst, length}
use Rattle.std.specs.List.{All, sum_by}
use Rattle.wh_words.specs.Words.{free_reduction, IsOfRank}
use Rattle.wh_words.specs.CyclicWords.{cyclic_word}
use Rattle.wh_fields.proofs.WordReadings.{reduced_rank, cyclic_total, short_done}
use Rattle.wh_fields.proofs.tuple_reading.short_tuple.Goals as goal

pub of-requires-clause-of_rank : goal.of-requires-clause-of_rank
of-requires-clause-of_rank c =
    let e : c.deref.result.now ≡ map free_reduction c.args.written.now = search rules in
    subst (All (IsOfRank c.args.rank)) (sym e) (reduced_rank c.args.rank c.args.written.now c.requires.of_rank)

pub of-requires-clause-short : goal.of-requires-clause-short
of-requires-clause-short c =
    let e : c.deref.result.now ≡ map free_reduction c.args.written.now = search rules in
    omega (arith, ap (λ ws. sum_by length (map cyclic_word ws)) e, cyclic_total c.args.written.now)

pub returns : goal.returns
returns c =
    let e : c.deref.result.now ≡ map free_reduction c.args.written.now = search rules in
    rw (c.in_ok-of.ensures.made, e) (short_done c.args.rank c.args.line c.args.written.now (omega arith))
