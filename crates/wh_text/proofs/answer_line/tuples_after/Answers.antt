use Rattle.std.proofs.Common.{◌≡◌, ◌+◌, ◌-◌, ◌∙◌, ◌++◌, ◌∷◌, [], ap, arith, rules, map, Ok, List}
use Rattle.std.specs.Prelude.{codes}
use Rattle.std.proofs.lemmas.List.{map-append}
use Rattle.std.proofs.lemmas.Result.{err_from_is_err_and}
use Rattle.wh_words.specs.Tuples.{Tuple, TupleData}
use Rattle.wh_lines.specs.LineReadings.{times}
use Rattle.wh_text.specs.Certificates.{like_after}
use Rattle.wh_lines.proofs.Times.{times_front, times_more, times_fail, times_start, times_end}
use Rattle.wh_text.proofs.answer_line.tuples_after.Goals as goal

pub loop-init : goal.loop-init
loop-init c =
    times_start (like_after (codes "at") c.args.rank c.args.count) (map (λ (t : Tuple). t.plain) c.new-tuples.result.items) c.args.size c.args.reader.now (ap (map (λ (t : Tuple). t.plain)) c.new-tuples.ensures.items)

pub returns-in_err-tuple : goal.returns-in_err-tuple
returns-in_err-tuple c =
    let p = err_from_is_err_and c.from_residual.result c.from_residual.ensures.1 in
    rw (p.1, p.2) (times_fail (like_after (codes "at") c.args.rank c.args.count) (map (λ (t : Tuple). t.plain) c.loop.tuples.items) c.args.size c.loop.counter c.loop.reader c.in_err-tuple.field-0.0
    (times (like_after (codes "at") c.args.rank c.args.count) c.args.size c.args.reader.now) (omega (arith, c.loop-test.true)) c.in_err-tuple.ensures c.loop.invariant)

pub loop-preserved : goal.loop-preserved
loop-preserved c =
    let read : like_after (codes "at") c.args.rank c.args.count c.loop.reader ≡ Ok (c.in_ok-tuple.tuple.plain, c.like_after.new.reader) = search rules in
    let plains : map (λ (t : Tuple). t.plain) c.push.new.self.items ≡ map (λ (t : Tuple). t.plain) c.loop.tuples.items ++ c.in_ok-tuple.tuple.plain ∷ [] =
    ap (map (λ (t : Tuple). t.plain)) c.in_ok-push.ensures.items ∙ map-append (λ (t : Tuple). t.plain) c.loop.tuples.items (c.in_ok-tuple.tuple ∷ []) in
    ap (λ (us : List TupleData). times_front us (times (like_after (codes "at") c.args.rank c.args.count) (c.args.size - (c.loop.counter + 1)) c.like_after.new.reader)) plains
    ∙ times_more (like_after (codes "at") c.args.rank c.args.count) (map (λ (t : Tuple). t.plain) c.loop.tuples.items) c.args.size c.loop.counter c.loop.reader c.in_ok-tuple.tuple.plain c.like_after.new.reader
    (times (like_after (codes "at") c.args.rank c.args.count) c.args.size c.args.reader.now) (omega (arith, c.loop-test.true)) read c.loop.invariant

pub returns : goal.returns
returns c =
    times_end (like_after (codes "at") c.args.rank c.args.count) (map (λ (t : Tuple). t.plain) c.loop.tuples.items) c.args.size c.loop.counter c.loop.reader
    (times (like_after (codes "at") c.args.rank c.args.count) c.args.size c.args.reader.now) (omega (arith, c.loop-test.false)) c.loop.invariant
