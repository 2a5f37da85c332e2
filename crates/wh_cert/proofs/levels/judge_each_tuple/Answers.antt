use Rattle.std.proofs.Common.{◌≡◌, ℕ, ◌+◌, [], ◌∷◌, List, length, rules, subst, arith}
use Rattle.std.proofs.lemmas.List.{length-map}
use Rattle.wh_words.specs.Tuples.{TupleData, Tuple}
use Rattle.wh_data.specs.AnswerData.{plains}
use Rattle.wh_cert.specs.Demands.{Placed, rises, has_height, is_closed, absent_asked, tuple_at, asked_below, at_asked}
use Rattle.wh_cert.specs.Checks.{AreMet}
use Rattle.wh_cert.specs.Judged.{Judges}
use Rattle.wh_cert.proofs.Judging.{none_asked, met_ok, stopped_first, judged_after, judged_in_turn, met_in_turn}
use Rattle.wh_cert.proofs.SecondEnds.{second_end}
use Rattle.wh_cert.proofs.Rising.{plain_at, plain_listed}
use Rattle.wh_cert.proofs.JudgedOrbits.{listed_ranks}
use Rattle.wh_cert.proofs.levels.judge_each_tuple.Goals as goal

pub all_closed-requires-clause-ranks : goal.all_closed-requires-clause-ranks
all_closed-requires-clause-ranks c = listed_ranks c.args.listed.now c.args.tuples.now c.requires.same c.requires.ranks

pub loop-k-init : goal.loop-k-init
loop-k-init c = (c.all_closed.ensures.roomy, none_asked (at_asked c.args.place c.args.root.now.plain (second_end c.args.second) (plains c.args.tuples.now)))

pub returns-in_err-judge_tuple : goal.returns-in_err-judge_tuple
returns-in_err-judge_tuple c =
    let t : TupleData = tuple_at (plains c.args.tuples.now) c.loop-k.k in
    let order : List Placed = (c.args.place + c.loop-k.k, rises (plains c.args.tuples.now) c.loop-k.k) ∷ (c.args.place + c.loop-k.k, has_height c.args.root.now.plain t) ∷ absent_asked (c.args.place + c.loop-k.k) (second_end c.args.second) t in
    judged_in_turn (at_asked c.args.place c.args.root.now.plain (second_end c.args.second) (plains c.args.tuples.now)) c.loop-k.k (length (plains c.args.tuples.now)) c.judge_tuple.result c.from_residual-in_err-judge_tuple.result
    c.in_err-judge_tuple.field-0.0 (omega (arith, c.loop-k-test.true, length-map c.args.tuples.now (λ (u : Tuple). u.plain))) c.loop-k.invariant.1
    (stopped_first order ((c.args.place + c.loop-k.k, is_closed (plains c.args.tuples.now) t) ∷ []) c.judge_tuple.result c.judge_tuple.result c.in_err-judge_tuple.field-0.0 c.judge_tuple.ensures (search rules) (search rules))
    (search rules) (search rules)

pub judge_images-requires-clause-closed : goal.judge_images-requires-clause-closed
judge_images-requires-clause-closed c = λ closed.
    c.in_ok-closed.ensures.closed.0 closed c.index-tuples-k.result.plain
    ((c.requires.same c.index-tuples-k.result.plain).1 (plain_listed c.args.tuples.now c.loop-k.k c.index-tuples-k.result (search rules) (search rules)))

pub judge_images-requires-clause-own : goal.judge_images-requires-clause-own
judge_images-requires-clause-own c =
    (c.requires.same c.index-tuples-k.result.plain).1 (plain_listed c.args.tuples.now c.loop-k.k c.index-tuples-k.result (search rules) (search rules))

pub returns-in_err-judge_images : goal.returns-in_err-judge_images
returns-in_err-judge_images c =
    let t : TupleData = tuple_at (plains c.args.tuples.now) c.loop-k.k in
    let order : List Placed = (c.args.place + c.loop-k.k, rises (plains c.args.tuples.now) c.loop-k.k) ∷ (c.args.place + c.loop-k.k, has_height c.args.root.now.plain t) ∷ absent_asked (c.args.place + c.loop-k.k) (second_end c.args.second) t in
    let same : c.index-tuples-k.result.plain ≡ t = plain_at c.args.tuples.now c.loop-k.k c.index-tuples-k.result (search rules) (search rules) in
    judged_in_turn (at_asked c.args.place c.args.root.now.plain (second_end c.args.second) (plains c.args.tuples.now)) c.loop-k.k (length (plains c.args.tuples.now)) c.judge_images.result c.from_residual-in_err-judge_images.result
    c.in_err-judge_images.field-0.0 (omega (arith, c.loop-k-test.true, length-map c.args.tuples.now (λ (u : Tuple). u.plain))) c.loop-k.invariant.1
    (judged_after order ((c.args.place + c.loop-k.k, is_closed (plains c.args.tuples.now) t) ∷ []) c.judge_images.result
    (met_ok order c.judge_tuple.result c.in_ok-judge_tuple.field-0 c.judge_tuple.ensures (search rules))
    (subst (λ (u : TupleData). Judges ((c.args.place + c.loop-k.k, is_closed (plains c.args.tuples.now) u) ∷ []) c.judge_images.result) same (c.judge_images.ensures.judges (plains c.args.tuples.now) c.requires.same)))
    (search rules) (search rules)

pub loop-k-preserved : goal.loop-k-preserved
loop-k-preserved c =
    let t : TupleData = tuple_at (plains c.args.tuples.now) c.loop-k.k in
    let order : List Placed = (c.args.place + c.loop-k.k, rises (plains c.args.tuples.now) c.loop-k.k) ∷ (c.args.place + c.loop-k.k, has_height c.args.root.now.plain t) ∷ absent_asked (c.args.place + c.loop-k.k) (second_end c.args.second) t in
    let same : c.index-tuples-k.result.plain ≡ t = plain_at c.args.tuples.now c.loop-k.k c.index-tuples-k.result (search rules) (search rules) in (
      c.judge_images.ensures.roomy,
      met_in_turn (at_asked c.args.place c.args.root.now.plain (second_end c.args.second) (plains c.args.tuples.now)) c.loop-k.k c.judge_images.result c.in_ok-judge_images.field-0 c.loop-k.invariant.1
          (judged_after order ((c.args.place + c.loop-k.k, is_closed (plains c.args.tuples.now) t) ∷ []) c.judge_images.result
          (met_ok order c.judge_tuple.result c.in_ok-judge_tuple.field-0 c.judge_tuple.ensures (search rules))
          (subst (λ (u : TupleData). Judges ((c.args.place + c.loop-k.k, is_closed (plains c.args.tuples.now) u) ∷ []) c.judge_images.result) same (c.judge_images.ensures.judges (plains c.args.tuples.now) c.requires.same)))
          (search rules),
    )

pub returns : goal.returns
returns c =
    let all : c.loop-k.k ≡ length (plains c.args.tuples.now) = omega (arith, c.loop-k-test.false, length-map c.args.tuples.now (λ (u : Tuple). u.plain)) in
    subst (λ (k : ℕ). AreMet (asked_below (at_asked c.args.place c.args.root.now.plain (second_end c.args.second) (plains c.args.tuples.now)) k)) all c.loop-k.invariant.1
