use Rattle.std.proofs.Common.{◌≡◌, [], ◌∷◌, rules, refl, ap, ◌∙◌, subst, ◌↔◌, IsTrue, nat_eq}
use Rattle.wh_words.specs.Tuples.{TupleData, tuple_length}
use Rattle.wh_data.specs.AnswerData.{plains}
use Rattle.wh_cert.specs.Demands.{rises, has_height, absent_asked, tuple_at}
use Rattle.wh_cert.specs.Judged.{Judges}
use Rattle.wh_cert.proofs.Judging.{met_ok, stopped_first, judged_after}
use Rattle.wh_cert.proofs.Rising.{plain_at, numbers_tested}
use Rattle.wh_cert.proofs.SecondEnds.{second_end}
use Rattle.wh_cert.proofs.levels.judge_tuple.Goals as goal

pub returns-in_err-ask : goal.returns-in_err-ask
returns-in_err-ask c =
    let t : TupleData = tuple_at (plains c.args.tuples.now) c.args.k in
    stopped_first ((c.args.place, rises (plains c.args.tuples.now) c.args.k) ∷ []) ((c.args.place, has_height c.args.root.now.plain t) ∷ absent_asked c.args.place (second_end c.args.second) t) c.ask.result c.from_residual.result
    c.in_err-ask.field-0.0 (c.ask.ensures (rises (plains c.args.tuples.now) c.args.k) refl c.is_greater.ensures) (search rules) (search rules)

pub returns-in_err-ask-2 : goal.returns-in_err-ask-2
returns-in_err-ask-2 c =
    let t : TupleData = tuple_at (plains c.args.tuples.now) c.args.k in
    let same : c.index-tuples-k.result.plain ≡ t = plain_at c.args.tuples.now c.args.k c.index-tuples-k.result c.requires (search rules) in
    let tested : IsTrue (nat_eq c.length.result c.length-2.result) ↔ (tuple_length t ≡ tuple_length c.args.root.now.plain) =
    numbers_tested c.length.result c.length-2.result (tuple_length t) (tuple_length c.args.root.now.plain) (c.length.ensures.length ∙ ap tuple_length same) c.length-2.ensures.length in
    judged_after ((c.args.place, rises (plains c.args.tuples.now) c.args.k) ∷ []) ((c.args.place, has_height c.args.root.now.plain t) ∷ absent_asked c.args.place (second_end c.args.second) t) c.from_residual-in_err-ask-2.result
    (met_ok ((c.args.place, rises (plains c.args.tuples.now) c.args.k) ∷ []) c.ask.result c.in_ok-ask.field-0 (c.ask.ensures (rises (plains c.args.tuples.now) c.args.k) refl c.is_greater.ensures) (search rules))
    (stopped_first ((c.args.place, has_height c.args.root.now.plain t) ∷ []) (absent_asked c.args.place (second_end c.args.second) t) c.ask-2.result c.from_residual-in_err-ask-2.result
    c.in_err-ask-2.field-0.0 (c.ask-2.ensures (has_height c.args.root.now.plain t) refl tested) (search rules) (search rules))

pub returns : goal.returns
returns c =
    let t : TupleData = tuple_at (plains c.args.tuples.now) c.args.k in
    let same : c.index-tuples-k.result.plain ≡ t = plain_at c.args.tuples.now c.args.k c.index-tuples-k.result c.requires (search rules) in
    let again : c.index-tuples-k-2.result.plain ≡ t = plain_at c.args.tuples.now c.args.k c.index-tuples-k-2.result c.requires (search rules) in
    let tested : IsTrue (nat_eq c.length.result c.length-2.result) ↔ (tuple_length t ≡ tuple_length c.args.root.now.plain) =
    numbers_tested c.length.result c.length-2.result (tuple_length t) (tuple_length c.args.root.now.plain) (c.length.ensures.length ∙ ap tuple_length same) c.length-2.ensures.length in
    judged_after ((c.args.place, rises (plains c.args.tuples.now) c.args.k) ∷ []) ((c.args.place, has_height c.args.root.now.plain t) ∷ absent_asked c.args.place (second_end c.args.second) t) c.judge_absent.result
    (met_ok ((c.args.place, rises (plains c.args.tuples.now) c.args.k) ∷ []) c.ask.result c.in_ok-ask.field-0 (c.ask.ensures (rises (plains c.args.tuples.now) c.args.k) refl c.is_greater.ensures) (search rules))
    (judged_after ((c.args.place, has_height c.args.root.now.plain t) ∷ []) (absent_asked c.args.place (second_end c.args.second) t) c.judge_absent.result
    (met_ok ((c.args.place, has_height c.args.root.now.plain t) ∷ []) c.ask-2.result c.in_ok-ask-2.field-0 (c.ask-2.ensures (has_height c.args.root.now.plain t) refl tested) (search rules))
    (subst (λ (u : TupleData). Judges (absent_asked c.args.place (second_end c.args.second) u) c.judge_absent.result) again c.judge_absent.ensures))
