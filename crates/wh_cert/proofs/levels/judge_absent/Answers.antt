use Rattle.std.proofs.Common.{Option, Bor, refl, sym, subst}
use Rattle.wh_words.specs.Tuples.{Tuple}
use Rattle.wh_cert.specs.Demands.{is_absent, absent_asked}
use Rattle.wh_cert.specs.Judged.{Judges}
use Rattle.wh_cert.proofs.Rising.{differ_tested}
use Rattle.wh_cert.proofs.SecondEnds.{second_end}
use Rattle.wh_cert.proofs.levels.judge_absent.Goals as goal

pub returns-in-Some : goal.returns-in-Some
returns-in-Some c =
    subst (λ (o : Option (Bor Tuple)). Judges (absent_asked c.args.place (second_end o) c.args.tuple.now.plain) c.ask.result) (sym c.in-Some.is)
    (c.ask.ensures (is_absent c.in-Some.second.now.plain c.args.tuple.now.plain) refl (differ_tested c.same.result c.args.tuple.now.plain c.in-Some.second.now.plain c.same.ensures))
