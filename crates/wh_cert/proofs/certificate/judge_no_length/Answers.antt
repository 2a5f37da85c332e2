use Rattle.std.proofs.Common.{◌≢◌, not, refl, ◌↔◌, IsTrue, nat_eq}
use Rattle.wh_words.specs.Tuples.{tuple_length}
use Rattle.wh_cert.specs.Demands.{lengths_differ}
use Rattle.wh_cert.proofs.Rising.{other_numbers_tested}
use Rattle.wh_cert.proofs.certificate.judge_no_length.Goals as goal

pub returns : goal.returns
returns c =
    let tested : IsTrue (not (nat_eq c.length.result c.length-2.result)) ↔ (tuple_length c.args.a.now.end.plain ≢ tuple_length c.args.b.now.end.plain) =
    other_numbers_tested c.length.result c.length-2.result (tuple_length c.args.a.now.end.plain) (tuple_length c.args.b.now.end.plain) c.length.ensures.length c.length-2.ensures.length in
    c.judge_sides.ensures lengths_differ refl tested
