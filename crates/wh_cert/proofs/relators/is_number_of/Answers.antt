use Rattle.std.proofs.Common.{◌-◌, rules}
use Rattle.wh_cert.proofs.JudgedTrees.{stands}
use Rattle.wh_cert.proofs.RelatorNumbers.{number_tested, no_number}
use Rattle.wh_cert.proofs.relators.is_number_of.Goals as goal

pub returns-in-Some : goal.returns-in-Some
returns-in-Some c =
    number_tested c.args.generators.now (c.args.from, c.args.via.now) c.in-Some.start.now c.args.number c.if-number-eq0.false
    (stands c.args.generators.now (c.args.number - 1) c.in-Some.start.now c.in-Some.ensures.lookup.3.0 c.in-Some.ensures.lookup.1) c.is_same.ensures

pub returns-in-None : goal.returns-in-None
returns-in-None c = (λ f. absurd (search rules), λ is. absurd (no_number c.args.generators.now (c.args.from, c.args.via.now) c.args.number c.in-None.ensures.lookup.3 is))
