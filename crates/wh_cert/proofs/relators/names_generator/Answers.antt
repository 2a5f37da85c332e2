use Rattle.std.proofs.Common.{rules}
use Rattle.wh_cert.proofs.JudgedTrees.{stands}
use Rattle.wh_cert.proofs.RelatorNumbers.{name_tested, nothing_named}
use Rattle.wh_cert.proofs.relators.names_generator.Goals as goal

pub returns-in-Some : goal.returns-in-Some
returns-in-Some c =
    name_tested c.args.generators.now (c.args.from, c.args.via.now) c.args.word.now c.args.read c.in-Some.number.now (stands c.args.word.now c.args.read c.in-Some.number.now c.in-Some.ensures.lookup.3.0 c.in-Some.ensures.lookup.1) c.is_number_of.ensures

pub returns-in-None : goal.returns-in-None
returns-in-None c = (λ f. absurd (search rules), λ names. absurd (nothing_named c.args.generators.now (c.args.from, c.args.via.now) c.args.word.now c.args.read c.in-None.ensures.lookup.3 names))
