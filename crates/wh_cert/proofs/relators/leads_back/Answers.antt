use Rattle.std.proofs.Common.{ℕ, ◌<◌, length, get_or, refl, ap, arith}
use Rattle.std.proofs.lemmas.List.{length-map}
use Rattle.wh_words.specs.Tuples.{Tuple}
use Rattle.wh_data.specs.AnswerData.{plains, parts_of}
use Rattle.wh_cert.proofs.Rising.{numbers_tested}
use Rattle.wh_cert.proofs.RelatorNumbers.{leads_back_tested}
use Rattle.wh_cert.proofs.relators.leads_back.Goals as goal

pub returns : goal.returns
returns c =
    let at : ℕ = c.args.relator.now.at in
    let within : at < length (plains c.args.parts.now.vertices) = omega (arith, c.requires.within, length-map c.args.parts.now.vertices (λ (t : Tuple). t.plain)) in
    let last : ℕ = get_or c.args.stops.now (length c.args.relator.now.moves) 0 in
    leads_back_tested (parts_of c.args.parts.now) at c.args.relator.now.moves c.args.stops.now last c.requires.parts within c.requires.stops refl
    (numbers_tested (get_or c.args.stops.now (length c.items.result.now) 0) at last at (ap (λ (n : ℕ). get_or c.args.stops.now n 0) (ap length c.items.ensures)) refl)
