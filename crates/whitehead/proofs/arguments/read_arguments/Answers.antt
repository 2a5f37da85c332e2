use Rattle.std.proofs.Common.{rules, ◌≡◌, ◌∙◌, sym, subst, map, codes, Result, List, ℕ}
use Rattle.clap.specs.Words.{found_of, first_value}
use Rattle.whitehead.specs.declared.arguments.Arguments.{Arguments}
use Rattle.whitehead.specs.declared.arguments.WordsError.{WordsError}
use Rattle.whitehead.specs.Asked.{Tells, asked, asked_by}
use Rattle.whitehead.proofs.Parsed.{asked_is, refused, tells_found}
use Rattle.whitehead.proofs.arguments.read_arguments.Goals as goal

pub returns-in-Ok : goal.returns-in-Ok
returns-in-Ok c =
    let words : List (List ℕ) = map (λ w. w.now) c.args.words.now in
    let f = found_of c.in-Ok.found in
    let e : c.arguments_of.result ≡ asked_by (first_value f (codes "COMMAND")) (first_value f (codes "limit")) (first_value f (codes "workers")) = search rules in
    subst (λ (r : Result Arguments WordsError). Tells r (asked words)) (sym c.ok_or.ensures.value)
    (tells_found c.arguments_of.result (asked words) (asked_is words f c.in-Ok.ensures.fails c.in-Ok.ensures.matches ∙ sym e))

pub returns : goal.returns
returns c = refused (map (λ w. w.now) c.args.words.now) c.in-Err.error c.in-Err.ensures.fails (search rules)
