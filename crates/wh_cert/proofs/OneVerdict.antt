-- Of a certificate one thing is found: the first demand that isn't met is one. For the law on verdicts.
use Rattle.std.proofs.Common.{◌≡◌, ℕ, List, [], ◌∷◌, ◌++◌, get_or, sym, ap, ap₂, ◌∙◌, refl, subst}
use Rattle.std.proofs.lemmas.List.Elements.{All-head, All-tail}
use Rattle.wh_cert.specs.declared.checked.Rule.{Rule}
use Rattle.wh_cert.specs.declared.checked.Checked.TheVariants.{Valid, Invalid}
use Rattle.wh_cert.specs.Demands.{rule_of, IsMet, Placed, asked}
use Rattle.wh_cert.specs.Checks.{AreMet, IsFirstBroken}
use Rattle.wh_cert.specs.Laws.{FindsOne}

-- the demands that aren't met, behind two lists of demands that are
one_broken : (before others : List Placed) (d e : Placed) (after rest : List Placed) → AreMet before → AreMet others → ¬ (IsMet d.1) → ¬ (IsMet e.1) →
    before ++ d ∷ after ≡ others ++ e ∷ rest → d ≡ e
one_broken [] [] d e after rest met also unmet not_met h = cc
one_broken [] (x ∷ xs) d e after rest met also unmet not_met h =
    let same : x ≡ d = (cc) in
    absurd (unmet (subst (λ (p : Placed). IsMet p.1) same (All-head (λ p. IsMet p.1) x xs also)))
one_broken (x ∷ xs) [] d e after rest met also unmet not_met h =
    let same : x ≡ e = (cc) in
    absurd (not_met (subst (λ (p : Placed). IsMet p.1) same (All-head (λ p. IsMet p.1) x xs met)))
one_broken (x ∷ xs) (y ∷ ys) d e after rest met also unmet not_met h =
    let tails : xs ++ d ∷ after ≡ ys ++ e ∷ rest = (cc) in
    one_broken xs ys d e after rest (All-tail (λ p. IsMet p.1) x xs met) (All-tail (λ p. IsMet p.1) y ys also) unmet not_met tails

-- no demand of a list that is met is the first that isn't
none_broken : (before : List Placed) (d : Placed) (after : List Placed) → AreMet (before ++ d ∷ after) → IsMet d.1
none_broken [] d after met = All-head (λ p. IsMet p.1) d after met
none_broken (x ∷ xs) d after met = none_broken xs d after (All-tail (λ p. IsMet p.1) x (xs ++ d ∷ after) met)

met_or_broken : (ds : List Placed) (place : ℕ) (rule : Rule) → AreMet ds → IsFirstBroken ds place rule → ⊥
met_or_broken ds place rule met b = b.unmet (none_broken b.before (place, b.broken) b.after (subst AreMet b.parts met))

pub finds_one : FindsOne
finds_one c Valid Valid met also = refl
finds_one c Valid (Invalid line rule) met also = absurd (met_or_broken (asked c.flow_heads c.tree_heads c.answer) also.place rule met also.first)
finds_one c (Invalid line rule) Valid first met = absurd (met_or_broken (asked c.flow_heads c.tree_heads c.answer) first.place rule met first.first)
finds_one c (Invalid line rule) (Invalid other another) a b =
    let same = one_broken a.first.before b.first.before (a.place, a.first.broken) (b.place, b.first.broken) a.first.after b.first.after a.first.met b.first.met a.first.unmet b.first.unmet (sym a.first.parts ∙ b.first.parts) in
    ap₂ (λ l r. Invalid l r) (a.number ∙ ap (λ (p : Placed). get_or c.lines p.0 0) same ∙ sym b.number) (a.first.asks ∙ ap (λ (p : Placed). rule_of p.1) same ∙ sym b.first.asks)
