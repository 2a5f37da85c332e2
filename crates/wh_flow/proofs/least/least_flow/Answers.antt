use Rattle.std.proofs.Common.{ℕ, ◌≡◌, ◌∙◌, sym, ap, subst, inl, arith, List}
use Rattle.wh_words.specs.Flows.{IsWithin, place}
use Rattle.wh_flow.specs.Tables.{cell, pair_count}
use Rattle.wh_flow.specs.Residuals.{ResidualNet}
use Rattle.wh_flow.specs.Rerouting.{HaveOneNetFlow, IsFirstUpTo}
use Rattle.wh_flow.specs.Searches.{IsOfLetters}
use Rattle.wh_flow.proofs.Rerouted.{first_done, first_past}
use Rattle.wh_flow.proofs.least.least_flow.Goals as goal

pub returns-clause-first : goal.returns-clause-first
returns-clause-first c =
    let cap : c.of-residual.result.cap ≡ c.args.net.now.cells = ap (λ (r : ResidualNet). r.cap) c.of-residual.ensures in
    let flow : c.of-residual.result.flow ≡ c.args.flow.now = ap (λ (r : ResidualNet). r.flow) c.of-residual.ensures in
    let within : IsWithin (cell c.args.net.now.cells) (cell c.into_flow.result) =
    subst (λ (l : List ℕ). IsWithin (cell l) (cell c.into_flow.result)) (c.lower_all.ensures.cap ∙ cap) c.into_flow.ensures.within in
    let net : HaveOneNetFlow (cell c.args.flow.now) (cell c.into_flow.result) =
    subst (λ (l : List ℕ). HaveOneNetFlow (cell l) (cell c.into_flow.result)) flow
    (subst (λ (l : List ℕ). HaveOneNetFlow (cell c.of-residual.result.flow) (cell l)) (sym c.into_flow.ensures.same) c.lower_all.ensures.net) in
    let first : IsFirstUpTo (place c.letters.result 0) (cell c.args.net.now.cells) (cell c.into_flow.result) =
    subst (λ (l : List ℕ). IsFirstUpTo (place c.letters.result 0) (cell l) (cell c.into_flow.result)) cap
    (subst (λ (l : List ℕ). IsFirstUpTo (place c.letters.result 0) (cell c.of-residual.result.cap) (cell l)) (sym c.into_flow.ensures.same) c.lower_all.ensures.first) in
    let of_letters : IsOfLetters c.letters.result c.args.net.now.cells = subst (λ (k : ℕ). IsOfLetters k c.args.net.now.cells) (sym c.letters.ensures.value) c.letters.ensures.of_letters in
    first_done (cell c.args.net.now.cells) (cell c.args.flow.now) (cell c.into_flow.result) c.args.s c.args.t c.index-2.ensures.below c.requires.flow within net
    (first_past c.letters.result (place c.letters.result 0) pair_count c.args.net.now.cells c.into_flow.result of_letters within first (λ u v h i k l. inl (omega (arith, h, i, k))))

pub lower_all-requires-clause-of_letters : goal.lower_all-requires-clause-of_letters
lower_all-requires-clause-of_letters c = rw (c.letters.ensures.value, c.of-residual.ensures) c.letters.ensures.of_letters
