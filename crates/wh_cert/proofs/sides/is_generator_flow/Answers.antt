use Rattle.std.proofs.Common.{◌≡◌, ℕ, ◌*◌, sym, ◌∙◌, subst, arith}
use Rattle.std.proofs.lemmas.Bool.{false≢true}
use Rattle.wh_words.specs.Letters.{inverse_letter}
use Rattle.wh_words.specs.Flows.{IsFlow}
use Rattle.wh_flow.specs.Tables.{cell}
use Rattle.wh_cert.proofs.Flowing.{flow_tested, flow_degree, flow_value}
use Rattle.wh_cert.proofs.sides.is_generator_flow.Goals as goal

pub returns-then-value-deg : goal.returns-then-value-deg
returns-then-value-deg c end is graph = (
  λ f. absurd (false≢true f),
  λ h. absurd (c.if-value-deg.true (flow_degree c.args.net.now end is graph c.requires.rank c.args.g c.args.head.0 c.args.head.1 c.args.flow.now (omega (arith, c.index.ensures.same, c.index.ensures.below)) h ∙ sym c.deg.ensures)),
)

pub returns : goal.returns
returns c end is graph =
    let letter : c.args.head.0 ≡ 2 * c.args.g = omega (arith, c.index.ensures.same, c.if-index-g.false) in
    let flow : IsFlow (cell c.args.net.now.cells) (cell c.args.flow.now) c.args.head.0 (inverse_letter c.args.head.0) =
    subst (λ (t : ℕ). IsFlow (cell c.args.net.now.cells) (cell c.args.flow.now) c.args.head.0 t) c.inverse.ensures (c.check_flow.ensures.0 c.if-not-check_flow.false) in (
      λ h. flow_tested c.args.net.now end is graph c.requires.rank c.args.g c.args.head.0 c.args.head.1 c.args.flow.now (omega (arith, c.index.ensures.same, c.index.ensures.below)) letter (c.if-value-deg.false ∙ c.deg.ensures) flow
          (c.has_value.ensures.0 h),
      λ h. c.has_value.ensures.1 (flow_value c.args.net.now end is graph c.requires.rank c.args.g c.args.head.0 c.args.head.1 c.args.flow.now (omega (arith, c.index.ensures.same, c.index.ensures.below)) h),
    )
