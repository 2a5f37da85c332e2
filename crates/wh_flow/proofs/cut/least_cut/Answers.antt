use Rattle.std.proofs.Common.{◌≢◌, ℕ, subst, List}
use Rattle.wh_words.specs.LetterSets.{in_set}
use Rattle.wh_words.specs.Flows.{IsFlow, IsMaximum, IsLeastCut}
use Rattle.wh_flow.specs.Tables.{cell}
use Rattle.wh_flow.proofs.cut.least_cut.Goals as goal

-- What a set is for the tables n and f and the source v.
abbrev Cut : ℕ → ℕ → List ℕ → List ℕ → ℕ → Type 0
Cut set t n f v = v ≢ t → IsFlow (cell n) (cell f) v t → IsMaximum (cell n) (cell f) v t → IsLeastCut (cell n) v t (in_set set)

pub returns-clause-cut : goal.returns-clause-cut
returns-clause-cut c =
    subst (λ (n : List ℕ). Cut c.reached.result c.args.t n c.args.flow.now c.args.s) c.cells.ensures.cells
    (subst (λ (f : List ℕ). Cut c.reached.result c.args.t c.cells.result.now f c.args.s) c.flow.view_is
    (subst (λ (v : ℕ). Cut c.reached.result c.args.t c.cells.result.now c.flow.inside.table v) c.index-2.ensures.same
    (c.reached.ensures.cut c.args.t c.index.ensures.below)))
    c.requires.apart c.requires.flow c.requires.maximum
