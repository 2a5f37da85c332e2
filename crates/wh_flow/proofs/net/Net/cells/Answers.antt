use Rattle.std.proofs.Common.{◌*◌, subst}
use Rattle.wh_flow.specs.Nets.{Net}
use Rattle.wh_flow.specs.Searches.{IsOfLetters}
use Rattle.wh_flow.proofs.NetEdges.{net_letters, cell_few}
use Rattle.wh_flow.proofs.net.Net.cells.Goals as goal

pub returns-clause-of_letters : goal.returns-clause-of_letters
returns-clause-of_letters c = subst (λ (n : Net). IsOfLetters (2 * n.rank) c.self.inside.cells) c.self.view_is
    (net_letters (record { rank = c.self.inside.rank; cells = c.self.inside.cells }) c.self.invariant.0)

pub returns-clause-low : goal.returns-clause-low
returns-clause-low c x y i j = cell_few (record { rank = c.self.inside.rank; cells = c.self.inside.cells }) c.self.invariant.0 x y i j
