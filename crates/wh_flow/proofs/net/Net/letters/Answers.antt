use Rattle.std.proofs.Common.{◌*◌, subst}
use Rattle.wh_flow.specs.Nets.{Net}
use Rattle.wh_flow.specs.Searches.{IsOfLetters}
use Rattle.wh_flow.proofs.NetEdges.{net_letters}
use Rattle.wh_flow.proofs.net.Net.letters.Goals as goal

pub returns-clause-of_letters : goal.returns-clause-of_letters
returns-clause-of_letters c = subst (λ (n : Net). IsOfLetters (2 * n.rank) n.cells) c.self.view_is
    (net_letters (record { rank = c.self.inside.rank; cells = c.self.inside.cells }) c.self.invariant.0)
