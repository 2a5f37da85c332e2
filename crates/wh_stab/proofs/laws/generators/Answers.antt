use Rattle.wh_stab.proofs.FirstWalkTrees.{first_walks_span}
use Rattle.wh_stab.proofs.Words.{fix_the_tuple, generate, automorphisms_are_words, generators_unique}
use Rattle.wh_stab.proofs.laws.generators.Goals as goal

pub returns-clause-spans : goal.returns-clause-spans
returns-clause-spans c = first_walks_span

pub returns-clause-fix : goal.returns-clause-fix
returns-clause-fix c = fix_the_tuple

pub returns-clause-generate : goal.returns-clause-generate
returns-clause-generate c = generate

pub returns-clause-automorphisms : goal.returns-clause-automorphisms
returns-clause-automorphisms c = automorphisms_are_words

pub returns-clause-unique : goal.returns-clause-unique
returns-clause-unique c = generators_unique
