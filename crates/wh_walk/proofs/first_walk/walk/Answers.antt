use Rattle.std.proofs.Common.{◌∙◌, sym, ap, length, subst, arith}
use Rattle.std.proofs.lemmas.Option.{slice_get_within}
use Rattle.wh_words.specs.Levels.{IsFirstWalk}
use Rattle.wh_level.specs.Trees.{IsRooted, path_to}
use Rattle.wh_level.proofs.Paths.{closed_rooted, first_path}
use Rattle.wh_walk.proofs.first_walk.walk.Goals as goal

pub tree_path-requires-clause-rooted : goal.tree_path-requires-clause-rooted
tree_path-requires-clause-rooted c = subst IsRooted (sym c.parents.ensures.parents) (closed_rooted c.args.level.now c.parents.ensures.closed)

pub tree_path-requires-clause-within : goal.tree_path-requires-clause-within
tree_path-requires-clause-within c =
    omega (arith, ap length c.parents.ensures.parents, c.parents.ensures.closed.parents.count, slice_get_within c.args.level.now.tuples c.in-Some.place c.args.target.now.plain c.in-Some.ensures.place)

pub returns-in_ok-tree_path-in-Some : goal.returns-in_ok-tree_path-in-Some
returns-in_ok-tree_path-in-Some c =
    subst (IsFirstWalk c.args.level.now.root c.args.target.now.plain) (sym (c.in_ok-tree_path-in-Some.ensures ∙ ap (λ p. path_to p c.in-Some.place) c.parents.ensures.parents))
    (first_path c.args.level.now c.in-Some.place c.args.target.now.plain c.parents.ensures.closed c.in-Some.ensures.place)
