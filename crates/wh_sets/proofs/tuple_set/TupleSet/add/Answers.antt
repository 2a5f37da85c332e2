use Rattle.std.proofs.Common.{sym, ◌∙◌, subst}
use Rattle.wh_sets.specs.TupleSets.{IsAdded}
use Rattle.wh_sets.proofs.SetLists.{plains, added_known, added_new}
use Rattle.wh_sets.proofs.tuple_set.TupleSet.add.Goals as goal

pub returns-in_ok-insert-clause-added : goal.returns-in_ok-insert-clause-added
returns-in_ok-insert-clause-added c =
    subst (λ old. IsAdded old c.args.tuple.now.plain (plains c.insert.new.self.keys)) c.self.view_is
    (added_new c.self.inside.tuples.keys c.insert.new.self.keys c.args.tuple.now c.in_ok-copy.field-0 (sym c.contains.ensures ∙ c.if-not-contains.true) c.in_ok-copy.ensures.same c.in_ok-insert.ensures.keys)

pub returns-else-not-contains-clause-added : goal.returns-else-not-contains-clause-added
returns-else-not-contains-clause-added c =
    subst (λ old. IsAdded old c.args.tuple.now.plain old) c.self.view_is
    (added_known c.self.inside.tuples.keys c.args.tuple.now (sym c.contains.ensures ∙ c.if-not-contains.false))
