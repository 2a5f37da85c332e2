use Rattle.std.proofs.Common.{ℕ, List, length, sym, ap, ◌∙◌, subst}
use Rattle.wh_sets.proofs.SetLists.{plains}
use Rattle.wh_level.specs.Trees.{Parents, AreMoved, AreOtherPlaces, AreWithin}
use Rattle.wh_level.specs.GrowingLevels.{GrowingData, HasGoneOver}
use Rattle.wh_level.proofs.OtherPlaces.{all_there, closed_places, closed_level, closed_parents, parents_before, closed_count}
use Rattle.wh_level.proofs.growing_level.GrowingLevel.close.Goals as goal

pub other_places-requires : goal.other_places-requires
other_places-requires c =
    let gone = subst (λ (x : GrowingData). HasGoneOver c.args.root.now.plain x (length x.tuples)) (sym c.self.view_is) c.requires.whole in
    all_there gone c.sort.new.self c.in_ok-sort.ensures.same c.in_ok-sort.ensures.sorted (plains c.deref.result.now) (ap plains c.deref.ensures.value ∙ c.in_ok-found.ensures)

pub moved_parents-requires-clause-others : goal.moved_parents-requires-clause-others
moved_parents-requires-clause-others c =
    let gone = subst (λ (x : GrowingData). HasGoneOver c.args.root.now.plain x (length x.tuples)) (sym c.self.view_is) c.requires.whole in
    subst AreOtherPlaces (sym c.deref-3.ensures.value)
    (closed_places gone c.sort.new.self c.in_ok-sort.ensures.same c.in_ok-sort.ensures.sorted (plains c.deref.result.now) (ap plains c.deref.ensures.value ∙ c.in_ok-found.ensures) c.in_ok-places.places.items c.in_ok-places.ensures)

pub moved_parents-requires-clause-within : goal.moved_parents-requires-clause-within
moved_parents-requires-clause-within c =
    let gone = subst (λ (x : GrowingData). HasGoneOver c.args.root.now.plain x (length x.tuples)) (sym c.self.view_is) c.requires.whole in
    let copies = ap plains c.deref.ensures.value ∙ c.in_ok-found.ensures in
    subst (λ (n : ℕ). AreWithin n c.deref-2.result.now) (sym (ap length c.deref-3.ensures.value ∙ c.in_ok-places.ensures.count ∙ ap length copies))
    (subst (AreWithin (length c.self.inside.tuples)) (sym c.deref-2.ensures.value) (parents_before gone c.sort.new.self c.in_ok-sort.ensures.same c.in_ok-sort.ensures.sorted))

pub level_of-requires-clause-level : goal.level_of-requires-clause-level
level_of-requires-clause-level c =
    let gone = subst (λ (x : GrowingData). HasGoneOver c.args.root.now.plain x (length x.tuples)) (sym c.self.view_is) c.requires.whole in
    closed_level gone c.sort.new.self c.in_ok-sort.ensures.same c.in_ok-sort.ensures.sorted

pub level_of-requires-clause-parents : goal.level_of-requires-clause-parents
level_of-requires-clause-parents c =
    let gone = subst (λ (x : GrowingData). HasGoneOver c.args.root.now.plain x (length x.tuples)) (sym c.self.view_is) c.requires.whole in
    let places : List ℕ = c.in_ok-places.places.items in
    let moved : Parents = c.in_ok-parents.parents.items in
    closed_parents gone c.sort.new.self c.in_ok-sort.ensures.same c.in_ok-sort.ensures.sorted (plains c.deref.result.now) (ap plains c.deref.ensures.value ∙ c.in_ok-found.ensures) places c.in_ok-places.ensures moved
    (subst (λ (ps : Parents). AreMoved places ps (length places) moved) c.deref-2.ensures.value (subst (λ (vs : List ℕ). AreMoved vs c.deref-2.result.now (length vs) moved) c.deref-3.ensures.value c.in_ok-parents.ensures))

pub returns-clause-count : goal.returns-clause-count
returns-clause-count c =
    let gone = subst (λ (x : GrowingData). HasGoneOver c.args.root.now.plain x (length x.tuples)) (sym c.self.view_is) c.requires.whole in
    closed_count gone c.sort.new.self c.in_ok-sort.ensures.same c.in_ok-sort.ensures.sorted c.level_of.result c.level_of.ensures.tuples (ap (λ (x : GrowingData). length x.tuples) c.self.view_is)
