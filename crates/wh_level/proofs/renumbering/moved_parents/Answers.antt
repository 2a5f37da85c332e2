use Rattle.std.proofs.Common.{◌≡◌, get_or, None, ap, ◌∙◌, arith}
use Rattle.std.proofs.lemmas.List.{get_or_default}
use Rattle.wh_level.specs.Trees.{moved_parent}
use Rattle.wh_level.proofs.OtherPlaces.{moved_more}
use Rattle.wh_level.proofs.renumbering.moved_parents.Goals as goal

pub loop-place-preserved : goal.loop-place-preserved
loop-place-preserved c =
    let parent : c.index-parents-place.result ≡ get_or c.args.parents.now c.loop-place.place None =
    c.index-parents-place.is ∙ get_or_default c.args.parents.now c.loop-place.place c.index-parents-place.result None (omega (arith, c.loop-place-test.true, c.requires.count)) in
    moved_more c.args.places.now c.args.parents.now c.loop-place.moved.items c.loop-place.place c.moved_parent.result c.requires.others c.loop-place-test.true
    (c.moved_parent.ensures ∙ ap (moved_parent c.args.places.now) parent) c.loop-place.invariant
