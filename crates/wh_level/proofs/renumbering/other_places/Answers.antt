use Rattle.std.proofs.Common.{◌≡◌, ◌+◌, ◌++◌, ◌∷◌, [], ℕ, List, take, sym, ap, ◌∙◌, subst, arith}
use Rattle.std.proofs.lemmas.List.{take_more, map_push}
use Rattle.wh_words.specs.Tuples.{TupleData, Tuple}
use Rattle.wh_sets.proofs.SetLists.{plains}
use Rattle.wh_level.specs.PlacedTuples.{ArePlaces}
use Rattle.wh_level.proofs.OtherPlaces.{has_place, places_more}
use Rattle.wh_level.proofs.Placings.{place_of}
use Rattle.wh_level.proofs.renumbering.other_places.Goals as goal

pub unwrap-requires : goal.unwrap-requires
unwrap-requires c = has_place c.args.tuples.now c.args.places.now c.loop-tuple.tuple-index c.tuple-item.result c.place.result c.requires (omega arith) c.tuple-item.is c.place.ensures

pub loop-tuple-preserved : goal.loop-tuple-preserved
loop-tuple-preserved c =
    let more : plains (take (c.loop-tuple.tuple-index + 1) c.args.tuples.now) ≡ plains (take c.loop-tuple.tuple-index c.args.tuples.now) ++ c.tuple-item.result.plain ∷ [] =
    ap plains (take_more c.args.tuples.now c.loop-tuple.tuple-index c.tuple-item.result (omega arith) ∙ ap (λ (t : Tuple). take c.loop-tuple.tuple-index c.args.tuples.now ++ t ∷ []) (sym c.tuple-item.is))
    ∙ map_push (λ (t : Tuple). t.plain) (take c.loop-tuple.tuple-index c.args.tuples.now) c.tuple-item.result in
    subst (λ (ts : List TupleData). ArePlaces ts c.args.places.now c.push.new.self.items) (sym more)
    (subst (λ (vs : List ℕ). ArePlaces (plains (take c.loop-tuple.tuple-index c.args.tuples.now) ++ c.tuple-item.result.plain ∷ []) c.args.places.now vs) (sym c.in_ok-push.ensures.items)
    (places_more (plains (take c.loop-tuple.tuple-index c.args.tuples.now)) c.args.places.now c.loop-tuple.others.items c.loop-tuple.invariant c.tuple-item.result.plain c.unwrap.result
    (place_of c.args.places.now c.tuple-item.result.plain c.place.result c.unwrap.result c.place.ensures c.unwrap.ensures)))
