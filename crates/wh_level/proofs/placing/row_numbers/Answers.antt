use Rattle.std.proofs.Common.{map, get_or, refl, arith}
use Rattle.std.proofs.lemmas.List.{length-map}
use Rattle.std.proofs.lemmas.Option.{slice_get_within}
use Rattle.wh_words.specs.Tuples.{TupleData}
use Rattle.wh_expand.specs.Rows.{row_tuple}
use Rattle.wh_level.proofs.Placings.{row_here, has_place, place_of, numbers_more, numbers_all}
use Rattle.wh_level.proofs.placing.row_numbers.Goals as goal

pub unwrap-place-requires : goal.unwrap-place-requires
unwrap-place-requires c =
    let t : TupleData = row_tuple (get_or c.args.rows.now c.loop-number.number c.index-rows-number.result) in
    has_place (map row_tuple c.args.rows.now) c.args.places.now c.loop-number.number t c.place.result c.requires
    (row_here c.args.rows.now c.loop-number.number c.index-rows-number.result (omega arith)) c.place.ensures

pub index_mut-requires : goal.index_mut-requires
index_mut-requires c =
    let t : TupleData = row_tuple (get_or c.args.rows.now c.loop-number.number c.index-rows-number.result) in
    omega (arith, c.loop-number.invariant.count, slice_get_within c.args.places.now c.unwrap-place.result t (place_of c.args.places.now t c.place.result c.unwrap-place.result c.place.ensures c.unwrap-place.ensures))

pub loop-number-preserved : goal.loop-number-preserved
loop-number-preserved c =
    let t : TupleData = row_tuple (get_or c.args.rows.now c.loop-number.number c.index-rows-number.result) in
    numbers_more (map row_tuple c.args.rows.now) c.args.places.now c.loop-number.numbers.items _ c.loop-number.number c.unwrap-place.result t c.requires.sorted c.loop-number.invariant
    (row_here c.args.rows.now c.loop-number.number c.index-rows-number.result (omega arith))
    (place_of c.args.places.now t c.place.result c.unwrap-place.result c.place.ensures c.unwrap-place.ensures) refl

pub returns : goal.returns
returns c = numbers_all (map row_tuple c.args.rows.now) c.args.places.now c.loop-number.numbers.items c.loop-number.number c.requires (omega (arith, length-map c.args.rows.now row_tuple)) c.loop-number.invariant
