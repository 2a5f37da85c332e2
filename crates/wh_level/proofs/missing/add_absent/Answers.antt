use Rattle.std.proofs.Common.{◌≡◌, ◌∙◌, ◌<◌, ◌+◌, ◌++◌, ◌∷◌, [], List, length, take, sym, ap, subst, arith}
use Rattle.std.proofs.lemmas.List.{take_more, take_all}
use Rattle.wh_words.specs.Moves.{Move}
use Rattle.wh_words.specs.Tuples.{TupleData, Tuple}
use Rattle.wh_words.specs.Action.{act}
use Rattle.wh_expand.specs.Rows.{row_tuple}
use Rattle.wh_sets.specs.TupleSets.{IsAdded}
use Rattle.wh_level.proofs.Absent.{FoundBy, found_by_kept, found_by_more, found_by_all, absent_from, there_from}
use Rattle.wh_level.proofs.Rooms.{rooms_of_image, item_of, level_at}
use Rattle.wh_level.proofs.missing.add_absent.Goals.{then-is_none+in_ok-add, else-is_none}
use Rattle.wh_level.proofs.missing.add_absent.Goals as goal

pub image_place-requires-clause-level : goal.image_place-requires-clause-level
image_place-requires-clause-level c = level_at (row_tuple c.args.row.now) c.items-m-items.result.now c.args.row.now.moves c.loop-m.m-index c.m-item.result c.requires.row c.items-m-items.ensures (omega arith) c.m-item.is

pub loop-m-preserved : goal.loop-m-preserved
loop-m-preserved c =
    let t : TupleData = row_tuple c.args.row.now in
    let moves : List Move = c.args.row.now.moves in
    let m : Move = c.m-item.result in
    let within : c.loop-m.m-index < length moves = omega (arith, ap length c.items-m-items.ensures) in
    let more : take c.loop-m.m-index moves ++ m ∷ [] ≡ take (c.loop-m.m-index + 1) moves =
    ap (λ (n : Move). take c.loop-m.m-index moves ++ n ∷ []) (item_of c.items-m-items.result.now moves c.loop-m.m-index m c.items-m-items.ensures c.m-item.is) ∙ sym (take_more moves c.loop-m.m-index m within) in
    record {
      rooms = rooms_of_image (act t m) c.loop-m.invariant.rooms c.image_place.ensures.image;
      found = subst (λ (ms : List Move). FoundBy c.args.places.now t ms c.args.found.now c.if-is_none.found) more (elim c.if-is_none.branch [
        | then-is_none+in_ok-add w ↦
            subst (FoundBy c.args.places.now t (take c.loop-m.m-index moves ++ m ∷ []) c.args.found.now) (sym w.found-is)
            (found_by_more c.args.places.now t (take c.loop-m.m-index moves) m c.args.found.now c.loop-m.found w.add.new.self
            (absent_from c.args.places.now (act t m) c.image_place.result c.is_none.result c.image_place.ensures.place c.is_none.ensures w.if-is_none.true)
            (subst (λ (u : TupleData). IsAdded c.loop-m.found u w.add.new.self) (ap (λ (x : Tuple). x.plain) c.image_place.ensures.image) w.in_ok-add.ensures.added)
            c.loop-m.invariant.found)
        | else-is_none w ↦
            subst (FoundBy c.args.places.now t (take c.loop-m.m-index moves ++ m ∷ []) c.args.found.now) (sym w.found-is)
            (found_by_kept c.args.places.now t (take c.loop-m.m-index moves) m c.args.found.now c.loop-m.found
            (there_from c.args.places.now (act t m) c.image_place.result c.is_none.result c.image_place.ensures.place c.is_none.ensures w.if-is_none.false)
            c.loop-m.invariant.found)
      ]);
    }

pub returns-clause-found : goal.returns-clause-found
returns-clause-found c =
    found_by_all c.args.places.now (row_tuple c.args.row.now) c.args.row.now.moves c.args.found.now c.loop-m.found c.requires.row
    (subst (λ (ms : List Move). FoundBy c.args.places.now (row_tuple c.args.row.now) ms c.args.found.now c.loop-m.found) (take_all c.loop-m.m-index c.args.row.now.moves (omega (arith, ap length c.items-m-items.ensures))) c.loop-m.invariant.found)
