use Rattle.std.proofs.Common.{◌≡◌, ◌∙◌, ◌+◌, ◌++◌, ◌∷◌, [], List, take, map, sym, ap, subst, arith}
use Rattle.std.proofs.lemmas.List.{take_more, take_all}
use Rattle.wh_words.specs.Tuples.{Tuple}
use Rattle.wh_expand.specs.declared.row.Row.{Row}
use Rattle.wh_level.proofs.Absent.{FoundOf, found_of_start, found_of_root, found_of_more, missed_found, absent_from, there_from}
use Rattle.wh_level.proofs.Rooms.{rooms_itself, rooms_then}
use Rattle.wh_level.proofs.missing.missing_in.Goals.{then-is_none+in_ok-add, else-is_none}
use Rattle.wh_level.proofs.missing.missing_in.Goals as goal

pub loop-row-init : goal.loop-row-init
loop-row-init c = record {
  rooms = rooms_itself c.args.image.now;
  found = elim c.if-is_none.branch [
    | then-is_none+in_ok-add w ↦
        subst (FoundOf c.args.root.now.plain c.args.places.now []) (sym w.found-is)
        (found_of_root c.args.root.now.plain c.args.places.now c.args.found.now w.add.new.self
        (absent_from c.args.places.now c.args.root.now.plain c.place.result c.is_none.result c.place.ensures c.is_none.ensures w.if-is_none.true)
        c.requires.none_found w.in_ok-add.ensures.added)
    | else-is_none w ↦
        subst (FoundOf c.args.root.now.plain c.args.places.now []) (sym w.found-is)
        (found_of_start c.args.root.now.plain c.args.places.now c.args.found.now
        (there_from c.args.places.now c.args.root.now.plain c.place.result c.is_none.result c.place.ensures c.is_none.ensures w.if-is_none.false)
        c.requires.none_found)
  ];
}

pub loop-row-preserved : goal.loop-row-preserved
loop-row-preserved c =
    let more : take c.loop-row.row-index c.args.rows.now ++ c.row-item.result ∷ [] ≡ take (c.loop-row.row-index + 1) c.args.rows.now =
    ap (λ (r : Row). take c.loop-row.row-index c.args.rows.now ++ r ∷ []) c.row-item.is ∙ sym (take_more c.args.rows.now c.loop-row.row-index c.row-item.result (omega arith)) in
    record {
      rooms = rooms_then c.loop-row.invariant.rooms c.in_ok-add_absent.ensures.rooms;
      found = subst (λ (rs : List Row). FoundOf c.args.root.now.plain c.args.places.now rs c.add_absent.new.found) more
          (found_of_more c.args.root.now.plain c.args.places.now (take c.loop-row.row-index c.args.rows.now) c.row-item.result c.loop-row.found c.add_absent.new.found
          c.in_ok-add_absent.ensures.found c.loop-row.invariant.found);
    }

pub returns-clause-exact : goal.returns-clause-exact
returns-clause-exact c =
    missed_found c.args.root.now.plain c.args.rows.now c.args.places.now c.loop-row.found c.sort.new.self (map (λ (t : Tuple). t.plain) c.of.result) c.requires.placing
    (subst (λ (rs : List Row). FoundOf c.args.root.now.plain c.args.places.now rs c.loop-row.found) (take_all c.loop-row.row-index c.args.rows.now (omega arith)) c.loop-row.invariant.found)
    c.in_ok-sort.ensures.same (ap (map (λ (t : Tuple). t.plain)) c.of.ensures ∙ c.in_ok-copies.ensures)
